-- A byte, the first id and the groups of the codes.
use Rattle.std.proofs.Common.{◌≡◌, ◌<◌, List, ℕ, ap, arith, length, rules, subst, sym}
use Rattle.bitpack_sets.proofs.lemmas.encodings.FewLaws.{codes_of, codes_run, few_size, groups_encoding, no_ids}
use Rattle.bitpack_sets.proofs.encoding.few.few_len.Goals as goal
use Rattle.bitpack_sets.specs.Varints.{AreGroups, groups_of}

pub returns-then-is_empty : goal.returns-then-is_empty
returns-then-is_empty c = let none : length c.args.ids.now ≡ 0 = search rules in sym (ap length (no_ids c.args.ids.now none))

pub returns : goal.returns
returns c =
    let ids : List ℕ = c.args.ids.now in
    let some : 0 < length ids = search rules in
    let size = few_size ids some in
    let number = c.number_len.ensures.len in
    let codes : c.copy_gaps.new.out ≡ codes_of ids = c.copy_gaps.ensures in
    let groups : c.groups_len.result ≡ length (groups_encoding ids) =
    c.groups_len.ensures.len (groups_encoding ids) (subst (λ (l : List ℕ). AreGroups (groups_of (length l)) l (groups_encoding ids)) (sym codes) (codes_run ids c.requires.set some)) in
    omega arith
