-- The parts of the encoding have their places.
use Rattle.std.proofs.Common.{◌≡◌, ◌+◌, ◌∷◌, ◌++◌, List, ℕ, ap, arith, length, subst, sym, ◌∙◌, get_or}
use Rattle.bitpack_sets.proofs.lemmas.written.BodyFilled.{one_set}
use Rattle.bitpack_sets.proofs.lemmas.encodings.FewLaws.{all_of, codes_of, codes_one, codes_run, few_encoding, few_size, groups_encoding}
use Rattle.bitpack_sets.proofs.encoding.few.write_some.Goals as goal
use Rattle.bitpack_sets.specs.Varints.{AreGroups, groups_of, number}

pub split_at_mut-head-requires : goal.split_at_mut-head-requires
split_at_mut-head-requires c = let size = few_size c.args.ids.now c.requires.some in let long = c.requires.size in omega arith

pub split_at_mut-first-requires : goal.split_at_mut-first-requires
split_at_mut-first-requires c =
    let size = few_size c.args.ids.now c.requires.some in
    let long = c.requires.size in
    let one = c.split_at_mut-head.ensures.back_len in
    let number = c.number_len-size.ensures.len in
    omega arith

pub write_groups-requires : goal.write_groups-requires
write_groups-requires c = record {
  room = λ groups are.
      let ids : List ℕ = c.args.ids.now in
      let codes : c.copy_gaps.new.out ≡ codes_of ids = c.copy_gaps.ensures in
      let same = ap length (codes_one ids groups c.requires.set c.requires.some (subst (λ (l : List ℕ). AreGroups (groups_of (length l)) l groups) codes are)) in
      let size = few_size ids c.requires.some in
      let long = c.requires.size in
      let one = c.split_at_mut-head.ensures.back_len in
      let two = c.split_at_mut-first.ensures.back_len in
      let number = c.number_len-size.ensures.len in
      omega arith;
}

pub returns : goal.returns
returns c =
    let ids : List ℕ = c.args.ids.now in
    let x : ℕ = get_or ids 0 0 in
    let codes : c.copy_gaps.new.out ≡ codes_of ids = c.copy_gaps.ensures in
    let run : AreGroups (groups_of (length c.copy_gaps.new.out)) c.copy_gaps.new.out (groups_encoding ids) =
    subst (λ (l : List ℕ). AreGroups (groups_of (length l)) l (groups_encoding ids)) (sym codes) (codes_run ids c.requires.set c.requires.some) in
    let size = few_size ids c.requires.some in
    let long = c.requires.size in
    let one = c.split_at_mut-head.ensures.back_len in
    let two = c.split_at_mut-first.ensures.back_len in
    let first_len = c.split_at_mut-first.ensures.front_len in
    let number_len = c.number_len-size.ensures.len in
    let written = c.write_number.ensures.len in
    let unchanged = c.write_number.auto.bytes in
    let unchanged' = c.write_groups.auto.bytes in
    let first : c.write_number.new.bytes ≡ number x = all_of c.write_number.result c.write_number.new.bytes (number x) c.write_number.ensures.number (omega arith) in
    let rest : c.write_groups.new.bytes ≡ groups_encoding ids =
    all_of (length (groups_encoding ids)) c.write_groups.new.bytes (groups_encoding ids) (c.write_groups.ensures.groups (groups_encoding ids) run) (omega arith) in
    ap (λ (l : List ℕ). l ++ (c.write_number.new.bytes ++ c.write_groups.new.bytes)) (one_set c.split_at_mut-head.result.0.now (128 + length ids) c.split_at_mut-head.ensures.front_len)
    ∙ ap (λ (l : List ℕ). (128 + length ids) ∷ (l ++ c.write_groups.new.bytes)) first
    ∙ ap (λ (l : List ℕ). (128 + length ids) ∷ (number x ++ l)) rest ∙ sym (few_encoding ids c.requires.some)
