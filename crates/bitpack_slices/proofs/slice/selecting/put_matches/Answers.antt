-- The bytes of the slice are the first of 32.
use Rattle.std.proofs.Common.{List, ℕ, ◌≡◌, ◌+◌, ◌++◌, ◌∙◌, ap, arith, length, refl, take}
use Rattle.bitpack_slices.proofs.lemmas.slices.SelectionLaws.{few_there, matched_few, matched_first}
use Rattle.bitpack_slices.proofs.slice.selecting.put_matches.Goals as goal
use Rattle.bitpack_slices.specs.Operations.{combined}
use Rattle.bitpack_slices.specs.Selections.{bytes_of, matched, numbers_at}

written : (c : goal.After-slice_known-2-1) → matched c.combined_matches-matches.result c.bytes_from.result ≡ combined 256 c.args.operation (numbers_at c.args.a) (numbers_at c.args.b)
written c =
    let a = c.args.a in
    matched_first a.slices.now a.start a.count c.combined_matches-matches.result c.bytes_from.result a.there c.requires.few c.combined_matches-matches.ensures.matches c.bytes_from.ensures.bytes
    ∙ c.combined_matches-matches.ensures.numbers

pub returns-clause-few : goal.returns-clause-few
returns-clause-few c =
    let a = c.args.a in
    let own = few_there a.slices.now a.start a.count (bytes_of a) a.there c.requires.few refl in
    let few = matched_few c.combined_matches-matches.result (bytes_of a) own.few c.combined_matches-matches.ensures.matches in
    let same = ap length c.combined_matches-matches.ensures.numbers in
    let all = ap length (written c) in
    omega (arith, c.put_chosen.ensures.end)

pub returns-clause-end : goal.returns-clause-end
returns-clause-end c = c.put_chosen.ensures.end ∙ ap (λ (l : List ℕ). c.args.at + length l) (written c)

pub returns-clause-values : goal.returns-clause-values
returns-clause-values c = c.put_chosen.ensures.values ∙ ap (λ (l : List ℕ). take c.args.at c.args.out.now ++ l) (written c)
