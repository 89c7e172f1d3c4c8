-- The bytes of the slice are the first of 32.
use Rattle.std.proofs.Common.{List, ℕ, ◌+◌, ◌++◌, ◌∙◌, ap, length, map, take}
use Rattle.bitpack_slices.proofs.lemmas.slices.SelectionLaws.{matched_first}
use Rattle.bitpack_slices.proofs.slice.selecting.unpack_matches.Goals as goal

pub returns-clause-end : goal.returns-clause-end
returns-clause-end c =
    let a = c.args.a in
    c.unpack_chosen.ensures.end
    ∙ ap (λ (l : List ℕ). c.args.at + length l)
    (matched_first a.slices.now a.start a.count c.combined_matches-matches.result c.bytes_from.result a.there c.requires.few c.combined_matches-matches.ensures.matches c.bytes_from.ensures.bytes
    ∙ c.combined_matches-matches.ensures.numbers)

pub returns-clause-values : goal.returns-clause-values
returns-clause-values c =
    let a = c.args.a in
    c.unpack_chosen.ensures.values
    ∙ ap (λ (l : List ℕ). take c.args.at c.args.out.now ++ map (λ i. c.args.base + i) l)
    (matched_first a.slices.now a.start a.count c.combined_matches-matches.result c.bytes_from.result a.there c.requires.few c.combined_matches-matches.ensures.matches c.bytes_from.ensures.bytes
    ∙ c.combined_matches-matches.ensures.numbers)
