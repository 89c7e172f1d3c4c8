-- The matches are those of the numbers that the second slice has, or of the others.
use Rattle.std.proofs.Common.{Bool, List, ℕ, ◌∙◌, ◌^◌, ◌-◌, ◌&&◌, not, ap, bit_and, refl, sym}
use Rattle.bitpack_slices.proofs.lemmas.numbers.AnswerLaws.{those_same}
use Rattle.bitpack_slices.proofs.lemmas.slices.SelectionLaws.{few_there, mask_is, matched_those, matches_few, matches_found, of_both, of_first, other_matches}
use Rattle.bitpack_slices.proofs.slice.selecting.combined_matches.Goals as goal
use Rattle.bitpack_slices.specs.Operations.{apply, those}
use Rattle.bitpack_slices.specs.Reads.{has}
use Rattle.bitpack_slices.specs.Selections.{bytes_of, numbers_at}

pub returns-then-retains_left-clause-numbers : goal.returns-then-retains_left-clause-numbers
returns-then-retains_left-clause-numbers c =
    let a = c.args.a in
    let operation = c.args.operation in
    let bytes : List ℕ = bytes_of a in
    let few = few_there a.slices.now a.start a.count bytes a.there c.requires.few refl in
    let P : ℕ → Bool = λ x. has x (numbers_at c.args.b) in
    let others = matches_found c.matches_of-matches.result a.count bytes (bytes_of a) P refl few.size c.matches_of-matches.ensures in
    matched_those _ bytes (λ x. not (P x)) few.few few.rising (other_matches _ c.matches_of-matches.result bytes P c.matches_of-matches.type_inv others
    (ap (λ (n : ℕ). bit_and n (2 ^ 32 - 1 - c.matches_of-matches.result)) (mask_is a.count bytes few.size few.few)))
    ∙ ap (λ (l : List ℕ). those 256 (λ x. has x l && not (P x))) (sym few.numbers)
    ∙ those_same 256 (λ x. has x (numbers_at a) && not (P x)) (λ x. apply operation (has x (numbers_at a)) (P x)) (λ i small.
    of_first operation (has i (numbers_at a)) (P i) c.requires.operation (sym c.retains_left.ensures ∙ c.if-retains_left.true))

pub returns-clause-matches : goal.returns-clause-matches
returns-clause-matches c =
    let a = c.args.a in
    let bytes : List ℕ = bytes_of a in
    let few = few_there a.slices.now a.start a.count bytes a.there c.requires.few refl in
    let P : ℕ → Bool = λ x. has x (numbers_at c.args.b) in
    matches_few c.matches_of-matches.result bytes P c.matches_of-matches.type_inv few.few (matches_found c.matches_of-matches.result a.count bytes (bytes_of a) P refl few.size c.matches_of-matches.ensures)

pub returns-clause-numbers : goal.returns-clause-numbers
returns-clause-numbers c =
    let a = c.args.a in
    let operation = c.args.operation in
    let bytes : List ℕ = bytes_of a in
    let few = few_there a.slices.now a.start a.count bytes a.there c.requires.few refl in
    let P : ℕ → Bool = λ x. has x (numbers_at c.args.b) in
    matched_those c.matches_of-matches.result bytes P few.few few.rising (matches_found c.matches_of-matches.result a.count bytes (bytes_of a) P refl few.size c.matches_of-matches.ensures)
    ∙ ap (λ (l : List ℕ). those 256 (λ x. has x l && P x)) (sym few.numbers)
    ∙ those_same 256 (λ x. has x (numbers_at a) && P x) (λ x. apply operation (has x (numbers_at a)) (P x)) (λ i small.
    of_both operation (has i (numbers_at a)) (P i) c.requires.operation (sym c.retains_left.ensures ∙ c.if-retains_left.false))
