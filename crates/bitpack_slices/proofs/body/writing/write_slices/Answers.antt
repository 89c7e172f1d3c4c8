-- OR and XOR of a list and blocks are those of the blocks and the list.
use Rattle.std.proofs.Common.{List, ℕ, Bool, true, false, ◌<◌, ◌%◌, ◌≡◌, IfSome, length, map, refl, subst, sym, take, ◌∙◌}
use Rattle.std.proofs.lemmas.Bool.{false≢true}
use Rattle.bitpack_slices.proofs.lemmas.numbers.AnswerLaws.{those_same}
use Rattle.bitpack_slices.proofs.body.writing.write_slices.Goals as goal
use Rattle.bitpack_slices.specs.Body.{body}
use Rattle.bitpack_slices.specs.Lists.{listed_ids}
use Rattle.bitpack_slices.specs.Operations.{apply, combined}
use Rattle.bitpack_slices.specs.Reads.{has}
use Rattle.bitpack_slices.specs.Slices.{block_numbers}
use Rattle.bitpack_slices.specs.declared.operation.Operation.{Operation}
use Rattle.bitpack_slices.specs.declared.operation.Operation.TheVariants.{And, AndNot, Or, Xor}

turned : (operation : Operation) (p q : Bool) → apply operation false true ≡ true → apply operation p q ≡ apply operation q p
turned And p q right = absurd (false≢true right)
turned AndNot p q right = absurd (false≢true right)
turned Or true true right = refl
turned Or true false right = refl
turned Or false true right = refl
turned Or false false right = refl
turned Xor true true right = refl
turned Xor true false right = refl
turned Xor false true right = refl
turned Xor false false right = refl

combined_turned : (operation : Operation) (xs ys : List ℕ) → apply operation false true ≡ true → combined 65536 operation ys xs ≡ combined 65536 operation xs ys
combined_turned operation xs ys right =
    those_same 65536 (λ x. apply operation (has x ys) (has x xs)) (λ x. apply operation (has x xs) (has x ys)) (λ x small. turned operation (has x ys) (has x xs) right)

kept_left : (operation : Operation) → apply operation false true ≡ true → apply operation true false ≡ true
kept_left And right = right
kept_left AndNot right = refl
kept_left Or right = refl
kept_left Xor right = refl

pub write_listed-requires-in-Ids-Blocks-clause-left : goal.write_listed-requires-in-Ids-Blocks-clause-left
write_listed-requires-in-Ids-Blocks-clause-left c = kept_left c.args.operation (sym c.retains_right.ensures ∙ c.if-retains_right.true)

pub returns-in-Ids-Blocks-clause-count : goal.returns-in-Ids-Blocks-clause-count
returns-in-Ids-Blocks-clause-count c =
    let at = c.in-Ids-Blocks in
    let right = sym c.retains_right.ensures ∙ c.if-retains_right.true in
    rw (at.is-0, at.is-1)
    (subst (λ (l : List ℕ). IfSome c.write_listed-in-Ids-Blocks.result (λ written. written.0 ≡ length l))
    (combined_turned c.args.operation (map (λ id. id % 65536) (listed_ids at.list)) (block_numbers at.y.now) right) c.write_listed-in-Ids-Blocks.ensures.count)

pub returns-in-Ids-Blocks-clause-written : goal.returns-in-Ids-Blocks-clause-written
returns-in-Ids-Blocks-clause-written c =
    let at = c.in-Ids-Blocks in
    let right = sym c.retains_right.ensures ∙ c.if-retains_right.true in
    rw (at.is-0, at.is-1)
    (subst (λ (l : List ℕ). IfSome c.write_listed-in-Ids-Blocks.result (λ written. 0 < written.0 → take written.1 c.write_listed-in-Ids-Blocks.new.out ≡ body l))
    (combined_turned c.args.operation (map (λ id. id % 65536) (listed_ids at.list)) (block_numbers at.y.now) right) c.write_listed-in-Ids-Blocks.ensures.written)
