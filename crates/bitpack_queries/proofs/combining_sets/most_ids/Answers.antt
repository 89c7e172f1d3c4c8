-- An answer has no more ids than the sets whose ids it can have.
use Rattle.std.proofs.Common.{ℕ, ◌+◌, ◌^◌, ◌≤◌, ◌&&◌, List, ap, arith, length}
use Rattle.std.proofs.Math.Bool.{and_comm}
use Rattle.bitpack_slices.proofs.ForCallers.{those_same}
use Rattle.bitpack_slices.specs.Operations.{answer}
use Rattle.bitpack_slices.specs.Reads.{has}
use Rattle.bitpack_slices.specs.declared.operation.Operation.{Operation}
use Rattle.bitpack_slices.specs.declared.operation.Operation.TheVariants.{And, AndNot, Or, Xor}
use Rattle.bitpack_sets.specs.Sets.{IsSet}
use Rattle.bitpack_queries.proofs.lemmas.two.CountLaws.{not_len, or_len, xor_len}
use Rattle.bitpack_queries.proofs.combining_sets.most_ids.Goals as goal

answer_most : (operation : Operation) (xs ys : List ℕ) → IsSet xs → IsSet ys → length (answer operation xs ys) ≤ length xs + length ys
answer_most And xs ys set set' = let all = not_len (2 ^ 32) xs ys set.rising in omega arith
answer_most AndNot xs ys set set' = let all = not_len (2 ^ 32) xs ys set.rising in omega arith
answer_most Or xs ys set set' = let all = or_len (2 ^ 32) xs ys set.rising set'.rising in omega arith
answer_most Xor xs ys set set' = let all = xor_len (2 ^ 32) xs ys set.rising set'.rising in omega arith

pub returns-in-And : goal.returns-in-And
returns-in-And c = λ xs ys set set' a b.
    let one = not_len (2 ^ 32) xs ys set.rising in
    let other = not_len (2 ^ 32) ys xs set'.rising in
    let turned = ap length (those_same (2 ^ 32) (λ x. has x ys && has x xs) (λ x. has x xs && has x ys) (λ x h. and_comm (has x ys) (has x xs))) in
    let is = ap (λ (it : Operation). length (answer it xs ys)) c.in-And.is in
    omega (arith, c.min.ensures)

pub returns-in-AndNot : goal.returns-in-AndNot
returns-in-AndNot c = λ xs ys set set' a b.
    let all = not_len (2 ^ 32) xs ys set.rising in
    let is = ap (λ (it : Operation). length (answer it xs ys)) c.in-AndNot.is in
    omega arith

pub returns-in_default : goal.returns-in_default
returns-in_default c = λ xs ys set set' a b. let most = answer_most c.args.operation xs ys set set' in omega arith
