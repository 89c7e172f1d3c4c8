-- What the call on a query over sets returns.
use Rattle.std.specs.Prelude.{◌≡◌, ℕ, ◌++◌, ◌==◌, if◌then◌else◌, ℤ, pos, negsuc, List, length, min, take, None, Some}
use Rattle.bitpack_slices.specs.Reads.{ids_from}
use Rattle.bitpack_queries.specs.Queries.{answer_of, query_fault}
use Rattle.bitpack_slices.specs.declared.operation.Operation.TheVariants.{And, AndNot, Or, Xor}
use Rattle.bitpack_queries.specs.declared.query_error.QueryError.{QueryError}
use Rattle.bitpack_queries.specs.declared.query_error.QueryError.TheVariants.{LeftOver, MissingOperand, NoSet, Short, TooDeep}
use Rattle.bitpack_queries.specs.declared.step.Step.{Step}
use Rattle.bitpack_queries.specs.declared.step.Step.TheVariants.{Combine, Set}
use Rattle.bitpacking_c.specs.ManySets.{ids_of_views}
use Rattle.bitpacking_c.specs.declared.set_view.SetView.{SetView}

-- the step of a number: the last four are operations, and others are indexes of views
unfoldable pub step_of : ℕ → Step
step_of number =
    if number == 4294967295 then Combine And
    else if number == 4294967294 then Combine Or
    else if number == 4294967293 then Combine AndNot
    else if number == 4294967292 then Combine Xor
    else Set number

-- what a call with a fault returns, and which step has it, how many operands are left, or how many wait at once
abbrev pub refusal : QueryError → ℤ × ℕ
refusal (NoSet step) = (negsuc 7, step)
refusal (TooDeep step) = (negsuc 8, step)
refusal (MissingOperand step) = (negsuc 9, step)
refusal (LeftOver operands) = (negsuc 10, operands)
refusal (Short operands) = (negsuc 2, operands)
refusal fault = (negsuc 10, 0)

-- the ids of the answer from one on
abbrev pub ids_of_query : List SetView → List Step → ℕ → List ℕ
ids_of_query views steps next = ids_from next (answer_of (ids_of_views views) steps)

-- the query has a fault, the result and the position say so, and nothing else is written; or the ids from `next` on are written, as many as there
-- are and fit, their number is the result, and those from the new `next` on are left. `next`, `position` and `space` are before and after the call.
pub record AnswersQuery (views : List SetView) (steps : List Step) (bitmaps : ℕ) (next position : ℕ × ℕ) (space : List ℕ × List ℕ) (before after : List ℕ) (answer : ℤ) : Type 0 where
  pub refused : (fault : QueryError) → query_fault bitmaps (length views) steps ≡ Some fault
      → ((answer, position.1) ≡ refusal fault) × (next.1 ≡ next.0) × (after ≡ before) × (space.1 ≡ space.0)
  pub position_is : query_fault bitmaps (length views) steps ≡ None → position.1 ≡ position.0
  pub count : query_fault bitmaps (length views) steps ≡ None → answer ≡ pos (min (length before) (length (ids_of_query views steps next.0)))
  pub ids : query_fault bitmaps (length views) steps ≡ None
      → take (min (length before) (length (ids_of_query views steps next.0))) after ++ ids_of_query views steps next.1 ≡ ids_of_query views steps next.0
