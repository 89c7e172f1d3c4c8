-- What the calls that give a set return.
use Rattle.std.specs.Prelude.{◌≡◌, ℕ, ◌*◌, ℤ, negsuc, List, None, Some, length}
use Rattle.bitpack_slices.specs.declared.operation.Operation.{Operation}
use Rattle.bitpack_queries.specs.Gathered.{PutsSet, most_keys}
use Rattle.bitpack_queries.specs.Operations.{answer_all}
use Rattle.bitpack_queries.specs.Queries.{answer_of, query_fault}
use Rattle.bitpack_queries.specs.declared.query_error.QueryError.{QueryError}
use Rattle.bitpack_queries.specs.declared.step.Step.{Step}
use Rattle.bitpack_queries.specs.declared.step.Step.TheVariants.{Combine, Set}
use Rattle.bitpacking_c.specs.IdSets.{NumbersSet}
use Rattle.bitpacking_c.specs.SetQueries.{refusal}

-- the number stands for what is written of these ids, with work space for `space` items
abbrev pub Puts : List (List ℕ) → List ℕ → ℕ → List ℕ → List ℕ → ℤ → Type 0
Puts sets ids space before after number = NumbersSet number (λ written. PutsSet space (4 * most_keys sets) ids written before after)

-- the step is no operation, the number says so, and nothing is written; or the number stands for what the operation writes
pub record CombinesSet (step : Step) (sets : List (List ℕ)) (space : ℕ) (before after : List ℕ) (number : ℤ) : Type 0 where
  pub unknown : (set : ℕ) → step ≡ Set set → (number ≡ negsuc 22) × (after ≡ before)
  pub known : (operation : Operation) → step ≡ Combine operation → Puts sets (answer_all operation sets) space before after number

-- the query has a fault, the number and the position say so, and nothing else is written; or the number stands for what the query writes
pub record PacksQuery (sets : List (List ℕ)) (steps : List Step) (bitmaps space : ℕ) (position : ℕ × ℕ) (before after : List ℕ) (number : ℤ) : Type 0 where
  pub refused : (fault : QueryError) → query_fault bitmaps (length sets) steps ≡ Some fault → ((number, position.1) ≡ refusal fault) × (after ≡ before)
  pub position_is : query_fault bitmaps (length sets) steps ≡ None → position.1 ≡ position.0
  pub packed : query_fault bitmaps (length sets) steps ≡ None → Puts sets (answer_of sets steps) space before after number
