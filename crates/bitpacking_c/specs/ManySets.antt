-- What the calls on many id sets return: the ids that all have, that any has, or that the first has and no other.
use Rattle.std.specs.Prelude.{◌≡◌, ℕ, ◌<◌, ◌≤◌, ℤ, pos, negsuc, List, length, map, take}
use Rattle.bitpack_slices.specs.declared.operation.Operation.{Operation}
use Rattle.bitpack_queries.specs.Operations.{answer_all}
use Rattle.bitpack_sets.specs.Reads.{ids_in}
use Rattle.bitpacking_c.specs.declared.set_view.SetView.{SetView}

-- the ids of each view
abbrev pub ids_of_views : List SetView → List (List ℕ)
ids_of_views views = map (λ view. ids_in view.bytes.now) views

-- these ids are written to the front, and their number is the result; or there is no room for them, and the result is -3
pub record WritesIds (ids before after : List ℕ) (answer : ℤ) : Type 0 where
  pub short : length before < length ids → answer ≡ negsuc 2
  pub count : length ids ≤ length before → answer ≡ pos (length ids)
  pub ids_are : length ids ≤ length before → take (length ids) after ≡ ids

-- the ids that an operation on sets gives are written so
abbrev pub CombinesSets : Operation → List SetView → List ℕ → List ℕ → ℤ → Type 0
CombinesSets operation views = WritesIds (answer_all operation (ids_of_views views))

-- the result is how many ids an operation on sets gives
abbrev pub CountsSets : Operation → List SetView → ℤ → Type 0
CountsSets operation views answer = answer ≡ pos (length (answer_all operation (ids_of_views views)))
