-- Numbers in order, and where a search among numbers ends.
use Rattle.std.specs.Prelude.{ℕ, ◌<◌, ◌≤◌, List, length, slice_index}

-- numbers in order, which may repeat
abbrev pub InOrder : List ℕ → Type 0
InOrder numbers = (i j : ℕ) → i ≤ j → j < length numbers → slice_index numbers i ≤ slice_index numbers j

-- from position old on, the first number that is at least a target is at position new, or none is and new is the end
pub record IsSoughtFrom (numbers : List ℕ) (target old new : ℕ) : Type 0 where
  pub forward : old ≤ new
  pub within : new ≤ length numbers
  pub before : (k : ℕ) → old ≤ k → k < new → slice_index numbers k < target
  pub enough : new < length numbers → target ≤ slice_index numbers new
