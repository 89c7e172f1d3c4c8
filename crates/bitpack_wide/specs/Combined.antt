-- What operations on wide sets give.
use Rattle.std.specs.Prelude.{◌≡◌, ℕ, ◌^◌, ◌<◌, ◌≤◌, List, length, Result, Err}
use Rattle.bitpack_slices.specs.Operations.{combined}
use Rattle.bitpack_slices.specs.declared.operation.Operation.{Operation}
use Rattle.bitpack_wide.specs.Written.{WritesWide}
use Rattle.bitpack_wide.specs.declared.wide_error.WideError.{WideError}
use Rattle.bitpack_wide.specs.declared.wide_error.WideError.TheVariants.{Short}

-- the ids of the answer of two wide sets
abbrev pub answer : Operation → List ℕ → List ℕ → List ℕ
answer operation xs ys = combined (2 ^ 64) operation xs ys

-- the encoding of the ids is written, or they are refused, or the slice is too short; or work space for `space` ids is too little, and nothing changed
pub record PutsWide (space : ℕ) (ids : List ℕ) (result : Result ℕ WideError) (old new : List ℕ) : Type 0 where
  pub enough : length ids ≤ space → WritesWide ids result old new
  pub short : space < length ids → (result ≡ Err Short) × (new ≡ old)
