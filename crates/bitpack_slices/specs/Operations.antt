-- Operations on sets: each says of an id whether the answer has it, by whether each set has it.
use Rattle.std.specs.Prelude.{ℕ, ◌^◌, Bool, false, not, ◌&&◌, ◌||◌, if◌then◌else◌, List}
use Rattle.std.specs.List.{filter, range_with_len}
use Rattle.bitpack_slices.specs.Reads.{has}
use Rattle.bitpack_slices.specs.declared.operation.Operation.{Operation}
use Rattle.bitpack_slices.specs.declared.operation.Operation.TheVariants.{And, Or, AndNot, Xor}

-- whether the answer has an id
abbrev pub apply : Operation → Bool → Bool → Bool
apply And a b = a && b
apply Or a b = a || b
apply AndNot a b = a && not b
apply Xor a b = if a then not b else b

-- the numbers below a bound that pass a test
unfoldable pub those : ℕ → (ℕ → Bool) → List ℕ
those bound passes = filter passes (range_with_len 0 bound)

-- those that an operation on two sets gives
abbrev pub combined : ℕ → Operation → List ℕ → List ℕ → List ℕ
combined bound operation xs ys = those bound (λ x. apply operation (has x xs) (has x ys))

-- the ids of the answer of two sets
abbrev pub answer : Operation → List ℕ → List ℕ → List ℕ
answer operation xs ys = combined (2 ^ 32) operation xs ys

-- an operation on two operands can give ids, by whether each has some
abbrev pub can_give : Operation → Bool → Bool → Bool
can_give operation a b = apply operation a b || apply operation a false || apply operation false b
