-- Operations on sets: each says of an id whether the answer has it, by whether each set has it.
use Rattle.std.specs.Prelude.{ℕ, ◌^◌, Bool, false, List, [], ◌∷◌, map}
use Rattle.std.specs.List.{fold}
use Rattle.bitpack_slices.specs.Reads.{has}
use Rattle.bitpack_slices.specs.declared.operation.Operation.{Operation}
use Rattle.bitpack_slices.specs.Operations.{apply, those}

-- the first set combined with each other in turn; of none it is false
abbrev pub folded : Operation → List Bool → Bool
folded operation [] = false
folded operation (a ∷ others) = fold (apply operation) a others

-- the ids of the answer of any number of sets
abbrev pub answer_all : Operation → List (List ℕ) → List ℕ
answer_all operation sets = those (2 ^ 32) (λ x. folded operation (map (has x) sets))
