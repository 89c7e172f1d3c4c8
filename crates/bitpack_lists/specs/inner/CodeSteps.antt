-- Values and codes one after the other, of inner functions.
use Rattle.std.specs.Prelude.{ℕ, ◌+◌, ◌%◌, ◌^◌, List, [], ◌∷◌}

-- each code and so much more, added to the value before it
abbrev pub sums : ℕ → ℕ → List ℕ → List ℕ
sums before more [] = []
sums before more (code ∷ codes) = ((before + code + more) % 2 ^ 32) ∷ sums ((before + code + more) % 2 ^ 32) more codes
