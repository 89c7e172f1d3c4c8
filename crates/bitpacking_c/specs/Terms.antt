-- What a term has.
use Rattle.std.specs.Prelude.{ℕ, List, [], ◌∷◌, replicate}

-- a term that was not started adds nothing to a score
abbrev pub table_or_zeros : List ℕ → List ℕ
table_or_zeros [] = replicate 256 0
table_or_zeros (part ∷ parts) = part ∷ parts
