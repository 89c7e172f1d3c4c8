-- What is looked up among increasing numbers.
use Rattle.std.specs.Prelude.{ℕ, ◌+◌, ◌==◌, Bool, nat_le, nat_lt, if◌then◌else◌, List, [], ◌∷◌}
use Rattle.std.specs.List.{filter, list_any}

-- a number is among these
abbrev pub has : ℕ → List ℕ → Bool
has x xs = list_any (λ y. y == x) xs

-- how many of these are below it
abbrev pub rank : ℕ → List ℕ → ℕ
rank x [] = 0
rank x (y ∷ ys) = (if nat_lt y x then 1 else 0) + rank x ys

-- ids that are not below one
abbrev pub ids_from : ℕ → List ℕ → List ℕ
ids_from least xs = filter (nat_le least) xs
