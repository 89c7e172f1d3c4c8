-- How many numbers are not above the one before.
use Rattle.std.specs.Prelude.{ℕ, ◌+◌, List, [], ◌∷◌, drop, if◌then◌else◌, nat_le, slice_index}

-- of numbers after a first one
unfoldable pub falls : ℕ → List ℕ → ℕ
falls x [] = 0
falls x (y ∷ ys) = (if nat_le y x then 1 else 0) + falls y ys

-- of those that begin slices of bytes, end to end after a first byte; each count less 1 is given
unfoldable pub edges : List ℕ → List ℕ → ℕ
edges [] window = 0
edges (less ∷ counts) window = (if nat_le (slice_index window 1) (slice_index window 0) then 1 else 0) + edges counts (drop (less + 1) window)
