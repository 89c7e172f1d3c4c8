-- The one encoding of slices, of some of the numbers 0 to 255, and of bodies, of some of 0 to 65535. Both are increasing lists.
use Rattle.std.specs.Prelude.{ℕ, ◌+◌, ◌-◌, ◌/◌, ◌%◌, ◌^◌, ◌≤◌, ◌==◌, nat_lt, if◌then◌else◌, List, [], ◌∷◌, ◌++◌, map, length}
use Rattle.std.specs.List.{flat_map}
unfoldable pub use Rattle.bitpack_groups.specs.Packed.{le_bytes}

-- increasing numbers from `low` on, below `high`
abbrev pub IsRising : ℕ → ℕ → List ℕ → Type 0
IsRising low high [] = low ≤ high
IsRising low high (x ∷ xs) = (low ≤ x) × IsRising (x + 1) high xs

-- the number whose bits of 1 are these
unfoldable pub bits : List ℕ → ℕ
bits [] = 0
bits (x ∷ xs) = 2 ^ x + bits xs

-- ---- slices and bodies

-- the slice of some of the numbers 0 to 255
unfoldable pub slice : List ℕ → List ℕ
slice xs = if nat_lt (length xs) 32 then xs else if nat_lt (length xs) 256 then le_bytes 32 (bits xs) else []

-- increasing numbers by their quotients: each that occurs, with the remainders of its numbers
unfoldable pub with_number : ℕ → ℕ → List (ℕ × List ℕ) → List (ℕ × List ℕ)
with_number base x [] = (x / base, x % base ∷ []) ∷ []
with_number base x (part ∷ parts) =
    if part.0 == x / base then (part.0, x % base ∷ part.1) ∷ parts else (x / base, x % base ∷ []) ∷ part ∷ parts

unfoldable pub parts : ℕ → List ℕ → List (ℕ × List ℕ)
parts base [] = []
parts base (x ∷ xs) = with_number base x (parts base xs)

-- the count of high bytes less 1, their slice, for each how many numbers have it less 1, and the slice of the low bytes of these
unfoldable pub blocks_of : List (ℕ × List ℕ) → List ℕ
blocks_of slices = (length slices - 1) ∷ slice (map (λ part. part.0) slices) ++ map (λ part. length part.1 - 1) slices ++ flat_map (λ part. slice part.1) slices

abbrev pub blocks : List ℕ → List ℕ
blocks chunk = blocks_of (parts 256 chunk)

unfoldable pub numbers : List ℕ → List ℕ
numbers chunk = flat_map (le_bytes 2) chunk
