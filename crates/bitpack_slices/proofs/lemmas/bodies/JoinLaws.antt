-- Parts, and the numbers that they are got back from.
use Rattle.std.proofs.Common.{ℕ, ◌+◌, ◌*◌, ◌<◌, ◌≤◌, List, [], ◌∷◌, map, length, ap, ◌≡◌, refl, arith, take, drop, ◌++◌}
use Rattle.std.specs.List.{flat_map}
use Rattle.bitpack_slices.specs.Bodies.{IsRising}
use Rattle.bitpack_slices.specs.Slices.{AreSlices, slice_len, slice_numbers, numbers_of}

-- ---- numbers by their quotients

-- the numbers of parts
abbrev pub join : ℕ → List (ℕ × List ℕ) → List ℕ
join base ps = flat_map (λ part. map (λ low. part.0 * base + low) part.1) ps

-- increasing quotients from low on, below high, each with some increasing remainders
abbrev pub AreParts : ℕ → ℕ → ℕ → List (ℕ × List ℕ) → Type 0
AreParts base low high [] = low ≤ high
AreParts base low high (part ∷ ps) = (low ≤ part.0) × (0 < length part.1) × IsRising 0 base part.1 × AreParts base (part.0 + 1) high ps

-- ---- what is tested as blocks is the blocks of some numbers

-- the parts that are read
unfoldable pub build : List ℕ → List ℕ → List ℕ → List (ℕ × List ℕ)
build [] counts bytes = []
build (h ∷ hs) [] bytes = []
build (h ∷ hs) (less ∷ counts) bytes = (h, slice_numbers (less + 1) (take (slice_len (less + 1)) bytes)) ∷ build hs counts (drop (slice_len (less + 1)) bytes)

pub build_highs : (hs counts bytes : List ℕ) → length hs ≡ length counts → map (λ part. part.0) (build hs counts bytes) ≡ hs
unfolding build
build_highs [] counts bytes e = refl
build_highs (h ∷ hs) [] bytes e = absurd (omega arith)
build_highs (h ∷ hs) (less ∷ counts) bytes e = ap (λ (l : List ℕ). h ∷ l) (build_highs hs counts (drop (slice_len (less + 1)) bytes) (omega arith))

pub build_are : (low : ℕ) (hs counts bytes : List ℕ) → length hs ≡ length counts → IsRising low 256 hs → AreSlices counts bytes → AreParts 256 low 256 (build hs counts bytes)
unfolding build
build_are low [] counts bytes e rises are = rises
build_are low (h ∷ hs) [] bytes e rises are = absurd (omega arith)
build_are low (h ∷ hs) (less ∷ counts) bytes e (a, r) (room, is, later) =
    let some : length (slice_numbers (less + 1) (take (slice_len (less + 1)) bytes)) ≡ less + 1 = is.count_is in
    (a, omega arith, is.rising, build_are (h + 1) hs counts (drop (slice_len (less + 1)) bytes) (omega arith) r later)

pub below_top : (low high : ℕ) (xs : List ℕ) → IsRising low high xs → low ≤ high
below_top low high [] r = r
below_top low high (x ∷ xs) (a, r) = let ih = below_top (x + 1) high xs r in omega arith

-- ---- what is tested as blocks is the blocks of the numbers that are read

pub numbers_built : (hs counts bytes : List ℕ) → numbers_of hs counts bytes ≡ join 256 (build hs counts bytes)
unfolding numbers_of build
numbers_built [] counts bytes = refl
numbers_built (h ∷ hs) [] bytes = refl
numbers_built (h ∷ hs) (less ∷ counts) bytes =
    ap (λ (l : List ℕ). map (λ low. h * 256 + low) (slice_numbers (less + 1) (take (slice_len (less + 1)) bytes)) ++ l) (numbers_built hs counts (drop (slice_len (less + 1)) bytes))
