-- What the lemmas of this crate speak of.
use Rattle.std.proofs.Common.{◌≡◌, ℕ, ◌*◌, ◌^◌, ◌<◌, ◌≤◌, List, ◌∷◌, ◌++◌, length}
use Rattle.bitpack_slices.specs.Bodies.{IsRising, parts}
use Rattle.bitpack_sets.specs.Sets.{array, body, long}
use Rattle.bitpack_sets.specs.Varints.{number}

-- a body and its count of numbers are those of no other chunk
abbrev pub OneBody : Type 0
OneBody = (xs ys : List ℕ) → IsRising 0 65536 xs → IsRising 0 65536 ys → length xs ≡ length ys → body xs ≡ body ys → xs ≡ ys

-- a varint at the front tells itself from what follows
abbrev pub NumbersPart : Type 0
NumbersPart = (x y : ℕ) (xs ys : List ℕ) → x < 2 ^ 32 → y < 2 ^ 32 → number x ++ xs ≡ number y ++ ys → (x ≡ y) × (xs ≡ ys)

-- the encoding of 128 ids or more is that of no others
abbrev pub OneLong : Type 0
OneLong = (xs ys : List ℕ) → IsRising 0 (2 ^ 32) xs → IsRising 0 (2 ^ 32) ys → length xs ≤ 2 ^ 28 → length ys ≤ 2 ^ 28 → long xs ≡ long ys → xs ≡ ys

-- these ids stand as an array, after byte 0
pub record IsArray (ids bytes : List ℕ) : Type 0 where
  pub rising : IsRising 0 (2 ^ 32) ids
  pub many : 128 ≤ length ids
  pub few : length ids ≤ 2 ^ 28
  pub apart : length ids < 4 * length (parts (2 ^ 16) ids)
  pub encoding : array ids ≡ 6 ∷ bytes
