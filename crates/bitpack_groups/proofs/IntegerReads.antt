-- An integer of one to four bytes, by its bytes; and the room of those end to end.
use Rattle.std.proofs.Common.{◌≡◌, ℕ, zero, suc, ◌+◌, ◌*◌, ◌^◌, ◌<◌, ◌≤◌, ◌-◌, List, take, drop, get_or, slice_index, refl, ap, ◌∙◌, arith}
use Rattle.std.proofs.lemmas.List.{get_or-drop, get_or-take}
use Rattle.std.proofs.lemmas.Nat.{mul-le}
use Rattle.bitpacking.specs.Words.{joined}
use Rattle.bitpack_groups.specs.Numbers.{short_at}

pub joined_same : (f g : ℕ → ℕ) (k : ℕ) → ((i : ℕ) → f i ≡ g i) → joined 8 f k ≡ joined 8 g k
unfolding joined
joined_same f g zero h = refl
joined_same f g (suc k) h = ap (λ (n : ℕ). n * 2 ^ (8 * k) + joined 8 f k) (h k) ∙ ap (λ (n : ℕ). g k * 2 ^ (8 * k) + n) (joined_same f g k h)

from_there : (size start index : ℕ) (bytes : List ℕ) → short_at size (drop start bytes) index ≡ joined 8 (λ i. get_or bytes (start + size * index + i) 0) size
unfolding short_at
from_there size start index bytes =
    joined_same (λ i. slice_index (drop start bytes) (size * index + i)) (λ i. get_or bytes (start + size * index + i) 0) size
    (λ i. get_or-drop start bytes (size * index + i) 0 ∙ (let e : start + (size * index + i) ≡ start + size * index + i = omega arith in ap (λ (n : ℕ). get_or bytes n 0) e))

module _ (start index : ℕ) (bytes : List ℕ) where
  first_byte : (from : ℕ) → get_or bytes (from + 0) 0 ≡ get_or bytes from 0
  first_byte from = let e : from + 0 ≡ from = omega arith in ap (λ (n : ℕ). get_or bytes n 0) e

  pub short_one : (size : ℕ) → size ≡ 1 → short_at size (drop start bytes) index ≡ get_or bytes (start + size * index) 0
  unfolding joined
  short_one size e =
      let from : ℕ = start + size * index in
      let here = first_byte from in
      from_there size start index bytes ∙ ap (joined 8 (λ i. get_or bytes (from + i) 0)) e ∙ omega arith

  pub short_two : (size : ℕ) → size ≡ 2 → short_at size (drop start bytes) index ≡ get_or bytes (start + size * index) 0 + 256 * get_or bytes (start + size * index + 1) 0
  unfolding joined
  short_two size e =
      let from : ℕ = start + size * index in
      let here = first_byte from in
      from_there size start index bytes ∙ ap (joined 8 (λ i. get_or bytes (from + i) 0)) e ∙ omega arith

  pub short_three : (size : ℕ) → size ≡ 3 → short_at size (drop start bytes) index
      ≡ get_or bytes (start + size * index) 0 + 256 * get_or bytes (start + size * index + 1) 0 + 65536 * get_or bytes (start + size * index + 2) 0
  unfolding joined
  short_three size e =
      let from : ℕ = start + size * index in
      let here = first_byte from in
      from_there size start index bytes ∙ ap (joined 8 (λ i. get_or bytes (from + i) 0)) e ∙ omega arith

  pub short_four : (size : ℕ) → size ≡ 4 → short_at size (drop start bytes) index
      ≡ get_or bytes (start + size * index) 0 + 256 * get_or bytes (start + size * index + 1) 0 + 65536 * get_or bytes (start + size * index + 2) 0
      + 16777216 * get_or bytes (start + size * index + 3) 0
  unfolding joined
  short_four size e =
      let from : ℕ = start + size * index in
      let here = first_byte from in
      from_there size start index bytes ∙ ap (joined 8 (λ i. get_or bytes (from + i) 0)) e ∙ omega arith

-- one of so many is within all of them
pub within_all : (size index count : ℕ) → index < count → size * index + size ≤ size * count
within_all size index count h = let e = mul-le size (index + 1) size count (omega arith) (omega arith) in grind arith

-- byte k of the part from a to b is byte i of the whole
pub cut_byte : (a b k i : ℕ) (xs : List ℕ) → a + k ≡ i → i < b → get_or (take (b - a) (drop a xs)) k 0 ≡ get_or xs i 0
cut_byte a b k i xs e h = get_or-take (b - a) (drop a xs) k 0 (omega arith) ∙ get_or-drop a xs k 0 ∙ ap (λ (n : ℕ). get_or xs n 0) e
