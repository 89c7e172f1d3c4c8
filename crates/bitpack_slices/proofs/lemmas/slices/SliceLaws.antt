-- A slice and its count determine its numbers.
use Rattle.std.proofs.Common.{◌≡◌, ℕ, ◌+◌, ◌*◌, ◌^◌, ◌-◌, ◌<◌, ◌≤◌, List, [], ◌∷◌, length, refl, sym, ap, ◌∙◌, arith, pow_pos, pow-add, lit<, inl, inr}
use Rattle.std.proofs.Math.Nat.{pow-le-pow_right}
use Rattle.std.proofs.lemmas.Bool.{cases_lt, cond_above, cond_below}
use Rattle.std.specs.Int.{bit_at}
use Rattle.std.proofs.lemmas.Nat.Bits.{bit_at_cat_low, bit_at-pow_same, bit_at-zero}
use Rattle.bitpack_slices.specs.Bodies.{IsRising, bits, le_bytes, slice}

pub rising_room : (low high : ℕ) (xs : List ℕ) → IsRising low high xs → low + length xs ≤ high
rising_room low high [] h = omega arith
rising_room low high (x ∷ xs) (a, b) = let r : (x + 1) + length xs ≤ high = rising_room (x + 1) high xs b in omega arith

ring : (p r q : ℕ) → p * r + q * (p * r * 2) ≡ (1 + 2 * q) * r * p
ring p r q = grind arith

pow_step : (q x low : ℕ) → low ≤ x → 2 ^ x + q * 2 ^ (x + 1) ≡ (1 + 2 * q) * 2 ^ (x - low) * 2 ^ low
pow_step q x low a =
    let same : low + (x - low) ≡ x = omega arith in
    let split : 2 ^ x ≡ 2 ^ low * 2 ^ (x - low) = ap (λ (n : ℕ). 2 ^ n) (sym same) ∙ pow-add 2 low (x - low) in
    let next : 2 ^ (x + 1) ≡ 2 ^ x * 2 = pow-add 2 x 1 in
    let all : 2 ^ low * 2 ^ (x - low) + q * (2 ^ low * 2 ^ (x - low) * 2) ≡ (1 + 2 * q) * 2 ^ (x - low) * 2 ^ low = ring (2 ^ low) (2 ^ (x - low)) q in
    rw next (rw split all)

-- the bits of numbers from `low` on are a multiple of 2 ^ low
pub bits_multiple : (low high : ℕ) (xs : List ℕ) → IsRising low high xs → (q : ℕ) × (bits xs ≡ q * 2 ^ low)
unfolding bits
bits_multiple low high [] h = (0, omega arith)
bits_multiple low high (x ∷ xs) (a, b) =
    let (q, e) = bits_multiple (x + 1) high xs b in
    ((1 + 2 * q) * 2 ^ (x - low), ap (λ (n : ℕ). 2 ^ x + n) e ∙ pow_step q x low a)

pub bit_below : (low high : ℕ) (xs : List ℕ) → IsRising low high xs → (i : ℕ) → i < low → bit_at (bits xs) i ≡ 0
bit_below low high xs h i less =
    let (q, e) = bits_multiple low high xs h in
    let cut : bit_at (q * 2 ^ low + 0) i ≡ bit_at 0 i = bit_at_cat_low q low 0 i less in
    let none : bit_at 0 i ≡ 0 = bit_at-zero i in
    let same : bits xs ≡ q * 2 ^ low + 0 = omega arith in
    ap (λ (n : ℕ). bit_at n i) same ∙ cut ∙ none

pub bit_first : (high x : ℕ) (xs : List ℕ) → IsRising (x + 1) high xs → bit_at (bits (x ∷ xs)) x ≡ 1
unfolding bits
bit_first high x xs h =
    let (q, e) = bits_multiple (x + 1) high xs h in
    let cut : bit_at (q * 2 ^ (x + 1) + 2 ^ x) x ≡ bit_at (2 ^ x) x = bit_at_cat_low q (x + 1) (2 ^ x) x (omega arith) in
    let one : bit_at (2 ^ x) x ≡ 1 = bit_at-pow_same x in
    let same : 2 ^ x + bits xs ≡ q * 2 ^ (x + 1) + 2 ^ x = omega arith in
    ap (λ (n : ℕ). bit_at n x) same ∙ cut ∙ one

-- two sets of numbers with the same bits have the same first number
first_same : (high x y : ℕ) (xs ys : List ℕ) → IsRising (x + 1) high xs → IsRising (y + 1) high ys → bits (x ∷ xs) ≡ bits (y ∷ ys) → x < y → ⊥
first_same high x y xs ys h k e less =
    let one : bit_at (bits (x ∷ xs)) x ≡ 1 = bit_first high x xs h in
    let none : bit_at (bits (y ∷ ys)) x ≡ 0 = bit_below y high (y ∷ ys) (omega arith, k) x less in
    let same : bit_at (bits (x ∷ xs)) x ≡ bit_at (bits (y ∷ ys)) x = ap (λ (n : ℕ). bit_at n x) e in
    omega arith

bits_pos : (x : ℕ) (xs : List ℕ) → 0 < bits (x ∷ xs)
unfolding bits
bits_pos x xs = let p : 0 < 2 ^ x = pow_pos x in omega arith

same_head : (high x y : ℕ) (xs ys : List ℕ) → IsRising (x + 1) high xs → IsRising (y + 1) high ys → bits (x ∷ xs) ≡ bits (y ∷ ys) → x ≡ y
same_head high x y xs ys h k e =
    elim (cases_lt x y) [
      | inl less ↦ absurd (first_same high x y xs ys h k e less)
      | inr more ↦ elim (cases_lt y x) [ inl less ↦ absurd (first_same high y x ys xs k h (sym e) less) | inr more' ↦ omega arith ]
    ]

bits_tail : (x : ℕ) (xs ys : List ℕ) → bits (x ∷ xs) ≡ bits (x ∷ ys) → bits xs ≡ bits ys
unfolding bits
bits_tail x xs ys e = omega arith

pub nil_apart : (y : ℕ) (ys : List ℕ) → bits [] ≡ bits (y ∷ ys) → ⊥
unfolding bits
nil_apart y ys e = let p : 0 < bits (y ∷ ys) = bits_pos y ys in omega arith

-- the bits of numbers determine them
pub bits_one : (low low' high : ℕ) (xs ys : List ℕ) → IsRising low high xs → IsRising low' high ys → bits xs ≡ bits ys → xs ≡ ys
bits_one low low' high [] [] h k e = refl
bits_one low low' high [] (y ∷ ys) h k e = absurd (nil_apart y ys e)
bits_one low low' high (x ∷ xs) [] h k e = absurd (nil_apart x xs (sym e))
bits_one low low' high (x ∷ xs) (y ∷ ys) (a, b) (a', b') e =
    let same : x ≡ y = same_head high x y xs ys b b' e in
    let moved : bits (y ∷ ys) ≡ bits (x ∷ ys) = ap (λ (n : ℕ). bits (n ∷ ys)) (sym same) in
    let rest : xs ≡ ys = bits_one (x + 1) (y + 1) high xs ys b b' (bits_tail x xs ys (e ∙ moved)) in
    cc

-- the bits of numbers from 0 to high are below 2 ^ high
pub bits_room : (low high : ℕ) (xs : List ℕ) → IsRising low high xs → bits xs + 2 ^ low ≤ 2 ^ high
unfolding bits
bits_room low high [] h = let r : 2 ^ low ≤ 2 ^ high = pow-le-pow_right (lit< tt) h in omega arith
bits_room low high (x ∷ xs) (a, b) =
    let r : bits xs + 2 ^ (x + 1) ≤ 2 ^ high = bits_room (x + 1) high xs b in
    let next : 2 ^ (x + 1) ≡ 2 ^ x * 2 = pow-add 2 x 1 in
    let up : 2 ^ low ≤ 2 ^ x = pow-le-pow_right (lit< tt) a in
    omega arith

-- the three forms of a slice
pub slice_few : (xs : List ℕ) → length xs < 32 → slice xs ≡ xs
unfolding slice
slice_few xs few = sym (cond_below (length xs) 32 xs _ few)

pub slice_some : (xs : List ℕ) → 32 ≤ length xs → length xs < 256 → slice xs ≡ le_bytes 32 (bits xs)
unfolding slice
slice_some xs more some = sym (cond_above (length xs) 32 _ _ _ more (cond_below (length xs) 256 _ _ some))

pub slice_many : (xs : List ℕ) → 256 ≤ length xs → slice xs ≡ []
unfolding slice
slice_many xs many = sym (cond_above (length xs) 32 _ _ _ (omega arith) (cond_above (length xs) 256 _ _ _ many refl))
