-- The first number that is not below another.
use Rattle.std.proofs.Common.{◌≡◌, ℕ, ◌+◌, ◌%◌, ◌^◌, ◌-◌, ◌<◌, ◌≤◌, Bool, false, true, List, arith, cond, eqb-true, get_or, inl, inr, leb, length, map, min, refl, replicate, subst, sym, ap, ◌∙◌, take, w8}
use lib.Lanes.{mask_l, top, zip2}
use mir.Val.{hbits, bits}
use Rattle.std.specs.Int.{bit_at, trailing_zeros, w64}
use Rattle.std.specs.Int.Count.{trailing_of_zero}
use Rattle.std.proofs.lemmas.Bool.{cases_lt, le-leb, lt-leb, true≢false}
use Rattle.std.proofs.lemmas.List.{get_or-map, get_or-take, length-map, length-take-le}
use Rattle.std.proofs.lemmas.Nat.Bits.{bit_at-trailing_zeros, bit_at-zero}
use Rattle.std.proofs.lemmas.Simd.{bit_mask_l, mask_l-lt, mask_l-mod, tops_compared, zip2_splat_left}
use Rattle.bitpack_slices.proofs.lemmas.bits.CountLaws.{rising_to}
use Rattle.bitpack_slices.proofs.lemmas.bodies.PartLaws.{has_own}
use Rattle.bitpack_slices.proofs.lemmas.bodies.ReadLaws.{rank_le, rank_less}
use Rattle.bitpack_slices.proofs.lemmas.bytes.DecodeLaws.{rising_top}
use Rattle.bitpack_slices.proofs.lemmas.numbers.HalfLaws.{has_at_rank, rank_above, rank_under}
use Rattle.bitpack_slices.specs.Bitmaps.{has_bit}
use Rattle.bitpack_slices.specs.Bodies.{IsRising}
use Rattle.bitpack_slices.specs.Reads.{has, rank}
use Rattle.bitpack_slices.specs.Selections.{numbers_at}
use Rattle.bitpack_slices.specs.declared.slice.Slice.{Slice}

-- the number whose position is a rank is not below
pub not_below : (x low high p : ℕ) (xs : List ℕ) → IsRising low high xs → p ≡ rank x xs → p < length xs → x ≤ get_or xs p 0
not_below x low high p xs r e h = elim (cases_lt (get_or xs p 0) x) [
  | inl less ↦ (let more = rank_above x low high p xs r h less in absurd (omega arith))
  | inr more ↦ more
]

-- it is the first
pub first_is : (x low high p y : ℕ) (xs : List ℕ) → IsRising low high xs → p ≡ rank x xs → p < length xs → x ≤ y → has y xs ≡ true → ((i : ℕ) → x ≤ i → i < y → has i xs ≡ false) → y ≡ get_or xs p 0
first_is x low high p y xs r e h more there none =
    let own = get_or xs p 0 in
    let least = not_below x low high p xs r e h in
    elim (cases_lt own y) [
      | inl less ↦ absurd (true≢false (sym (has_own xs p h) ∙ none own least less))
      | inr ge ↦ (
          let q : ℕ = rank y xs in
          let within = rank_less y xs there in
          let under = rank_under y low high p xs r h ge in
          let at : get_or xs q 0 ≡ y = eqb-true (get_or xs q 0) y (sym (has_at_rank y low high q xs r refl within) ∙ there) in
          let over = rank_under x low high q xs r within (omega arith) in
          let same : q ≡ p = omega arith in
          sym at ∙ ap (λ (n : ℕ). get_or xs n 0) same)
    ]

-- a number that is there has its rank as its position
pub there_is : (x low high p : ℕ) (xs : List ℕ) → IsRising low high xs → p ≡ rank x xs → has x xs ≡ true → get_or xs p 0 ≡ x
there_is x low high p xs r e h = let less = rank_less x xs h in eqb-true (get_or xs p 0) x (sym (has_at_rank x low high p xs r e (omega arith)) ∙ h)

-- one more is below the number after it
pub rank_next : (x low high p : ℕ) (xs : List ℕ) → IsRising low high xs → p ≡ rank x xs → has x xs ≡ true → p + 1 ≡ rank (x + 1) xs
rank_next x low high p xs r e h =
    let within = rank_less x xs h in
    let own = there_is x low high p xs r e h in
    let more = rank_above (x + 1) low high p xs r (omega arith) (omega arith) in
    let most : rank (x + 1) xs ≤ p + 1 = elim (cases_lt (p + 1) (length xs)) [
      | inl less ↦ (let up = rising_to low high xs r p less in rank_under (x + 1) low high (p + 1) xs r less (omega arith))
      | inr ge ↦ (let all = rank_le (x + 1) xs in omega arith)
    ] in
    omega arith

-- of a slice at most all numbers are below
pub own_few : (left x : ℕ) (slice : Slice) → left ≡ rank x (numbers_at slice) → (left ≤ slice.count) × (slice.count ≤ 256)
own_few left x slice r =
    let most = rank_le x (numbers_at slice) in
    let size = slice.there.slice.count_is in
    (omega arith, slice.there.few)

-- it is that of the first bit
pub first_bit_is : (x p y : ℕ) (xs words : List ℕ) → IsRising 0 256 xs → p ≡ rank x xs → p < length xs → ((i : ℕ) → i < 256 → has_bit words i ≡ has i xs)
    → x ≤ y → y ≤ 256 → ((i : ℕ) → x ≤ i → i < y → has_bit words i ≡ false) → (y < 256 → has_bit words y ≡ true) → y ≡ get_or xs p 0
first_bit_is x p y xs words r e h same more within none one =
    let own = get_or xs p 0 in
    let least = not_below x 0 256 p xs r e h in
    let top = rising_top 0 256 p xs r h in
    elim (cases_lt y 256) [
      | inl less ↦ first_is x 0 256 p y xs r e h more (sym (same y less) ∙ one less) (λ i a b. sym (same i (omega arith)) ∙ none i a b)
      | inr ge ↦ absurd (true≢false (sym (has_own xs p h) ∙ sym (same own top) ∙ none own least (omega arith)))
    ]

-- ---- among bytes that are compared at once

-- the bits of those that are not below, as the code matches them
abbrev pub others_of : ℕ → List ℕ → ℕ
others_of x bytes = mask_l (map (top (hbits w8)) (zip2 (λ a b. cond (leb a b) (2 ^ bits w8 - 1) 0) (replicate 32 x) bytes)) % 2 ^ 64

others_are : (x : ℕ) (bytes : List ℕ) → length bytes ≡ 32 → others_of x bytes ≡ mask_l (map (leb x) bytes)
others_are x bytes size =
    let long = length-map bytes (leb x) in
    ap (λ (ms : List Bool). mask_l ms % 2 ^ 64) (tops_compared w8 leb (replicate 32 x) bytes ∙ zip2_splat_left leb x 32 bytes size) ∙ mask_l-mod (map (leb x) bytes) 64 (omega arith)

under : (x y : ℕ) → ◌≡◌ {A = ℕ} (cond (leb x y) 1 0) 0 → y < x
under x y e = elim (cases_lt y x) [
  | inl less ↦ less
  | inr ge ↦ (let one : ◌≡◌ {A = ℕ} (cond (leb x y) 1 0) 1 = ap (λ (b : Bool). cond b 1 0) (le-leb x y ge) in absurd (omega arith))
]

over : (x y : ℕ) → ◌≡◌ {A = ℕ} (cond (leb x y) 1 0) 1 → x ≤ y
over x y e = elim (cases_lt y x) [
  | inl less ↦ (let none : ◌≡◌ {A = ℕ} (cond (leb x y) 1 0) 0 = ap (λ (b : Bool). cond b 1 0) (lt-leb x y less) in absurd (omega arith))
  | inr ge ↦ ge
]

-- the bits around the lowest that is 1
lowest : (m : ℕ) → m < 2 ^ 64 → ((i : ℕ) → i < trailing_zeros w64 m → bit_at m i ≡ 0) × (trailing_zeros w64 m < 64 → bit_at m (trailing_zeros w64 m) ≡ 1)
lowest m small = elim (cases_lt 0 m) [
  | inl some ↦ (let found = bit_at-trailing_zeros w64 m some small in (found.2, λ h. found.1))
  | inr none ↦ (
      let zero : m ≡ 0 = omega arith in
      let all = ap (trailing_zeros w64) zero ∙ trailing_of_zero 64 in
      (λ i h. ap (λ (n : ℕ). bit_at n i) zero ∙ bit_at-zero i, λ h. absurd (omega arith)))
]

pub rank_found : (x count : ℕ) (bytes : List ℕ) → length bytes ≡ 32 → count < 32 → IsRising 0 256 (take count bytes) → min (trailing_zeros w64 (others_of x bytes)) count ≡ rank x (take count bytes)
rank_found x count bytes size few rise =
    let m : ℕ = others_of x bytes in
    let t : ℕ = trailing_zeros w64 m in
    let r : ℕ = min t count in
    let own : List ℕ = take count bytes in
    let long : length own ≡ count = length-take-le count bytes (omega arith) in
    let is = others_are x bytes size in
    let small : m < 2 ^ 64 = subst (λ (n : ℕ). n < 2 ^ 64) (sym is) (omega (arith, mask_l-lt (map (leb x) bytes), length-map bytes (leb x))) in
    let known = lowest m small in
    let bit : (k : ℕ) → k < count → bit_at m k ≡ cond (leb x (get_or own k 0)) 1 0 = λ k h.
    ap (λ (n : ℕ). bit_at n k) is ∙ bit_mask_l (map (leb x) bytes) k
    ∙ ap (λ (b : Bool). cond b 1 0) (get_or-map (leb x) bytes k 0 false (omega arith) ∙ ap (leb x) (sym (get_or-take count bytes k 0 h))) in
    let least : r ≤ rank x own = elim (cases_lt 0 r) [
      | inl some ↦ (
          let below = under x (get_or own (r - 1) 0) (sym (bit (r - 1) (omega arith)) ∙ known.0 (r - 1) (omega arith)) in
          let more = rank_above x 0 256 (r - 1) own rise (omega arith) below in
          omega arith)
      | inr none ↦ omega arith
    ] in
    let most : rank x own ≤ r = elim (cases_lt t count) [
      | inl less ↦ (
          let above = over x (get_or own t 0) (sym (bit t less) ∙ known.1 (omega arith)) in
          let fewer = rank_under x 0 256 t own rise (omega arith) above in
          omega arith)
      | inr ge ↦ (let all = rank_le x own in omega arith)
    ] in
    omega arith
