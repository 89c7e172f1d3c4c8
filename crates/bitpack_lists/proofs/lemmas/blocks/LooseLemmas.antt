-- A width is loose exactly if the codes of the bytes fit a smaller one.
-- Serves blocks, laws, v1.
use Rattle.std.proofs.Common.{◌≡◌, ◌↔◌, ℕ, zero, suc, ◌+◌, ◌-◌, ◌*◌, ◌/◌, ◌%◌, ◌^◌, ◌<◌, ◌≤◌, ◌⊎◌, max, Bool, true, false, ltb, List, length, get_or, bit_or, refl, sym, ◌∙◌, ap, arith, Decides, inl, inr}
use Rattle.std.proofs.Math.Nat.{div-lt_iff_lt-mul}
use Rattle.std.specs.Int.{bit_at}
use Rattle.std.specs.List.{list_all}
use Rattle.std.proofs.lemmas.Bool.{cases_lt, both_ways, false_from_ne_true, lt-ltb, ltb-true}
use Rattle.std.proofs.lemmas.Nat.{div-mul-add, mod-mul-add, mul-add-lt}
use Rattle.std.proofs.lemmas.Nat.Bits.{bit_at_or, bit_at-lt, bit_at_above}
use Rattle.std.proofs.lemmas.List.Elements.{All-from_get_or, All-get_or}
use Rattle.std.proofs.lemmas.Bool.Decides.{Decides-by_and, Decides-ltb, Decides-and, Decides-like}
use Rattle.bitpacking.specs.Width.{Fits}
use Rattle.bitpacking.specs.Bits.{bit_of}
use Rattle.bitpacking.specs.Layout.{codes_of, place, size, Layout}
use Rattle.bitpacking.proofs.ForCallers.{fits_greater, one_layout_codes}
use Rattle.bitpack_lists.specs.Parts.{is_loose}

pub Decides-fits : (codes : List ℕ) (width : ℕ) → Decides (list_all (λ code. ltb code (2 ^ width)) codes) (Fits codes width)
Decides-fits codes width =
    Decides-by_and (λ code. ltb code (2 ^ width)) (λ code. code < 2 ^ width) (list_all (λ code. ltb code (2 ^ width)))
    (λ code. Decides-ltb code (2 ^ width)) refl (λ _ _. refl) codes

same_truth : (one other : Bool) → (one ≡ true → other ≡ true) → (other ≡ true → one ≡ true) → one ≡ other
same_truth true other to from = sym (to refl)
same_truth false true to from = from refl
same_truth false false to from = refl

-- Codes fit a width exactly if all their bits do.
pub fit_by_bits : (w bits : ℕ) (codes : List ℕ) → ((w : ℕ) → bits < 2 ^ w → Fits codes w) → ((w : ℕ) → Fits codes w → bits < 2 ^ w)
    → list_all (λ code. ltb code (2 ^ w)) codes ≡ ltb bits (2 ^ w)
fit_by_bits w bits codes above below =
    let decides = Decides-fits codes w in
    same_truth (list_all (λ code. ltb code (2 ^ w)) codes) (ltb bits (2 ^ w))
    (λ all. lt-ltb bits (2 ^ w) (below w (decides.0 all))) (λ small. decides.1 (above w (ltb-true bits (2 ^ w) small)))

pub Decides-loose : (lanes width : ℕ) (codes bytes : List ℕ) → Layout lanes width codes bytes
    → Decides (is_loose lanes width bytes) ((smaller : ℕ) × (smaller < width) × Fits codes smaller)
unfolding is_loose
Decides-loose lanes width codes bytes layout =
    let same : codes ≡ codes_of lanes width bytes = (one_layout_codes lanes width bytes layout.byte_count).1 codes layout in
    rw same (Decides-like _
    (λ (h : (0 < width) × Fits (codes_of lanes width bytes) (width - 1)). (width - 1, omega (arith, h.0), h.1))
    (λ (h : (smaller : ℕ) × (smaller < width) × Fits (codes_of lanes width bytes) smaller).
    (omega (arith, h.1), fits_greater (codes_of lanes width bytes) h.0 (width - 1) (omega (arith, h.1)) h.2))
    (Decides-and _ _ (Decides-ltb 0 width) (Decides-fits (codes_of lanes width bytes) (width - 1))))

-- ---- by the highest bits of the codes

-- the highest bit of the code in a row and a lane
abbrev pub highest : ℕ → ℕ → List ℕ → ℕ → ℕ → ℕ
highest lanes width body row lane =
    bit_of body (32 * (lanes * ((row * width + (width - 1)) / 32) + lane) + (row * width + (width - 1)) % 32)

highest-place : (lanes width k : ℕ) (body : List ℕ) → highest lanes width body (k / lanes) (k % lanes) ≡ bit_of body (place lanes width k (width - 1))
unfolding place
highest-place lanes width k body = refl

-- A number below twice a power that has not the bit of that power is below it.
below-from_bit : (n k : ℕ) → n < 2 ^ suc k → ¬ (bit_at n k ≡ 1) → n < 2 ^ k
below-from_bit n k lt none =
    let some : 0 < 2 ^ k = omega arith in
    let twice : n < 2 * 2 ^ k = omega arith in
    let few : n / 2 ^ k < 2 = (div-lt_iff_lt-mul some).1 twice in
    elim (cases_lt (n / 2 ^ k) 1) [
      | inl less ↦ omega (arith, (div-lt_iff_lt-mul some).0 less)
      | inr more ↦ absurd (none (omega (arith, few, more)))
    ]

module _ (lanes width : ℕ) (body : List ℕ) (some : 1 ≤ lanes) (positive : 1 ≤ width) (long : length body ≡ size lanes width) where
  layout : Layout lanes width (codes_of lanes width body) body
  layout = (one_layout_codes lanes width body long).0

  -- A code that has the highest bit fits no smaller width.
  pub tight_from_bit : (row lane : ℕ) → row < 32 → lane < lanes → highest lanes width body row lane ≡ 1 → is_loose lanes width body ≡ false
  tight_from_bit row lane in_rows in_lanes has =
      let k : ℕ = row * lanes + lane in
      let codes : List ℕ = codes_of lanes width body in
      let within : k < 32 * lanes = omega (arith, mul-add-lt row lanes lane 32 in_rows in_lanes) in
      let at : highest lanes width body (k / lanes) (k % lanes) ≡ 1 =
      rw (div-mul-add row lanes lane in_lanes, mod-mul-add row lanes lane in_lanes) has in
      let bit : bit_at (get_or codes k 0) (width - 1) ≡ 1 = layout.bits k (width - 1) within (omega arith) ∙ sym (highest-place lanes width k body) ∙ at in
      false_from_ne_true (is_loose lanes width body) (λ loose.
      let smaller = (Decides-loose lanes width codes body layout).0 loose in
      let inside : k < length codes = omega (arith, layout.code_count) in
      let below : get_or codes k 0 < 2 ^ smaller.0 = All-get_or (λ code. code < 2 ^ smaller.0) codes k 0 inside smaller.2 in
      let none : bit_at (get_or codes k 0) (width - 1) ≡ 0 = bit_at_above (get_or codes k 0) smaller.0 (width - 1) below (omega (arith, smaller.1)) in
      omega arith)

  -- Codes that all lack the highest bit fit a smaller width.
  pub loose_from_bits : ((row lane : ℕ) → row < 32 → lane < lanes → ¬ (highest lanes width body row lane ≡ 1)) → is_loose lanes width body ≡ true
  loose_from_bits none =
      let codes : List ℕ = codes_of lanes width body in
      (Decides-loose lanes width codes body layout).1 (
        width - 1,
        omega arith,
        All-from_get_or (λ code. code < 2 ^ (width - 1)) codes 0 (λ k lt.
            let within : k < 32 * lanes = omega (arith, layout.code_count) in
            let fits : get_or codes k 0 < 2 ^ width = All-get_or (λ code. code < 2 ^ width) codes k 0 lt layout.fits in
            let wide : width ≡ suc (width - 1) = omega arith in
            below-from_bit (get_or codes k 0) (width - 1) (rw (← wide) fits) (λ has.
            none (k / lanes) (k % lanes) ((div-lt_iff_lt-mul some).1 within) (omega arith)
            (highest-place lanes width k body ∙ sym (layout.bits k (width - 1) within (omega arith)) ∙ has))),
      )

-- At width 0 no code needs less.
pub tight_at_0 : (lanes width : ℕ) (body : List ℕ) → width ≡ 0 → is_loose lanes width body ≡ false
unfolding is_loose
tight_at_0 lanes width body none = rw none refl

-- ---- one bit of each lane

-- one of the first lanes has the bit
abbrev pub AnyLane : ℕ → ℕ → ℕ → List ℕ → Type 0
AnyLane n lanes bit body = (lane : ℕ) × (lane < n) × (bit_of body (32 * (lanes * (bit / 32) + lane) + bit % 32) ≡ 1)

bit-in_byte : (lanes bit lane : ℕ) (body : List ℕ)
    → bit_of body (32 * (lanes * (bit / 32) + lane) + bit % 32) ≡ bit_at (get_or body (4 * (lanes * (bit / 32)) + bit % 32 / 8 + 4 * lane) 0) (bit % 8)
bit-in_byte lanes bit lane body =
    let words : ℕ = lanes * (bit / 32) in
    let index : (32 * (words + lane) + bit % 32) / 8 ≡ 4 * words + bit % 32 / 8 + 4 * lane = omega arith in
    let offset : (32 * (words + lane) + bit % 32) % 8 ≡ bit % 8 = omega arith in
    rw (index, offset) refl

either : (a b : ℕ) → a < 2 → max a b ≡ 1 → (a ≡ 1) ⊎ (b ≡ 1)
either zero b lt e = inr (omega (arith, e))
either (suc zero) b lt e = inl refl
either (suc (suc a)) b lt e = absurd (omega arith)

left_bit : (a b : ℕ) → a ≡ 1 → b < 2 → max a b ≡ 1
left_bit a b e lt = omega arith

right_bit : (a b : ℕ) → a < 2 → b ≡ 1 → max a b ≡ 1
right_bit a b lt e = omega arith

pub any_step : (n lanes bit bytes byte : ℕ) (body : List ℕ) → byte ≡ get_or body (4 * (lanes * (bit / 32)) + bit % 32 / 8 + 4 * n) 0
    → (bit_at bytes (bit % 8) ≡ 1) ↔ AnyLane n lanes bit body
    → (bit_at (bit_or bytes byte) (bit % 8) ≡ 1) ↔ AnyLane (n + 1) lanes bit body
any_step n lanes bit bytes byte body is before =
    let s : ℕ = bit % 8 in
    let here : bit_of body (32 * (lanes * (bit / 32) + n) + bit % 32) ≡ bit_at byte s = bit-in_byte lanes bit n body ∙ ap (λ b. bit_at b s) (sym is) in (
      λ e.
          elim (either (bit_at bytes s) (bit_at byte s) (bit_at-lt bytes s) (sym (bit_at_or bytes byte s) ∙ e)) [
            | inl old ↦ let found = before.0 old in (found.0, omega (arith, found.1), found.2)
            | inr new ↦ (n, omega arith, here ∙ new)
          ],
      λ found.
          bit_at_or bytes byte s
          ∙ elim (cases_lt found.0 n) [
            | inl lt ↦ left_bit (bit_at bytes s) (bit_at byte s) (before.1 (found.0, lt, found.2)) (bit_at-lt byte s)
            | inr le ↦ right_bit (bit_at bytes s) (bit_at byte s) (bit_at-lt bytes s)
                (sym here ∙ ap (λ k. bit_of body (32 * (lanes * (bit / 32) + k) + bit % 32)) (omega (arith, found.1)) ∙ found.2)
          ],
    )

-- One row more without a highest bit.
pub rows_step : (lanes width i : ℕ) (body : List ℕ) (found : Bool) → Decides found (AnyLane lanes lanes (i * width + (width - 1)) body) → found ≡ false
    → ((row lane : ℕ) → row < i → lane < lanes → ¬ (highest lanes width body row lane ≡ 1))
    → (row lane : ℕ) → row < i + 1 → lane < lanes → ¬ (highest lanes width body row lane ≡ 1)
rows_step lanes width i body found decides none before row lane lt within has =
    elim (cases_lt row i) [
      | inl earlier ↦ before row lane earlier within has
      | inr le ↦
          let here : row ≡ i = omega arith in
          both_ways found none (decides.1 (lane, within, rw (← here) has))
    ]
