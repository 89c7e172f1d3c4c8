-- A byte that is looked for among bytes with matches.
use Rattle.std.proofs.Common.{◌≡◌, ℕ, zero, suc, ◌^◌, ◌<◌, Bool, true, false, ◌||◌, ◌&&◌, not, eqb, ltb, List, [], ◌∷◌, get_or, length, refl, sym, ap, ◌∙◌, arith, inl, inr, eq-eqb}
use Rattle.std.proofs.Math.Bool.{or-false}
use Rattle.std.specs.Int.{bit_at}
use Rattle.std.proofs.lemmas.Bool.{cases_lt, le-ltb, lt-ltb, ne_eqb, or_parts, true≢false}
use Rattle.std.proofs.lemmas.Bool.Decides.{eqb_tells}
use Rattle.std.proofs.lemmas.Nat.Bits.{bit_at-zero}
use Rattle.bitpack_slices.proofs.lemmas.bits.BitmapLaws.{those_none}
use Rattle.bitpack_slices.proofs.lemmas.bits.OnesLaws.{ones_all}
use Rattle.bitpack_slices.proofs.lemmas.bodies.ReadLaws.{eqb_same}
use Rattle.bitpack_slices.specs.Reads.{has}
use Rattle.bitpack_slices.specs.Bodies.{bits}
use Rattle.bitpack_slices.specs.Slices.{ones_from}

-- a number that is among others is at an index
has_at : (x : ℕ) (xs : List ℕ) → has x xs ≡ true → (i : ℕ) × (i < length xs) × (get_or xs i 0 ≡ x)
has_at x [] h = absurd (true≢false (sym h))
has_at x (y ∷ ys) h = elim (eqb_tells y x) [
  | inl (here, same) ↦ (0, omega arith, same)
  | inr (other, apart) ↦ (
      let (i, lt, e) = has_at x ys (sym (ap (λ (b : Bool). b || has x ys) other) ∙ h) in
      (suc i, omega arith, e))
]

-- one that is not is at none
has_not : (x i : ℕ) (xs : List ℕ) → has x xs ≡ false → i < length xs → eqb x (get_or xs i 0) ≡ false
has_not x i [] h lt = absurd (omega arith)
has_not x zero (y ∷ ys) h lt = let (first, rest) = or_parts (eqb y x) (has x ys) h in eqb_same x y y x sym sym ∙ first
has_not x (suc i) (y ∷ ys) h lt = let (first, rest) = or_parts (eqb y x) (has x ys) h in has_not x i ys rest (omega arith)

no_ones : (m : ℕ) → ((i : ℕ) → i < 32 → eqb (bit_at m i) 1 ≡ false) → ones_from m 0 32 ≡ []
unfolding ones_from
no_ones m none = those_none (λ i. eqb (bit_at m i) 1) 0 32 (λ i a b. none i b)

none_matched : (m : ℕ) → m < 2 ^ 32 → ((i : ℕ) → i < 32 → eqb (bit_at m i) 1 ≡ false) → m ≡ 0
unfolding bits
none_matched m small none = sym (ones_all m 32 small) ∙ ap bits (no_ones m none)

-- matches of the bytes that are a number say whether it is among them
module _ (m count low : ℕ) (bytes own : List ℕ) (small : m < 2 ^ 32) (size : length own ≡ count) (few : count < 32)
    (matches : (i : ℕ) → i < 32 → eqb (bit_at m i) 1 ≡ (ltb i count && has (get_or bytes i 0) (low ∷ [])))
    (same : (i : ℕ) → i < length own → get_or bytes i 0 ≡ get_or own i 0) where
  found : (i : ℕ) → i < length own → get_or own i 0 ≡ low → eqb m 0 ≡ false
  found i lt e =
      let v : get_or bytes i 0 ≡ low = same i lt ∙ e in
      let one : eqb (bit_at m i) 1 ≡ true =
      matches i (omega arith) ∙ ap (λ (b : Bool). b && (eqb low (get_or bytes i 0) || false)) (lt-ltb i count (omega arith))
      ∙ ap (λ (b : Bool). b || false) (eq-eqb low (get_or bytes i 0) (sym v)) in
      ne_eqb m 0 (λ z. true≢false (sym one ∙ ap (λ (n : ℕ). eqb (bit_at n i) 1) z ∙ ap (λ (n : ℕ). eqb n 1) (bit_at-zero i)))

  lacking : has low own ≡ false → (i : ℕ) → i < 32 → eqb (bit_at m i) 1 ≡ false
  lacking h i lt = elim (cases_lt i count) [
    | inl less ↦
        matches i lt ∙ ap (λ (b : Bool). b && (eqb low (get_or bytes i 0) || false)) (lt-ltb i count less)
        ∙ or-false (eqb low (get_or bytes i 0)) ∙ ap (λ (n : ℕ). eqb low n) (same i (omega arith)) ∙ has_not low i own h (omega arith)
    | inr more ↦ matches i lt ∙ ap (λ (b : Bool). b && (eqb low (get_or bytes i 0) || false)) (le-ltb i count more)
  ]

  decide : (b : Bool) → has low own ≡ b → not (eqb m 0) ≡ b
  decide true h = let (i, lt, e) = has_at low own h in ap not (found i lt e)
  decide false h = ap not (eq-eqb m 0 (none_matched m small (lacking h)))

  pub matches_decide : not (eqb m 0) ≡ has low own
  matches_decide = decide (has low own) refl
