-- Numbers by halves, and tests in turn.
use Rattle.std.proofs.Common.{◌≡◌, ℕ, zero, suc, ◌+◌, ◌*◌, ◌/◌, ◌<◌, ◌≤◌, Bool, false, ◌||◌, eqb, ltb, List, [], ◌∷◌, length, refl, ap, ◌∙◌, arith, cond, inl, inr, get_or, true, Some, None, sym}
use Rattle.std.proofs.Math.Bool.{or-false}
use Rattle.std.proofs.lemmas.Bool.{cases_lt, ne_eqb, lt-ltb, false_from_ne_true, le-ltb, true≢false}
use Rattle.bitpack_slices.proofs.lemmas.bodies.ReadLaws.{bit_le, has_below, le_self, rank_below, rank_less}
use Rattle.bitpack_slices.specs.Reads.{has, rank}
use Rattle.bitpack_slices.specs.Bodies.{IsRising}
use Rattle.bitpack_slices.specs.Slices.{pairs_of}

pub pairs_len : (bytes : List ℕ) → length (pairs_of bytes) ≡ length bytes / 2
unfolding pairs_of
pairs_len [] = refl
pairs_len (a ∷ []) = refl
pairs_len (a ∷ b ∷ bytes) = let ih = pairs_len bytes in omega arith

pub pairs_at : (bytes : List ℕ) (i : ℕ) → i < length bytes / 2 → get_or (pairs_of bytes) i 0 ≡ get_or bytes (2 * i) 0 + 256 * get_or bytes (2 * i + 1) 0
unfolding pairs_of
pairs_at [] i h = absurd (omega arith)
pairs_at (a ∷ []) i h = absurd (omega arith)
pairs_at (a ∷ b ∷ bytes) zero h = refl
pairs_at (a ∷ b ∷ bytes) (suc i) h =
    let one : 2 * suc i ≡ suc (suc (2 * i)) = omega arith in
    let two : 2 * suc i + 1 ≡ suc (suc (2 * i + 1)) = omega arith in
    let first = ap (λ (n : ℕ). get_or (a ∷ b ∷ bytes) n 0) one in
    let second = ap (λ (n : ℕ). get_or (a ∷ b ∷ bytes) n 0) two in
    let ih = pairs_at bytes i (omega arith) in
    omega arith

pub rising_at : (low high i : ℕ) (xs : List ℕ) → IsRising low high xs → i < length xs → low ≤ get_or xs i 0
rising_at low high i [] r h = absurd (omega arith)
rising_at low high zero (y ∷ ys) (a, r) h = a
rising_at low high (suc i) (y ∷ ys) (a, r) h = let ih = rising_at (y + 1) high i ys r (omega arith) in omega arith

-- one below has a lower position
pub rank_above : (x low high i : ℕ) (xs : List ℕ) → IsRising low high xs → i < length xs → get_or xs i 0 < x → i + 1 ≤ rank x xs
rank_above x low high i [] r h l = absurd (omega arith)
rank_above x low high zero (y ∷ ys) (a, r) h l =
    let first : ◌≡◌ {A = ℕ} (cond (ltb y x) 1 0) 1 = ap (λ (b : Bool). cond b 1 0) (lt-ltb y x l) in
    omega arith
rank_above x low high (suc i) (y ∷ ys) (a, r) h l =
    let more = rising_at (y + 1) high i ys r (omega arith) in
    let first : ◌≡◌ {A = ℕ} (cond (ltb y x) 1 0) 1 = ap (λ (b : Bool). cond b 1 0) (lt-ltb y x (omega arith)) in
    let ih = rank_above x (y + 1) high i ys r (omega arith) l in
    omega arith

-- one that is not has not
pub rank_under : (x low high i : ℕ) (xs : List ℕ) → IsRising low high xs → i < length xs → x ≤ get_or xs i 0 → rank x xs ≤ i
rank_under x low high i [] r h l = absurd (omega arith)
rank_under x low high zero (y ∷ ys) (a, r) h l = let none = rank_below x y high (y ∷ ys) (le_self y, r) l in omega arith
rank_under x low high (suc i) (y ∷ ys) (a, r) h l =
    let ih = rank_under x (y + 1) high i ys r (omega arith) l in
    let one = bit_le (ltb y x) in
    omega arith

-- what is at its position tells a number
pub has_at_rank : (x low high i : ℕ) (xs : List ℕ) → IsRising low high xs → i ≡ rank x xs → i < length xs → has x xs ≡ eqb (get_or xs i 0) x
has_at_rank x low high i [] r e h = absurd (omega arith)
has_at_rank x low high zero (y ∷ ys) (a, r) e h = elim (cases_lt y x) [
  | inl less ↦ (
      let first : ◌≡◌ {A = ℕ} (cond (ltb y x) 1 0) 1 = ap (λ (b : Bool). cond b 1 0) (lt-ltb y x less) in
      absurd (omega arith))
  | inr more ↦ ap (λ (b : Bool). eqb y x || b) (has_below x (y + 1) high ys r (omega arith)) ∙ or-false (eqb y x)
]
has_at_rank x low high (suc i) (y ∷ ys) (a, r) e h = elim (cases_lt y x) [
  | inl less ↦ (
      let first : ◌≡◌ {A = ℕ} (cond (ltb y x) 1 0) 1 = ap (λ (b : Bool). cond b 1 0) (lt-ltb y x less) in
      ap (λ (b : Bool). b || has x ys) (ne_eqb y x (λ s. omega arith)) ∙ has_at_rank x (y + 1) high i ys r (omega arith) (omega arith))
  | inr more ↦ (let none = rank_below x y high (y ∷ ys) (le_self y, r) more in absurd (omega arith))
]

pub has_not : (x i : ℕ) (xs : List ℕ) → i ≡ rank x xs → length xs ≤ i → has x xs ≡ false
has_not x i xs e h = false_from_ne_true (has x xs) (λ s. (let less = rank_less x xs s in absurd (omega arith)))

-- ---- faults in turn: there is none exactly if none of them is

pub is_below : (x y : ℕ) → ltb x y ≡ true → x < y
is_below x y e = elim (cases_lt x y) [ inl less ↦ less | inr more ↦ absurd (true≢false (sym e ∙ le-ltb x y more)) ]

pub if_none' : {T : Type 0} (b : Bool) (e : T) → b ≡ true → cond b None (Some e) ≡ None
if_none' b e h = ap (λ (t : Bool). cond t None (Some e)) h
