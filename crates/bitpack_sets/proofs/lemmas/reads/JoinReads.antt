-- Numbers are looked up in the part of their quotient.
use Rattle.std.proofs.Common.{◌≡◌, ◌≢◌, ℕ, zero, suc, ◌+◌, ◌*◌, ◌/◌, ◌%◌, ◌<◌, Bool, true, false, ◌||◌, eqb, ltb, cond, List, [], ◌∷◌, map, get_or, refl, sym, ap, ◌∙◌, arith, inl, inr, eq-eqb, div-add-mod'}
use Rattle.std.proofs.Math.Bool.{or-false}
use Rattle.std.proofs.lemmas.Bool.{cases_lt, false≢true, le-ltb, lt-ltb, ne_eqb, true≢false}
use Rattle.std.proofs.lemmas.Nat.{div-mul-add, mod-mul-add}
use Rattle.bitpack_slices.proofs.ForCallers.{AreParts, eqb_same, has_append, has_below, join, keys, keys_rise, le_self, neither, none, rank_below, rising_room}
use Rattle.bitpack_slices.specs.Reads.{has, rank}
use Rattle.bitpack_slices.specs.Bodies.{IsRising}

split_other : (base x h low : ℕ) → low < base → h ≢ x / base → h * base + low ≢ x
split_other base x h low small ne e = ne (sym (div-mul-add h base low small) ∙ ap (λ (n : ℕ). n / base) e)

pub has_other : (base x h from : ℕ) (xs : List ℕ) → IsRising from base xs → h ≢ x / base → has x (map (λ low. h * base + low) xs) ≡ false
has_other base x h from [] r ne = refl
has_other base x h from (y ∷ xs) (a, r) ne =
    let room = rising_room (y + 1) base xs r in
    ap (λ (b : Bool). b || has x (map (λ low. h * base + low) xs)) (ne_eqb (h * base + y) x (split_other base x h y (omega arith) ne)) ∙ has_other base x h (y + 1) xs r ne

pub has_same : (base x h from : ℕ) (xs : List ℕ) → IsRising from base xs → h ≡ x / base → has x (map (λ low. h * base + low) xs) ≡ has (x % base) xs
has_same base x h from [] r e = refl
has_same base x h from (y ∷ xs) (a, r) e =
    let room = rising_room (y + 1) base xs r in
    let whole : x / base * base + x % base ≡ x = div-add-mod' x base in
    let low : (h * base + y) % base ≡ y = mod-mul-add h base y (omega arith) in
    ap (λ (b : Bool). b || has x (map (λ low. h * base + low) xs))
    (eqb_same (h * base + y) x y (x % base) (λ s. sym low ∙ ap (λ (n : ℕ). n % base) s) (λ s. ap (λ (n : ℕ). n * base + y) e ∙ ap (λ (n : ℕ). x / base * base + n) s ∙ whole))
    ∙ ap (λ (b : Bool). eqb y (x % base) || b) (has_same base x h (y + 1) xs r e)

-- no number has a quotient that does not occur
pub has_join_not : (base x low high : ℕ) (ps : List (ℕ × List ℕ)) → AreParts base low high ps → has (x / base) (keys ps) ≡ false → has x (join base ps) ≡ false
has_join_not base x low high [] are h = refl
has_join_not base x low high (p ∷ ps) (a, some, r, later) h =
    let (one, rest) = neither (eqb p.0 (x / base)) (has (x / base) (keys ps)) h in
    has_append x (map (λ low. p.0 * base + low) p.1) (join base ps)
    ∙ ap (λ (b : Bool). b || has x (join base ps)) (has_other base x p.0 0 p.1 r (λ e. true≢false (sym (eq-eqb p.0 (x / base) e) ∙ one)))
    ∙ has_join_not base x (p.0 + 1) high ps later rest

pub has_join : (base x low high i : ℕ) (ps : List (ℕ × List ℕ)) → AreParts base low high ps → i ≡ rank (x / base) (keys ps) → has (x / base) (keys ps) ≡ true
    → has x (join base ps) ≡ has (x % base) (get_or ps i none).1
has_join base x low high i [] are e h = absurd (false≢true h)
has_join base x low high zero (p ∷ ps) (a, some, r, later) e h = elim (cases_lt p.0 (x / base)) [
  | inl below ↦ (
      let first : ◌≡◌ {A = ℕ} (cond (ltb p.0 (x / base)) 1 0) 1 = ap (λ (b : Bool). cond b 1 0) (lt-ltb p.0 (x / base) below) in
      absurd (omega arith))
  | inr more ↦ elim (cases_lt (x / base) p.0) [
    | inl above ↦ absurd (false≢true (sym (has_below (x / base) p.0 high (p.0 ∷ keys ps) (le_self p.0, keys_rise base (p.0 + 1) high ps later) above) ∙ h))
    | inr more' ↦ (
        let same : p.0 ≡ x / base = omega arith in
        has_append x (map (λ low. p.0 * base + low) p.1) (join base ps)
        ∙ ap (λ (b : Bool). has x (map (λ low. p.0 * base + low) p.1) || b)
        (has_join_not base x (p.0 + 1) high ps later (has_below (x / base) (p.0 + 1) high (keys ps) (keys_rise base (p.0 + 1) high ps later) (omega arith)))
        ∙ or-false (has x (map (λ low. p.0 * base + low) p.1)) ∙ has_same base x p.0 0 p.1 r same)
  ]
]
has_join base x low high (suc i) (p ∷ ps) (a, some, r, later) e h = elim (cases_lt p.0 (x / base)) [
  | inl below ↦ (
      let first : ◌≡◌ {A = ℕ} (cond (ltb p.0 (x / base)) 1 0) 1 = ap (λ (b : Bool). cond b 1 0) (lt-ltb p.0 (x / base) below) in
      let rest : has (x / base) (keys ps) ≡ true = sym (ap (λ (b : Bool). b || has (x / base) (keys ps)) (ne_eqb p.0 (x / base) (λ s. absurd (omega arith)))) ∙ h in
      has_append x (map (λ low. p.0 * base + low) p.1) (join base ps)
      ∙ ap (λ (b : Bool). b || has x (join base ps)) (has_other base x p.0 0 p.1 r (λ s. absurd (omega arith)))
      ∙ has_join base x (p.0 + 1) high i ps later (omega arith) rest)
  | inr more ↦ (
      let first : ◌≡◌ {A = ℕ} (cond (ltb p.0 (x / base)) 1 0) 0 = ap (λ (b : Bool). cond b 1 0) (le-ltb p.0 (x / base) more) in
      let rest = rank_below (x / base) (p.0 + 1) high (keys ps) (keys_rise base (p.0 + 1) high ps later) (omega arith) in
      absurd (omega arith))
]
