-- Which positions are missing, by the ranks of positions among the ids of the set.
use Rattle.std.proofs.Common.{◌≡◌, ◌⊎◌, ℕ, zero, suc, ◌+◌, ◌<◌, ◌≤◌, Bool, true, false, ◌&&◌, ◌||◌, cond, eq-eqb, ltb, List, [], ◌∷◌, refl, sym, ap, ◌∙◌, arith, inl, inr, add-one}
use Rattle.std.proofs.lemmas.Bool.{cases_lt, le-ltb, lt-ltb, ne_eqb, true≢false}
use Rattle.bitpack_slices.specs.Bodies.{IsRising}
use Rattle.bitpack_slices.specs.Reads.{has, rank}
use Rattle.bitpack_slices.proofs.ForCallers.{has_below, rank_below}
use Rattle.bitpack_wide.specs.WideColumnFaults.{each_below, is_front}
use Rattle.bitpack_wide.proofs.WideSteps.{each_next, each_start, each_true, true_each}

abbrev pub one : Bool → ℕ
one b = cond b 1 0

pub rank_up : (x z : ℕ) (xs : List ℕ) → x ≤ z → rank x xs ≤ rank z xs
rank_up x z [] le = omega arith
rank_up x z (y ∷ ys) le = elim (cases_lt y x) [
  | inl less ↦
      let a : one (ltb y x) ≡ 1 = ap one (lt-ltb y x less) in
      let b : one (ltb y z) ≡ 1 = ap one (lt-ltb y z (omega (arith, less, le))) in
      omega (arith, a, b, rank_up x z ys le)
  | inr more ↦ (let a : one (ltb y x) ≡ 0 = ap one (le-ltb y x more) in omega (arith, a, rank_up x z ys le))
]

-- the rank of the next position
pub rank_step : (x low high : ℕ) (xs : List ℕ) → IsRising low high xs → rank (x + 1) xs ≡ rank x xs + one (has x xs)
rank_step x low high [] rising = refl
rank_step x low high (y ∷ ys) rising = elim (cases_lt y x) [
  | inl less ↦
      let a : one (ltb y x) ≡ 1 = ap one (lt-ltb y x less) in
      let b : one (ltb y (x + 1)) ≡ 1 = ap one (lt-ltb y (x + 1) (omega (arith, less))) in
      let h : one (has x (y ∷ ys)) ≡ one (has x ys) = ap (λ (t : Bool). one (t || has x ys)) (ne_eqb y x (λ e. absurd (omega (arith, less, e)))) in
      omega (arith, a, b, h, rank_step x (y + 1) high ys rising.1)
  | inr more ↦ elim (cases_lt x y) [
    | inl above ↦
        let a : one (ltb y x) ≡ 0 = ap one (le-ltb y x more) in
        let b : one (ltb y (x + 1)) ≡ 0 = ap one (le-ltb y (x + 1) (omega (arith, above))) in
        let h : one (has x (y ∷ ys)) ≡ 0 = ap (λ (t : Bool). one (t || has x ys)) (ne_eqb y x (λ e. absurd (omega (arith, above, e))))
        ∙ ap one (has_below x (y + 1) high ys rising.1 (omega (arith, above))) in
        omega (arith, a, b, h, rank_below x (y + 1) high ys rising.1 (omega (arith, above)), rank_below (x + 1) (y + 1) high ys rising.1 (omega (arith, above)))
    | inr same ↦
        let e : y ≡ x = omega (arith, more, same) in
        let a : one (ltb y x) ≡ 0 = ap one (le-ltb y x more) in
        let b : one (ltb y (x + 1)) ≡ 1 = ap one (lt-ltb y (x + 1) (omega (arith, e))) in
        let h : one (has x (y ∷ ys)) ≡ 1 = ap (λ (t : Bool). one (t || has x ys)) (eq-eqb y x e) in
        omega (arith, a, b, h, rank_below x (y + 1) high ys rising.1 (omega (arith, e)), rank_below (x + 1) (y + 1) high ys rising.1 (omega (arith, e)))
  ]
]

one_most : (b : Bool) → one b ≤ 1
one_most true = omega arith
one_most false = omega arith

one_all : (b : Bool) → one b ≡ 1 → b ≡ true
one_all true e = refl
one_all false e = absurd (omega (arith, e))

module _ (begin low high : ℕ) (xs : List ℕ) (rising : IsRising low high xs) where
  next : (k : ℕ) → rank (begin + suc k) xs ≡ rank (begin + k) xs + one (has (begin + k) xs)
  next k = let e : begin + suc k ≡ begin + k + 1 = omega arith in ap (λ (n : ℕ). rank n xs) e ∙ rank_step (begin + k) low high xs rising

  pub rank_few : (k : ℕ) → rank (begin + k) xs ≤ rank begin xs + k
  rank_few zero = let e : begin + 0 ≡ begin = omega arith in omega (arith, ap (λ (n : ℕ). rank n xs) e)
  rank_few (suc k) = omega (arith, rank_few k, next k, one_most (has (begin + k) xs))

  -- all positions are missing if their ranks are one apart
  pub true_front : (k : ℕ) → rank begin xs + k ≡ rank (begin + k) xs → is_front (λ i. has (begin + i) xs) k ≡ true
  true_front zero e = each_start (λ i. has (begin + i) xs)
  true_front (suc k) e =
      let step = next k in
      let few = rank_few k in
      let most = one_most (has (begin + k) xs) in
      let last : has (begin + k) xs ≡ true = one_all (has (begin + k) xs) (omega (arith, e, step, few, most)) in
      let before = true_front k (omega (arith, e, step, few, most)) in
      ap (each_below (λ i. has (begin + i) xs)) (sym (add-one k)) ∙ each_next (λ i. has (begin + i) xs) k
      ∙ ap (λ (b : Bool). b && has (begin + k) xs) before ∙ last

  pub front_rank : (k : ℕ) → is_front (λ i. has (begin + i) xs) k ≡ true → rank begin xs + k ≡ rank (begin + k) xs
  front_rank zero e = let f : begin + 0 ≡ begin = omega arith in omega (arith, ap (λ (n : ℕ). rank n xs) f)
  front_rank (suc k) e =
      let before = front_rank k (true_each (λ i. has (begin + i) xs) k (λ i lt. each_true (λ i. has (begin + i) xs) (suc k) e i (omega (arith, lt)))) in
      let last : one (has (begin + k) xs) ≡ 1 = ap one (each_true (λ i. has (begin + i) xs) (suc k) e k (omega arith)) in
      omega (arith, before, last, next k)

pub decided : (b : Bool) → (b ≡ true) ⊎ (b ≡ false)
decided true = inl refl
decided false = inr refl

-- the first that fails
pub each_find : (test : ℕ → Bool) (n : ℕ) → each_below test n ≡ false → (k : ℕ) × (k < n) × (test k ≡ false)
unfolding each_below
each_find test zero e = absurd (true≢false e)
each_find test (suc n) e = elim (decided (test n)) [
  | inr fails ↦ (n, omega arith, fails)
  | inl passes ↦
      let earlier = each_find test n (elim (decided (each_below test n)) [
        | inr fails ↦ fails
        | inl passed ↦ absurd (true≢false (sym (ap (λ (b : Bool). b && test n) passed ∙ passes) ∙ e))
      ]) in
      (earlier.0, omega (arith, earlier.1), earlier.2)
]
