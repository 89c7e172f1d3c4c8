-- What missing values must have, by two tests of each position.
use Rattle.std.proofs.Common.{◌≡◌, ℕ, zero, suc, ◌+◌, ◌-◌, ◌<◌, Bool, true, false, ◌&&◌, ◌||◌, not, eqb, eq-eqb, eqb-true, List, refl, sym, ap, ◌∙◌, arith, inl, inr}
use Rattle.std.proofs.lemmas.Bool.{cases_lt, true≢false}
use Rattle.bitpack_slices.specs.Bodies.{IsRising}
use Rattle.bitpack_slices.specs.Reads.{has, rank}
use Rattle.bitpack_wide.specs.WideColumnFaults.{each_below, is_filled, is_front}
use Rattle.bitpack_wide.specs.inner.WideColumnSteps.{is_as_before, is_first_same}
use Rattle.bitpack_wide.proofs.WideMissing.{decided, front_rank, one, rank_step, rank_up, true_front}
use Rattle.bitpack_wide.proofs.WideSteps.{each_both, each_false, each_same, each_true, true_each}

filled_is : (m f e : Bool) → (not (m || f) || e) ≡ ((not m || e) && (not (f && not m) || e))
filled_is true true true = refl
filled_is true true false = refl
filled_is true false true = refl
filled_is true false false = refl
filled_is false true true = refl
filled_is false true false = refl
filled_is false false true = refl
filled_is false false false = refl

pub and_no : (b : Bool) → (b && false) ≡ false
and_no true = refl
and_no false = refl

or_yes : (b : Bool) → (b || true) ≡ true
or_yes true = refl
or_yes false = refl

module _ (missing : ℕ → Bool) (number : ℕ → ℕ) where
  pub each_filled : (n : ℕ) → each_below (is_filled missing number) n ≡ (each_below (is_as_before missing number) n && each_below (is_first_same missing number) n)
  each_filled n =
      each_same (is_filled missing number) (λ k. is_as_before missing number k && is_first_same missing number k) n
      (λ k lt. filled_is (missing k) (is_front missing k) (eqb (number k) (number (k - 1))))
      ∙ each_both (is_as_before missing number) (is_first_same missing number) n

  -- the first position has the number of itself
  first_passes : is_first_same missing number 0 ≡ true
  first_passes = ap (λ (b : Bool). not (is_front missing 0 && not (missing 0)) || b) (eq-eqb (number 0) (number (0 - 1)) refl) ∙ or_yes (not (is_front missing 0 && not (missing 0)))

  not_front : (k : ℕ) → is_front missing k ≡ false → is_first_same missing number k ≡ true
  not_front k e = ap (λ (b : Bool). not (b && not (missing k)) || eqb (number k) (number (k - 1))) e

  is_missing : (k : ℕ) → missing k ≡ true → is_first_same missing number k ≡ true
  is_missing k e =
      ap (λ (b : Bool). not (is_front missing k && not b) || eqb (number k) (number (k - 1))) e
      ∙ ap (λ (b : Bool). not b || eqb (number k) (number (k - 1))) (and_no (is_front missing k))

  -- the first value is there
  pub starts : (n : ℕ) → missing 0 ≡ false → each_below (is_first_same missing number) n ≡ true
  starts n e = true_each (is_first_same missing number) n (λ k lt. elim (cases_lt 0 k) [
    | inl some ↦ not_front k (each_false missing k 0 some e)
    | inr none ↦ (let z : k ≡ 0 = omega (arith, none) in ap (is_first_same missing number) z ∙ first_passes)
  ])

  -- no value is there
  pub ends : (n : ℕ) → is_front missing n ≡ true → each_below (is_first_same missing number) n ≡ true
  ends n e = true_each (is_first_same missing number) n (λ k lt. is_missing k (each_true missing n e k lt))

  -- the first value that is there has position k
  pub begins : (n k : ℕ) → k < n → is_front missing k ≡ true → missing k ≡ false → eqb (number k) (number (k - 1)) ≡ each_below (is_first_same missing number) n
  begins n k lt e f =
      let here : is_first_same missing number k ≡ eqb (number k) (number (k - 1)) =
      ap (λ (b : Bool). not (b && not (missing k)) || eqb (number k) (number (k - 1))) e ∙ ap (λ (b : Bool). not (not b) || eqb (number k) (number (k - 1))) f in
      elim (decided (eqb (number k) (number (k - 1)))) [
        | inl passes ↦ passes ∙ sym (true_each (is_first_same missing number) n (λ i below. elim (cases_lt i k) [
          | inl earlier ↦ is_missing i (each_true missing k e i earlier)
          | inr from ↦ elim (cases_lt k i) [
            | inl later ↦ not_front i (each_false missing i k later f)
            | inr same ↦ (let z : i ≡ k = omega (arith, from, same) in ap (is_first_same missing number) z ∙ here ∙ passes)
          ]
        ]))
        | inr fails ↦ fails ∙ sym (each_false (is_first_same missing number) n k lt (here ∙ fails))
      ]

  -- no position is missing
  pub none_filled : (n : ℕ) → ((k : ℕ) → k < n → missing k ≡ false) → each_below (is_filled missing number) n ≡ true
  unfolding each_below
  none_filled zero none = each_filled 0
  none_filled (suc n) none =
      each_filled (suc n)
      ∙ ap (λ (b : Bool). b && each_below (is_first_same missing number) (suc n))
      (true_each (is_as_before missing number) (suc n) (λ k lt. ap (λ (b : Bool). not b || eqb (number k) (number (k - 1))) (none k lt)))
      ∙ starts (suc n) (none 0 (omega arith))

module _ (begin low high : ℕ) (xs : List ℕ) (rising : IsRising low high xs) where
  -- no id is between two positions of one rank
  pub none_missing : (n : ℕ) → rank begin xs ≡ rank (begin + n) xs → (k : ℕ) → k < n → has (begin + k) xs ≡ false
  none_missing n e k lt = elim (decided (has (begin + k) xs)) [
    | inr absent ↦ absent
    | inl is ↦
        let step : rank (begin + k + 1) xs ≡ rank (begin + k) xs + one (has (begin + k) xs) = rank_step (begin + k) low high xs rising in
        let more : one (has (begin + k) xs) ≡ 1 = ap one is in
        absurd (omega (arith, e, step, more, rank_up begin (begin + k) xs (omega arith), rank_up (begin + k + 1) (begin + n) xs (omega (arith, lt))))
  ]

  -- all positions are missing exactly if there are as many ids
  pub all_missing : (n count : ℕ) → rank begin xs + count ≡ rank (begin + n) xs → eqb count n ≡ is_front (λ k. has (begin + k) xs) n
  all_missing n count e = elim (decided (is_front (λ k. has (begin + k) xs) n)) [
    | inl all ↦ eq-eqb count n (omega (arith, e, front_rank begin low high xs rising n all)) ∙ sym all
    | inr some ↦ elim (decided (eqb count n)) [
      | inl same ↦ absurd (true≢false (sym (true_front begin low high xs rising n (omega (arith, e, eqb-true count n same))) ∙ some))
      | inr other ↦ other ∙ sym some
    ]
  ]
