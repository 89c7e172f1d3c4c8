-- Tests of numbers one after the other.
use Rattle.std.proofs.Common.{◌≡◌, ℕ, zero, suc, ◌+◌, ◌<◌, ◌≤◌, Bool, true, false, ◌&&◌, cond, List, Option, Some, None, refl, sym, ap, ◌∙◌, arith, inl, inr, subst, add-one}
use Rattle.std.specs.Option.{option_or}
use Rattle.std.proofs.lemmas.Bool.{cases_lt, lt-ltb, le-ltb}
use Rattle.bitpack_slices.proofs.ForCallers.{both_true, true_both}
use Rattle.bitpack_sets.proofs.ForCallers.{or_none}
use Rattle.bitpack_sets.specs.Directory.{before}
use Rattle.bitpack_wide.specs.declared.wide_column_error.WideColumnError.{WideColumnError}
use Rattle.bitpack_wide.specs.declared.wide_column_error.WideColumnError.TheVariants.{BadOffset}
use Rattle.bitpack_wide.specs.WideColumnFaults.{each_below, end_fault, first_of}
use Rattle.bitpack_wide.specs.WideColumnReads.{end_at}

-- ---- the first of some faults

pub first_none : (fault : ℕ → Option WideColumnError) (count : ℕ) → first_of fault count ≡ None → (m : ℕ) → m < count → fault m ≡ None
unfolding first_of
first_none fault zero e m h = absurd (omega arith)
first_none fault (suc count) e m h =
    let (earlier, here) = or_none (first_of fault count) (fault count) e in
    elim (cases_lt m count) [ inl less ↦ first_none fault count earlier m less | inr more ↦ (let same : m ≡ count = omega arith in ap fault same ∙ here) ]

pub first_start : (fault : ℕ → Option WideColumnError) → first_of fault 0 ≡ None
unfolding first_of
first_start fault = refl

pub first_more : (fault : ℕ → Option WideColumnError) (m : ℕ) → first_of fault m ≡ None → fault m ≡ None → first_of fault (m + 1) ≡ None
unfolding first_of
first_more fault m e f = ap (first_of fault) (add-one m) ∙ ap (λ (o : Option WideColumnError). option_or o (fault m)) e ∙ f

pub first_found : (fault : ℕ → Option WideColumnError) (count m : ℕ) (e : WideColumnError) → m < count → first_of fault m ≡ None → fault m ≡ Some e
    → first_of fault count ≡ Some e
unfolding first_of
first_found fault zero m e h before here = absurd (omega arith)
first_found fault (suc count) m e h before here = elim (cases_lt m count) [
  | inl less ↦ ap (λ (o : Option WideColumnError). option_or o (fault count)) (first_found fault count m e less before here)
  | inr more ↦
      let same : m ≡ count = omega arith in
      let none : first_of fault count ≡ None = subst (λ (n : ℕ). first_of fault n ≡ None) same before in
      let found : fault count ≡ Some e = subst (λ (n : ℕ). fault n ≡ Some e) same here in
      ap (λ (o : Option WideColumnError). option_or o (fault count)) none ∙ found
]

-- ---- ends

pub end_falls : (chunks : ℕ) (rest : List ℕ) (j : ℕ) → end_at chunks rest j < before (end_at chunks rest) j → end_fault chunks rest j ≡ Some (BadOffset j)
unfolding end_fault
end_falls chunks rest j lt = ap (λ (b : Bool). cond b (Some (BadOffset j)) None) (lt-ltb (end_at chunks rest j) (before (end_at chunks rest) j) lt)

pub end_rises : (chunks : ℕ) (rest : List ℕ) (j : ℕ) → before (end_at chunks rest) j ≤ end_at chunks rest j → end_fault chunks rest j ≡ None
unfolding end_fault
end_rises chunks rest j le = ap (λ (b : Bool). cond b (Some (BadOffset j)) None) (le-ltb (end_at chunks rest j) (before (end_at chunks rest) j) le)

-- an end is not above the last one
pub ends_le : (f : ℕ → ℕ) (upto : ℕ) → ((j : ℕ) → j < upto → before f j ≤ f j) → (j : ℕ) → j < upto → f j ≤ before f upto
ends_le f zero rising j lt = absurd (omega arith)
ends_le f (suc upto) rising j lt = elim (cases_lt j upto) [
  | inl below ↦ omega (arith, ends_le f upto (λ i less. rising i (omega arith)) j below, rising upto (omega arith))
  | inr last ↦
      let here : j ≡ upto = omega arith in
      rw here (omega arith)
]

-- ---- tests of each number below a count

pub each_start : (test : ℕ → Bool) → each_below test 0 ≡ true
unfolding each_below
each_start test = refl

pub each_next : (test : ℕ → Bool) (n : ℕ) → each_below test (n + 1) ≡ (each_below test n && test n)
unfolding each_below
each_next test n = ap (each_below test) (add-one n)

and_false : (a b : Bool) → b ≡ false → (a && b) ≡ false
and_false true b e = e
and_false false b e = refl

pub each_more : (test : ℕ → Bool) (n : ℕ) → each_below test n ≡ true → test n ≡ true → each_below test (n + 1) ≡ true
each_more test n e f = each_next test n ∙ true_both (each_below test n) (test n) e f

pub true_each : (test : ℕ → Bool) (n : ℕ) → ((k : ℕ) → k < n → test k ≡ true) → each_below test n ≡ true
unfolding each_below
true_each test zero h = refl
true_each test (suc n) h = true_both (each_below test n) (test n) (true_each test n (λ k lt. h k (omega arith))) (h n (omega arith))

pub each_true : (test : ℕ → Bool) (n : ℕ) → each_below test n ≡ true → (k : ℕ) → k < n → test k ≡ true
unfolding each_below
each_true test zero e k lt = absurd (omega arith)
each_true test (suc n) e k lt = elim (cases_lt k n) [
  | inl less ↦ each_true test n ((both_true (each_below test n) (test n) e).0) k less
  | inr more ↦ (let same : k ≡ n = omega arith in ap test same ∙ (both_true (each_below test n) (test n) e).1)
]

pub each_false : (test : ℕ → Bool) (n k : ℕ) → k < n → test k ≡ false → each_below test n ≡ false
unfolding each_below
each_false test zero k lt e = absurd (omega arith)
each_false test (suc n) k lt e = elim (cases_lt k n) [
  | inl less ↦ ap (λ (x : Bool). x && test n) (each_false test n k less e)
  | inr more ↦ (let same : k ≡ n = omega arith in and_false (each_below test n) (test n) (sym (ap test same) ∙ e))
]

pub each_same : (f g : ℕ → Bool) (n : ℕ) → ((k : ℕ) → k < n → f k ≡ g k) → each_below f n ≡ each_below g n
unfolding each_below
each_same f g zero h = refl
each_same f g (suc n) h = ap (λ (x : Bool). x && f n) (each_same f g n (λ k lt. h k (omega arith))) ∙ ap (λ (x : Bool). each_below g n && x) (h n (omega arith))

four : (a b c d : Bool) → ((a && b) && (c && d)) ≡ ((a && c) && (b && d))
four true true c d = refl
four true false true d = refl
four true false false d = refl
four false b c d = refl

pub each_both : (f g : ℕ → Bool) (n : ℕ) → each_below (λ k. f k && g k) n ≡ (each_below f n && each_below g n)
unfolding each_below
each_both f g zero = refl
each_both f g (suc n) = ap (λ (x : Bool). x && (f n && g n)) (each_both f g n) ∙ four (each_below f n) (each_below g n) (f n) (g n)
