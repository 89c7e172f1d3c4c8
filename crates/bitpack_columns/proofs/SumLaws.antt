-- Running sums of widths, and greatest marks.
use Rattle.std.proofs.Common.{◌≡◌, ℕ, zero, suc, max, ◌+◌, ◌*◌, ◌<◌, ◌≤◌, refl, sym, ap, ◌∙◌, arith, inl, inr, subst}
use Rattle.std.proofs.lemmas.Bool.{cases_lt}
use Rattle.bitpack_groups.specs.Numbers.{greatest}
use Rattle.bitpack_columns.specs.Columns.{sum_to}

pub sum_more : (f : ℕ → ℕ) (n : ℕ) → sum_to f (suc n) ≡ sum_to f n + f n
unfolding sum_to
sum_more f n = refl

pub sum_none : (f : ℕ → ℕ) → sum_to f 0 ≡ 0
unfolding sum_to
sum_none f = refl

pub sum_same : (f g : ℕ → ℕ) (n : ℕ) → ((m : ℕ) → m < n → f m ≡ g m) → sum_to f n ≡ sum_to g n
unfolding sum_to
sum_same f g zero h = refl
sum_same f g (suc n) h = ap (λ (k : ℕ). k + f n) (sum_same f g n (λ m lt. h m (omega arith))) ∙ ap (λ (k : ℕ). sum_to g n + k) (h n (omega arith))

pub sum_up : (f : ℕ → ℕ) (m n : ℕ) → m ≤ n → sum_to f m ≤ sum_to f n
unfolding sum_to
sum_up f m zero h = (let e : m ≡ 0 = omega arith in subst (λ (k : ℕ). sum_to f k ≤ 0) (sym e) (omega arith))
sum_up f m (suc n) h = elim (cases_lt n m) [
  | inl last ↦ (let e : suc n ≡ m = omega arith in subst (λ (k : ℕ). sum_to f k ≤ sum_to f (suc n)) e (omega arith))
  | inr less ↦ (let e = sum_up f m n less in omega arith)
]

pub sum_most : (f : ℕ → ℕ) (most n : ℕ) → ((m : ℕ) → m < n → f m ≤ most) → sum_to f n ≤ most * n
unfolding sum_to
sum_most f most zero h = omega arith
sum_most f most (suc n) h =
    let rest : sum_to f n ≤ most * n = sum_most f most n (λ m lt. h m (omega arith)) in
    let last : f n ≤ most = h n (omega arith) in
    let e : most * suc n ≡ most * n + most = grind arith in
    omega arith

pub greatest_same : (f g : ℕ → ℕ) (n : ℕ) → ((m : ℕ) → m < n → f m ≡ g m) → greatest f n ≡ greatest g n
greatest_same f g zero h = refl
greatest_same f g (suc n) h = ap (λ (k : ℕ). max k (f n)) (greatest_same f g n (λ m lt. h m (omega arith))) ∙ ap (λ (k : ℕ). max (greatest g n) k) (h n (omega arith))

pub greatest_le : (f : ℕ → ℕ) (n m : ℕ) → m < n → f m ≤ greatest f n
greatest_le f zero m h = absurd (omega arith)
greatest_le f (suc n) m h = elim (cases_lt m n) [
  | inl less ↦ (let e = greatest_le f n m less in omega arith)
  | inr more ↦ (let e : m ≡ n = omega arith in subst (λ (k : ℕ). f k ≤ greatest f (suc n)) (sym e) (omega arith))
]

pub greatest_below : (f : ℕ → ℕ) (top n : ℕ) → 0 < top → ((m : ℕ) → m < n → f m < top) → greatest f n < top
greatest_below f top zero pos h = pos
greatest_below f top (suc n) pos h =
    let rest : greatest f n < top = greatest_below f top n pos (λ m lt. h m (omega arith)) in
    let last : f n < top = h n (omega arith) in
    omega arith
