-- What is seen of numbers one after the other: a 0, the greatest, and whether they rise.
use Rattle.std.proofs.Common.{◌≡◌, ℕ, zero, suc, ◌+◌, ◌-◌, ◌<◌, ◌≤◌, Bool, true, false, ◌&&◌, ◌||◌, not, eqb, eq-eqb, ltb, leb, max, List, Option, None, length, take, drop, get_or, refl, sym, subst, ap, ◌∙◌, arith, inl, inr, add-one}
use Rattle.std.proofs.lemmas.Bool.{cases_lt, le-leb, le-ltb, lt-leb, lt-ltb, ne_eqb}
use Rattle.std.proofs.lemmas.List.{get_or-drop, get_or-take, length-take}
use Rattle.bitpack_groups.specs.Numbers.{greatest}
use Rattle.bitpack_wide.specs.WideColumnFaults.{each_below, rise}
use Rattle.bitpack_columns.proofs.ForCallers.{values_are_read}
use Rattle.bitpack_columns.specs.Opened.{kind_of, values}
use Rattle.bitpack_columns.specs.declared.column.Column.{Column}
use Rattle.bitpack_columns.specs.declared.column_kind.ColumnKind.TheVariants.{Sorted}
use Rattle.bitpack_wide.specs.WideColumnSound.{IsPart, difference_in}
use Rattle.bitpack_wide.specs.inner.WideColumnSteps.{Sees, SeesRise}
use Rattle.bitpack_wide.proofs.WideSteps.{each_false, each_next, each_start, true_each}

pub not_all : (a b : Bool) → not (a && b) ≡ (not a || not b)
not_all true b = refl
not_all false b = refl

pub not_le : (a b : ℕ) → not (leb a b) ≡ ltb b a
not_le a b = elim (cases_lt b a) [
  | inl less ↦ ap not (lt-leb a b less) ∙ sym (lt-ltb b a less)
  | inr more ↦ ap not (le-leb a b more) ∙ sym (le-ltb b a more)
]

pub not_above : (x : ℕ) → not (ltb 0 x) ≡ eqb x 0
not_above x = elim (cases_lt 0 x) [
  | inl less ↦ ap not (lt-ltb 0 x less) ∙ sym (ne_eqb x 0 (λ e. absurd (omega (arith, less, e))))
  | inr more ↦ ap not (le-ltb 0 x more) ∙ sym (eq-eqb x 0 (omega (arith, more)))
]

-- ---- a 0, and the greatest

pub sees_start : (number : ℕ → ℕ) → Sees number 0 false 0
sees_start number = record { zero_is = sym (ap not (each_start (λ k. ltb 0 (number k)))); most_is = refl }

pub sees_next : (number : ℕ → ℕ) (from i x most top : ℕ) (found : Bool) → Sees number (from + i) found most → x ≡ number (from + i) → top ≡ max most x
    → Sees number (from + (i + 1)) (found || eqb x 0) top
sees_next number from i x most top found seen is t =
    let n : ℕ = from + i in
    let e : from + (i + 1) ≡ n + 1 = omega arith in
    let test : ℕ → Bool = λ k. ltb 0 (number k) in
    record {
      zero_is =
          ap (λ (z : Bool). z || eqb x 0) seen.zero_is ∙ ap (λ (z : Bool). not (each_below test n) || z) (sym (not_above x) ∙ ap (λ (y : ℕ). not (ltb 0 y)) is)
          ∙ sym (ap not (ap (each_below test) e ∙ each_next test n) ∙ not_all (each_below test n) (test n));
      most_is =
          t ∙ ap (λ (y : ℕ). max y x) seen.most_is ∙ ap (max (greatest number n)) is ∙ sym (ap (greatest number) (e ∙ add-one n));
    }

-- ---- order

pub rises_start : (number : ℕ → ℕ) → SeesRise number 0 true 0
rises_start number = record { rises_is = sym (each_start (λ k. leb (number (k - 1)) (number k))); last_is = λ some. absurd (omega (arith, some)) }

le_same : (number : ℕ → ℕ) (n x last : ℕ) → (0 < n → last ≡ number (n - 1)) → (n ≡ 0 → last ≡ 0) → x ≡ number n
    → leb last x ≡ leb (number (n - 1)) (number n)
le_same number n x last after start is = elim (cases_lt 0 n) [
  | inl some ↦ ap (λ (y : ℕ). leb y x) (after some) ∙ ap (leb (number (n - 1))) is
  | inr none ↦
      let here : n ≡ 0 = omega (arith, none) in
      let first : n - 1 ≡ n = omega (arith, none) in
      le-leb last x (omega (arith, start here)) ∙ sym (ap (λ (m : ℕ). leb (number m) (number n)) first ∙ le-leb (number n) (number n) (omega arith))
]

pub rises_next : (number : ℕ → ℕ) (from i x last : ℕ) (rises : Bool) → SeesRise number (from + i) rises last → (from + i ≡ 0 → last ≡ 0) → x ≡ number (from + i)
    → SeesRise number (from + (i + 1)) (rises && leb last x) x
rises_next number from i x last rises seen start is =
    let n : ℕ = from + i in
    let e : from + (i + 1) ≡ n + 1 = omega arith in
    let test : ℕ → Bool = λ k. leb (number (k - 1)) (number k) in
    let before : n ≡ from + (i + 1) - 1 = omega arith in
    record {
      rises_is =
          ap (λ (b : Bool). b && leb last x) seen.rises_is ∙ ap (λ (b : Bool). each_below test n && b) (le_same number n x last seen.last_is start is)
          ∙ sym (ap (each_below test) e ∙ each_next test n);
      last_is = λ some. is ∙ ap number before;
    }

pub falls_start : (number : ℕ → ℕ) (from x before : ℕ) → SeesRise number from true before → (from ≡ 0 → before ≡ 0) → x ≡ number (from + 0)
    → ltb x before ≡ not (rise number (from + 1))
falls_start number from x before seen start is =
    let e : from ≡ from + 0 = omega arith in
    let all = rises_next number from 0 x before true (subst (λ (n : ℕ). SeesRise number n true before) e seen) (λ none. start (omega (arith, none))) is in
    sym (not_le before x) ∙ ap not all.rises_is

pub falls_next : (number : ℕ → ℕ) (from i x last : ℕ) (falls : Bool) → 1 ≤ i → falls ≡ not (rise number (from + i)) → x ≡ number (from + i)
    → last ≡ number (from + (i - 1)) → (falls || ltb x last) ≡ not (rise number (from + (i + 1)))
falls_next number from i x last falls some seen is was =
    let n : ℕ = from + i in
    let e : from + (i + 1) ≡ n + 1 = omega arith in
    let test : ℕ → Bool = λ k. leb (number (k - 1)) (number k) in
    let before : from + (i - 1) ≡ n - 1 = omega (arith, some) in
    let same : leb last x ≡ test n = ap (λ (y : ℕ). leb y x) (was ∙ ap number before) ∙ ap (leb (number (n - 1))) is in
    ap (λ (b : Bool). b || ltb x last) seen ∙ ap (λ (b : Bool). not (each_below test n) || b) (sym (not_le last x) ∙ ap not same)
    ∙ sym (ap not (ap (each_below test) e ∙ each_next test n) ∙ not_all (each_below test n) (test n))

-- ---- parts

pub is_part : (values out : List ℕ) (from n : ℕ) → take n out ≡ take n (drop from values) → IsPart (λ k. get_or values k 0) from (take n out)
is_part values out from n e k lt =
    let below : k < n = omega (arith, lt, length-take n out) in
    ap (λ (l : List ℕ). get_or l k 0) e ∙ get_or-take n (drop from values) k 0 below ∙ get_or-drop from values k 0

-- numbers that do not rise do not rise with more of them
pub each_fails : (test : ℕ → Bool) (n m : ℕ) → each_below test n ≡ false → n ≤ m → each_below test m ≡ false
unfolding each_below
each_fails test n zero e le = let none : n ≡ 0 = omega arith in sym (ap (each_below test) none) ∙ e
each_fails test n (suc m) e le = elim (cases_lt m n) [
  | inl all ↦ (let same : n ≡ suc m = omega arith in sym (ap (each_below test) same) ∙ e)
  | inr more ↦ ap (λ (b : Bool). b && test m) (each_fails test n m e more)
]

-- ---- a column, part by part

pub not_true : (b : Bool) → not b ≡ true → b ≡ false
not_true false e = refl
not_true true e = sym e

pub not_false : (b : Bool) → not b ≡ false → b ≡ true
not_false true e = refl
not_false false e = sym e

abbrev pub at : List ℕ → ℕ → ℕ
at values k = get_or values k 0

module _ (values out : List ℕ) (from n : ℕ) (fell : Bool) (seen : fell ≡ not (rise (at values) (from + length (take n out)))) where
  pub found_fall : fell ≡ true → from + length (take n out) ≤ length values → true ≡ not (rise (at values) (length values))
  found_fall e within =
      sym (ap not (each_fails (λ k. leb (at values (k - 1)) (at values k)) (from + length (take n out)) (length values) (not_true _ (sym seen ∙ e)) within))

  pub part_rises : fell ≡ false → take n out ≡ take n (drop from values) → 0 < n → length (take n out) ≡ n → SeesRise (at values) (from + n) true (get_or out (n - 1) 0)
  part_rises e same some long =
      let here : from + (n - 1) ≡ from + n - 1 = omega (arith, some) in
      record {
        rises_is = sym (ap (λ (m : ℕ). rise (at values) (from + m)) (sym long) ∙ not_false _ (sym seen ∙ e));
        last_is = λ more.
            sym (get_or-take n out (n - 1) 0 (omega (arith, some))) ∙ is_part values out from n same (n - 1) (omega (arith, some, long)) ∙ ap (at values) here;
      }

-- ---- numbers in order

-- a sorted column has its values in order
pub column_order : (column : Column) → kind_of column ≡ Sorted → (i j : ℕ) → i ≤ j → j < length (values column) → get_or (values column) i 0 ≤ get_or (values column) j 0
column_order column sorted i j le lt = (values_are_read column.bytes.bytes.now column.are_bytes column.states.none).0.ordered (sym column.states.kind_is ∙ sorted) i j 0 le lt

-- a chunk without a high part has the numbers of its low part
pub narrow_is : (low : Column) (high : Option Column) (k : ℕ) → high ≡ None → difference_in low high k ≡ get_or (values low) k 0
narrow_is low high k none = ap (λ (h : Option Column). difference_in low h k) none ∙ omega arith

module _ (number : ℕ → ℕ) (n : ℕ) (some : 0 < n) (ordered : (i j : ℕ) → i ≤ j → j < n → number i ≤ number j) where
  pub ordered_rise : true ≡ rise number n
  ordered_rise = sym (true_each (λ k. leb (number (k - 1)) (number k)) n (λ k lt. le-leb (number (k - 1)) (number k) (ordered (k - 1) k (omega arith) lt)))

  greatest_last : (m : ℕ) → 0 < m → m ≤ n → greatest number m ≡ number (m - 1)
  greatest_last zero none le = absurd (omega (arith, none))
  greatest_last (suc m) more le = elim (cases_lt 0 m) [
    | inl before ↦
        let last = ordered (m - 1) m (omega arith) (omega (arith, le)) in
        ap (λ (x : ℕ). max x (number m)) (greatest_last m before (omega (arith, le))) ∙ grind (arith, last)
    | inr none ↦ (let first : m ≡ 0 = omega (arith, none) in ap (λ (k : ℕ). max (greatest number k) (number m)) first ∙ grind arith)
  ]

  pub ordered_sees : Sees number n (eqb (number 0) 0) (number (n - 1))
  ordered_sees = record {
    zero_is = elim (cases_lt 0 (number 0)) [
      | inl more ↦
          ne_eqb (number 0) 0 (λ e. absurd (omega (arith, more, e)))
          ∙ sym (ap not (true_each (λ k. ltb 0 (number k)) n (λ k lt. lt-ltb 0 (number k) (omega (arith, more, ordered 0 k (omega arith) lt)))))
      | inr none ↦
          eq-eqb (number 0) 0 (omega (arith, none)) ∙ sym (ap not (each_false (λ k. ltb 0 (number k)) n 0 some (le-ltb 0 (number 0) (omega (arith, none)))))
    ];
    most_is = sym (greatest_last n some (omega arith));
  }
