-- The least and the greatest of values, the width of a plain block by its bounds, and blocks measured one after the other.
use Rattle.std.proofs.Common.{◌≡◌, ℕ, zero, suc, ◌+◌, ◌-◌, ◌*◌, ◌/◌, ◌^◌, ◌<◌, ◌≤◌, Bool, true, List, [], ◌∷◌, length, get_or, set, take, drop, None, refl, sym, ap, ◌∙◌, arith, inl, inr, subst}
use Rattle.std.specs.Prelude.{max, min}
use lib.Count.{count_leading_zeros}
use Rattle.std.proofs.Math.Nat.{max-eq_left, max-eq_right}
use Rattle.std.proofs.lemmas.Bool.{cases_lt}
use Rattle.std.proofs.lemmas.List.{drop_all, drop_more, get_or-map, get_or-set_other, get_or-set_same, length-map, length-set}
use Rattle.std.proofs.lemmas.List.Elements.{All-drop, All-from_get_or, All-take}
use Rattle.bitpacking.specs.Codes.{AreWords}
use Rattle.bitpacking.specs.Width.{Fits}
use Rattle.bitpack_groups.proofs.ForCallers.{Least-bits, least_width_is}
use Rattle.bitpack_groups.specs.Packed.{least_width}
use Rattle.bitpack_columns.specs.declared.column_kind.ColumnKind.{ColumnKind}
use Rattle.bitpack_columns.specs.declared.column_kind.ColumnKind.TheVariants.{Plain, Sorted}
use Rattle.bitpack_columns.specs.Columns.{base_of, block_of, codes, least, mark_in, mark_of, sum_to}
use Rattle.bitpack_columns.specs.Faults.{first_below}
use Rattle.bitpack_columns.specs.Measured.{AreWidths, IsMeasured, Rises, base_after, codes_after, width_after}
use Rattle.bitpack_columns.specs.Numbers.{greatest}
use Rattle.bitpack_columns.proofs.BlockFacts.{width_found}
use Rattle.bitpack_columns.proofs.CodeLaws.{codes_words, least_le, least_word}
use Rattle.bitpack_columns.proofs.FallLaws.{block_rises}
use Rattle.bitpack_columns.proofs.SumLaws.{greatest_le, sum_more, sum_most, sum_none}

-- ---- bounds

least_next : (x : ℕ) (xs : List ℕ) → least (x ∷ xs) ≡ min x (least xs)
unfolding least
least_next x xs = refl

least_none : least [] ≡ 4294967295
unfolding least
least_none = refl

pub least_start : (values : List ℕ) → min 4294967295 (least values) ≡ least values
least_start values = let small = least_word values in omega arith

pub least_more : (so_far i : ℕ) (values : List ℕ) → i < length values → min so_far (least (drop i values)) ≡ least values
    → min (min so_far (get_or values i 0)) (least (drop (i + 1) values)) ≡ least values
least_more so_far i values lt e =
    let step : least (drop i values) ≡ min (get_or values i 0) (least (drop (i + 1) values)) = ap least (drop_more values i 0 lt) ∙ least_next (get_or values i 0) (drop (i + 1) values) in
    omega arith

pub least_done : (so_far i : ℕ) (values : List ℕ) → length values ≤ i → so_far < 2 ^ 32 → min so_far (least (drop i values)) ≡ least values → so_far ≡ least values
least_done so_far i values past small e =
    let none : least (drop i values) ≡ 4294967295 = ap least (drop_all i values past) ∙ least_none in
    omega arith

pub greatest_more : (number : ℕ → ℕ) (so_far i : ℕ) → so_far ≡ greatest number i → max so_far (number i) ≡ greatest number (i + 1)
greatest_more number so_far i e = ap (λ (k : ℕ). max k (number i)) e ∙ (let n : suc i ≡ i + 1 = omega arith in ap (greatest number) n)

greatest_is : (number : ℕ → ℕ) (count : ℕ) → 0 < count → (k : ℕ) × (k < count) × (number k ≡ greatest number count)
greatest_is number zero some = absurd (omega arith)
greatest_is number (suc zero) some = (0, omega arith, sym (max-eq_right {n = 0} {m = number 0} (omega arith)))
greatest_is number (suc (suc count)) some =
    let so_far : ℕ = greatest number (suc count) in
    let last : ℕ = number (suc count) in
    let (at, within, is) = greatest_is number (suc count) (omega arith) in
    elim (cases_lt last so_far) [
      | inl lt ↦ (at, omega arith, is ∙ sym (max-eq_left {n = so_far} {m = last} (omega (arith, lt))))
      | inr le ↦ (suc count, omega arith, sym (max-eq_right {n = so_far} {m = last} le))
    ]

abbrev high : List ℕ → ℕ
high block = greatest (λ k. get_or block k 0) (length block)

pub bounds_order : (block : List ℕ) → 0 < length block → least block ≤ high block
bounds_order block some =
    let low = least_le block 0 some in
    let top = greatest_le (λ k. get_or block k 0) (length block) 0 some in
    omega arith

pub plain_width : (block : List ℕ) (width : ℕ) → AreWords block → 0 < length block → count_leading_zeros 32 (high block - least block) + width ≡ 32
    → least_width (codes Plain (least block) block) ≡ width
plain_width block width words some zeros =
    let value : ℕ → ℕ = λ k. get_or block k 0 in
    let n : ℕ = length block in
    let all : List ℕ = codes Plain (least block) block in
    let long : length all ≡ n = length-map block (λ v. v - least block) in
    let (at, within, is) = greatest_is value n some in
    let top : value at < 2 ^ 32 = words at 0 within in
    let code = λ (k : ℕ) (lt : k < n). get_or-map (λ v. v - least block) block k 0 0 lt in
    least_width_is width all
    (Least-bits all (high block - least block) width
    (omega (arith, is, top))
    (λ w lt. All-from_get_or (λ v. v < 2 ^ w) all 0 (λ k h. omega (arith, lt, code k (omega (arith, h, long)), greatest_le value n k (omega (arith, h, long)))))
    (λ w fits. omega (arith, fits at 0 (omega (arith, within, long)), code at within, is))
    zeros)
    (omega (arith, zeros))

-- ---- widths

pub block_words : (m : ℕ) (values : List ℕ) → AreWords values → AreWords (block_of m values)
block_words m values words = All-take (λ v. v < 2 ^ 32) 128 (drop (128 * m) values) (All-drop (λ v. v < 2 ^ 32) (128 * m) values words)

pub width_narrow : (kind : ColumnKind) (before : ℕ) (values : List ℕ) (m : ℕ) → AreWords values → width_after kind before values m ≤ 32
width_narrow kind before values m words =
    (width_found (codes_after kind before values m)
    (codes_words kind (base_of kind before (mark_in kind values) m) (block_of m values) (block_words m values words))).1

pub total_few : (kind : ColumnKind) (before : ℕ) (values : List ℕ) (n : ℕ) → AreWords values → sum_to (width_after kind before values) n ≤ 32 * n
total_few kind before values n words = sum_most (width_after kind before values) 32 n (λ m lt. width_narrow kind before values m words)

-- what the codes of a block count from
pub base_here : (kind : ColumnKind) (before last m : ℕ) (values : List ℕ) → (kind ≡ Sorted → last ≡ base_of Sorted before (mark_in Sorted values) m)
    → base_after kind last (mark_in kind values m) ≡ base_of kind before (mark_in kind values) m
base_here Plain before last m values e = refl
base_here Sorted before last m values e = e refl

pub width_here : (kind : ColumnKind) (before last m : ℕ) (values : List ℕ) → (kind ≡ Sorted → last ≡ base_of Sorted before (mark_in Sorted values) m)
    → least_width (codes kind (base_after kind last (mark_in kind values m)) (block_of m values)) ≡ width_after kind before values m
width_here kind before last m values e = ap (λ (b : ℕ). least_width (codes kind b (block_of m values))) (base_here kind before last m values e)

-- ---- blocks one after the other

pub record MeasuredTo (kind : ColumnKind) (before : ℕ) (values : List ℕ) (i total most last : ℕ) (widths : List ℕ) (rises : Bool) : Type 0 where
  pub total_is : total ≡ sum_to (width_after kind before values) i
  pub bound : total ≤ 32 * i
  pub most_is : most ≡ greatest (mark_in kind values) i
  pub last_is : kind ≡ Sorted → last ≡ base_of Sorted before (mark_in Sorted values) i
  pub cached : (m : ℕ) → m < i → m < length widths → get_or widths m 0 ≡ width_after kind before values m
  pub none : rises ≡ true → kind ≡ Sorted → first_below 0 before (take (128 * i) values) ≡ None

pub measured_start : (kind : ColumnKind) (before : ℕ) (values widths : List ℕ) → MeasuredTo kind before values 0 0 0 before widths true
unfolding first_below
measured_start kind before values widths = record {
  total_is = sym (sum_none (width_after kind before values));
  bound = omega arith;
  most_is = refl;
  last_is = λ _. refl;
  cached = λ m lt within. absurd (omega arith);
  none = λ _ _. refl;
}

-- what was cached of a block
pub record Caches (i width : ℕ) (old new : List ℕ) : Type 0 where
  pub len : length new ≡ length old
  pub here : i < length old → get_or new i 0 ≡ width
  pub other : (k : ℕ) → k < i → get_or new k 0 ≡ get_or old k 0

pub caches_set : (i width : ℕ) (old : List ℕ) → Caches i width old (set old i width)
caches_set i width old = record {
  len = length-set old i width;
  here = λ lt. get_or-set_same old i width 0 lt;
  other = λ k lt. get_or-set_other old i k width 0 (λ e. omega (arith, e));
}

pub caches_past : (i width : ℕ) (old : List ℕ) → length old ≤ i → Caches i width old old
caches_past i width old past = record { len = refl; here = λ lt. absurd (omega arith); other = λ k lt. refl }

-- what a block of a sorted column shows
pub sorted_goes : (kind : ColumnKind) (last mark width : ℕ) (block : List ℕ) → kind ≡ Sorted → AreWords block → mark ≡ mark_of kind block
    → width ≡ least_width (codes kind (base_after kind last (mark_of kind block)) block) → (get_or block 127 0 ≡ mark) × Fits (codes Sorted last block) width
sorted_goes Plain last mark width block is words mark_is width_is = absurd cc
sorted_goes Sorted last mark width block is words mark_is width_is =
    (sym mark_is, subst (λ (w : ℕ). Fits (codes Sorted last block) w) (sym width_is) (width_found (codes Sorted last block) (codes_words Sorted last block words)).0.fits)

pub measured_more : (kind : ColumnKind) (before : ℕ) (values : List ℕ) (i total most last : ℕ) (widths : List ℕ) (rises : Bool)
    → MeasuredTo kind before values i total most last widths rises → 128 * i + 128 ≤ length values
    → (mark width : ℕ) (new : List ℕ) (still : Bool) → mark ≡ mark_of kind (block_of i values)
    → width ≡ least_width (codes kind (base_after kind last (mark_of kind (block_of i values))) (block_of i values)) → width ≤ 32 → Caches i width widths new
    → (still ≡ true → (rises ≡ true) × (kind ≡ Sorted → first_below 0 last (block_of i values) ≡ None))
    → MeasuredTo kind before values (i + 1) (total + width) (max most mark) mark new still
measured_more kind before values i total most last widths rises so_far le mark width new still mark_is width_is narrow caches goes =
    let n : i + 1 ≡ suc i = omega arith in
    let width' : width ≡ width_after kind before values i = width_is ∙ width_here kind before last i values so_far.last_is in
    let t = so_far.total_is in
    let b = so_far.bound in
    record {
      total_is = ap (λ (k : ℕ). k + width) t ∙ ap (λ (k : ℕ). sum_to (width_after kind before values) i + k) width'
          ∙ sym (sum_more (width_after kind before values) i) ∙ ap (sum_to (width_after kind before values)) (sym n);
      bound = omega arith;
      most_is = ap (λ (k : ℕ). max k mark) so_far.most_is ∙ ap (max (greatest (mark_in kind values) i)) mark_is ∙ ap (greatest (mark_in kind values)) (sym n);
      last_is = λ is. mark_is ∙ ap (λ (k : ColumnKind). mark_of k (block_of i values)) is ∙ ap (base_of Sorted before (mark_in Sorted values)) (sym n);
      cached = λ m lt within. elim (cases_lt m i) [
        | inl earlier ↦ caches.other m earlier ∙ so_far.cached m earlier (omega (arith, caches.len, within))
        | inr later ↦
            let same : m ≡ i = omega arith in
            ap (λ (k : ℕ). get_or new k 0) same ∙ caches.here (omega (arith, caches.len, within, same)) ∙ width'
            ∙ ap (width_after kind before values) (sym same)
      ];
      none = λ yes is.
          let (before_too, here) = goes yes in
          block_rises before i values le (so_far.none before_too is)
          (ap (λ (k : ℕ). first_below 0 k (block_of i values)) (sym (so_far.last_is is)) ∙ here is);
    }

rises_is : (kind : ColumnKind) (before : ℕ) (values : List ℕ) → (kind ≡ Sorted → first_below 0 before (take (128 * (length values / 128)) values) ≡ None) → Rises kind before values
rises_is Plain before values h = record { none = refl }
rises_is Sorted before values h = record { none = h refl }

pub measured_done : (kind : ColumnKind) (before : ℕ) (values : List ℕ) (i total most last : ℕ) (widths : List ℕ) (rises : Bool)
    → MeasuredTo kind before values i total most last widths rises → i ≡ length values / 128
    → IsMeasured kind before values total most last × AreWidths kind before values widths × (rises ≡ true → Rises kind before values)
measured_done kind before values i total most last widths rises all e = (
  record {
    total_is = all.total_is ∙ ap (sum_to (width_after kind before values)) e;
    most_is = all.most_is ∙ ap (greatest (mark_in kind values)) e;
    last_is = λ is. all.last_is is ∙ ap (base_of Sorted before (mark_in Sorted values)) e;
  },
  record { each = λ m lt within. all.cached m (omega arith) within },
  λ yes. rises_is kind before values (λ is. ap (λ (k : ℕ). first_below 0 before (take (128 * k) values)) (sym e) ∙ all.none yes is),
)
