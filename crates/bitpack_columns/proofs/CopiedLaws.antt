-- The blocks of an opened column that stay as they are when values follow.
use Rattle.std.proofs.Common.{◌≡◌, ℕ, zero, suc, ◌+◌, ◌-◌, ◌*◌, ◌^◌, ◌/◌, ◌<◌, ◌≤◌, cond, eqb, List, [], ◌++◌, length, get_or, take, drop, refl, sym, ap, ◌∙◌, arith, inl, inr, subst, length-append}
use Rattle.std.specs.Prelude.{max}
use Rattle.std.proofs.lemmas.Bool.{cases_eq, cond-false, ne_eqb}
use Rattle.std.proofs.lemmas.List.{take_all}
use Rattle.bitpack_groups.specs.Packed.{le_bytes}
use Rattle.bitpack_columns.specs.declared.column.Column.{Column}
use Rattle.bitpack_columns.specs.declared.column_kind.ColumnKind.{ColumnKind}
use Rattle.bitpack_columns.specs.declared.column_kind.ColumnKind.TheVariants.{Plain, Sorted}
use Rattle.bitpack_columns.specs.Columns.{IsColumn, base_of, mark_in, sum_to, width_in}
use Rattle.bitpack_columns.specs.Measured.{IsMeasured, bodies_encoding, ends_encoding, extended, marks_encoding, packed_after, width_after}
use Rattle.bitpack_columns.specs.Numbers.{greatest}
use Rattle.bitpack_columns.specs.Opened.{blocks_of, values}
use Rattle.bitpack_columns.specs.Reads.{begin_at, bodies_start, end_at, width_at}
use Rattle.bitpack_columns.proofs.BlocksEncodings.{AreRead, bodies_encoding as bodies_read, sum_read, width_read}
use Rattle.bitpack_columns.proofs.EntryLaws.{body_encoding, end_encoding, mark_encoding}
use Rattle.bitpack_columns.proofs.MeasureLaws.{total_few}
use Rattle.bitpack_columns.proofs.OpenedLaws.{are_blocks, block_is, body_few, blocks_is, first_is, opened, rising}
use Rattle.bitpack_columns.proofs.PartsLaws.{run, run_more}
use Rattle.bitpack_columns.proofs.ReadLaws.{tail_start-is}
use Rattle.bitpack_columns.proofs.SoundLaws.{AreTight}
use Rattle.bitpack_columns.proofs.EncodingLaws.{values_are_read}
use Rattle.bitpack_columns.proofs.SplitLaws.{IsSplit, all_blocks, all_long, block_back, block_front, first_same, measured_split}
use Rattle.bitpack_columns.proofs.SumLaws.{sum_none}

-- the first value
abbrev pub head_of : Column → ℕ
head_of column = get_or (values column) 0 0

module _ (column : Column) (some : 0 < blocks_of column) where
  front_read : AreRead column.kind column.first (values column) column.rest.bytes.now
  front_read =
      let is = opened column in
      let e = blocks_is column in
      record {
        are_bytes = is.are_bytes;
        are_blocks = are_blocks column 0 some;
        are_tight = subst (λ (n : ℕ). AreTight n column.rest.bytes.now) e (is.are_tight (omega arith));
        small = is.small;
        block = λ m lt. block_is column m lt;
        first_is = λ sorted. sym (first_is column sorted);
      }

  pub copied_sum : (m : ℕ) → m ≤ blocks_of column → sum_to (width_after column.kind (head_of column) (values column)) m ≡ begin_at column.rest.bytes.now m
  copied_sum m le = sum_read column.kind column.first (values column) column.rest.bytes.now front_read m le

  pub copied_width : (m : ℕ) → m < blocks_of column → width_in column.kind (values column) m ≡ width_at column.rest.bytes.now m
  copied_width m lt = width_read column.kind column.first (values column) column.rest.bytes.now front_read m lt

  pub copied_total : sum_to (width_after column.kind (head_of column) (values column)) (blocks_of column) ≡ begin_at column.rest.bytes.now (blocks_of column)
  copied_total = copied_sum (blocks_of column) (omega arith)

  pub copied_end : (size m : ℕ) → m < blocks_of column → le_bytes size (end_at column.rest.bytes.now m) ≡ end_encoding column.kind (head_of column) (values column) size 0 m
  copied_end size m lt =
      let e = copied_sum (suc m) (omega arith) in
      let f : end_at column.rest.bytes.now m ≡ 0 + sum_to (width_after column.kind (head_of column) (values column)) (suc m) = omega arith in
      ap (le_bytes size) f

  pub copied_bodies : (out : List ℕ) → length out ≡ 16 * sum_to (width_after column.kind (head_of column) (values column)) (blocks_of column)
      → take (length out) (drop (bodies_start (blocks_of column) column.rest.bytes.now) column.rest.bytes.now) ≡ bodies_encoding column.kind (head_of column) (values column)
  unfolding bodies_encoding
  copied_bodies out long =
      let e : length out ≡ 16 * begin_at column.rest.bytes.now (blocks_of column) = long ∙ ap (λ (n : ℕ). 16 * n) copied_total in
      ap (λ (n : ℕ). take n (drop (bodies_start (blocks_of column) column.rest.bytes.now) column.rest.bytes.now)) e
      ∙ sym (bodies_read column.kind column.first (values column) column.rest.bytes.now front_read)

  pub copied_room : bodies_start (blocks_of column) column.rest.bytes.now + 16 * sum_to (width_after column.kind (head_of column) (values column)) (blocks_of column) ≤ length column.rest.bytes.now
  copied_room =
      let e = copied_total in
      let f = tail_start-is column.kind column.first (blocks_of column) column.rest.bytes.now (are_blocks column 0 some) 0 some in
      let room = (are_blocks column 0 some).room in
      omega arith

  -- where the bodies end
  pub copied_few : bodies_start (blocks_of column) column.rest.bytes.now + 16 * sum_to (width_after column.kind (head_of column) (values column)) (blocks_of column) ≤ 2 ^ 32
  copied_few =
      let m : ℕ = blocks_of column - 1 in
      let lt : m < blocks_of column = omega arith in
      let few = body_few column m lt in
      let up = rising column m lt in
      let end = last_begin (blocks_of column) some in
      let total = copied_total in
      omega arith
    where
      last_begin : (k : ℕ) → 0 < k → begin_at column.rest.bytes.now k ≡ end_at column.rest.bytes.now (k - 1)
      last_begin zero h = absurd (omega arith)
      last_begin (suc k) h = (let e : k ≡ suc k - 1 = omega arith in ap (end_at column.rest.bytes.now) e)

-- the blocks of a column and packed values after them
pub copied_split : (column : Column) (packed : List ℕ)
    → IsSplit column.kind (get_or (extended column packed) 0 0) (values column) packed (extended column packed) (blocks_of column) (packed_after column packed)
copied_split column packed =
    let le : 128 * blocks_of column ≤ length (values column) = omega arith in
    record {
      front = λ m lt. block_front (values column) packed (blocks_of column) m le lt;
      back = λ i. block_back (values column) packed (blocks_of column) i le;
      blocks_are = all_blocks (values column) packed (blocks_of column) le;
      values_are = refl;
      last_is = λ is. before column.kind (blocks_of column) is;
    }
  where
    before : (kind : ColumnKind) (k : ℕ) → kind ≡ Sorted → cond (eqb k 0) (get_or packed 0 0) (mark_in kind (values column) (k - 1))
        ≡ base_of Sorted (get_or (take (128 * k) (values column) ++ packed) 0 0) (mark_in Sorted (values column)) k
    before Plain k is = absurd cc
    before Sorted zero is = refl
    before Sorted (suc k) is =
        let e : suc k - 1 ≡ k = omega arith in
        cond-false (eqb (suc k) 0) (get_or packed 0 0) (mark_in Sorted (values column) (suc k - 1)) (ne_eqb (suc k) 0 (λ e. omega (arith, e)))
        ∙ ap (mark_in Sorted (values column)) e

-- the first value of all is that of the column, if it has a block
pub first_copied : (column : Column) (packed : List ℕ) → 0 < blocks_of column → head_of column ≡ get_or (extended column packed) 0 0
first_copied column packed some = sym (first_same (values column) packed (blocks_of column) some (omega arith))

-- no block has no encoding
module _ (kind : ColumnKind) (first : ℕ) (values : List ℕ) (none : length values / 128 ≡ 0) where
  pub ends_none : (size : ℕ) → ends_encoding kind first values size 0 ≡ []
  unfolding ends_encoding
  ends_none size = ap (run (end_encoding kind first values size 0)) none

  pub marks_none : (size : ℕ) → marks_encoding kind first values size ≡ []
  unfolding marks_encoding
  marks_none size = ap (run (mark_encoding kind first values size)) none

  pub bodies_none : bodies_encoding kind first values ≡ []
  unfolding bodies_encoding
  bodies_none = ap (run (body_encoding kind first values)) none

pub extended_long : (column : Column) (filled later : List ℕ) → length (extended column (filled ++ later)) ≡ 128 * blocks_of column + (length filled + length later)
extended_long column filled later =
    all_long (values column) (filled ++ later) (blocks_of column) (omega arith) ∙ ap (λ (n : ℕ). 128 * blocks_of column + n) (length-append filled later)

-- what no block has does not count from the first value
module _ (kind : ColumnKind) (values : List ℕ) (k a b : ℕ) (long : length values / 128 ≡ k) (same : 0 < k → a ≡ b) where
  pub sum_first : sum_to (width_after kind a values) k ≡ sum_to (width_after kind b values) k
  sum_first = elim (cases_eq k 0) [
    | inl none ↦
        ap (sum_to (width_after kind a values)) none ∙ sum_none (width_after kind a values) ∙ sym (sum_none (width_after kind b values)) ∙ ap (sum_to (width_after kind b values)) (sym none)
    | inr some ↦ ap (λ (n : ℕ). sum_to (width_after kind n values) k) (same (omega (arith, some)))
  ]

  pub ends_first : (size : ℕ) → ends_encoding kind a values size 0 ≡ ends_encoding kind b values size 0
  unfolding ends_encoding
  ends_first size = elim (cases_eq k 0) [
    | inl none ↦ ap (run (end_encoding kind a values size 0)) (long ∙ none) ∙ ap (run (end_encoding kind b values size 0)) (sym (long ∙ none))
    | inr some ↦ ap (λ (n : ℕ). ends_encoding kind n values size 0) (same (omega (arith, some)))
  ]

  pub marks_first : (size : ℕ) → marks_encoding kind a values size ≡ marks_encoding kind b values size
  unfolding marks_encoding
  marks_first size = refl

  pub bodies_first : bodies_encoding kind a values ≡ bodies_encoding kind b values
  unfolding bodies_encoding
  bodies_first = elim (cases_eq k 0) [
    | inl none ↦ ap (run (body_encoding kind a values)) (long ∙ none) ∙ ap (run (body_encoding kind b values)) (sym (long ∙ none))
    | inr some ↦ ap (λ (n : ℕ). bodies_encoding kind n values) (same (omega (arith, some)))
  ]

-- what is measured of the blocks of a column and of packed values after them
pub copied_measured : (column : Column) (packed : List ℕ) (total most before more_total more_most last : ℕ)
    → total ≡ sum_to (width_after column.kind (head_of column) (values column)) (blocks_of column) → most ≡ greatest (mark_in column.kind (values column)) (blocks_of column)
    → before ≡ packed_after column packed → IsMeasured column.kind before packed more_total more_most last
    → IsMeasured column.kind (get_or (extended column packed) 0 0) (extended column packed) (total + more_total) (max most more_most) last
copied_measured column packed total most before more_total more_most last a b at more =
    let all : List ℕ = extended column packed in
    measured_split column.kind (get_or all 0 0) (values column) packed all (blocks_of column) (packed_after column packed) (copied_split column packed) total most more_total more_most last
    (a ∙ sum_first column.kind (values column) (blocks_of column) (head_of column) (get_or all 0 0) refl (first_copied column packed)) b
    (subst (λ (n : ℕ). IsMeasured column.kind n packed more_total more_most last) at more)

pub measured_few : (kind : ColumnKind) (values : List ℕ) (first total most last : ℕ) → IsColumn kind values → IsMeasured kind first values total most last → total ≤ 2 ^ 26
measured_few kind values first total most last column measured =
    let few = total_few kind first values (length values / 128) column.words in
    omega (arith, few, column.few, measured.total_is)

-- ---- what is copied so far

pub record CopiedTo (f : ℕ → List ℕ) (size count i : ℕ) (out : List ℕ) : Type 0 where
  pub long : length out ≡ size * count
  pub are : take (size * i) out ≡ run f i

pub copied_start : (f : ℕ → List ℕ) (size count : ℕ) (out : List ℕ) → length out ≡ size * count → CopiedTo f size count 0 out
copied_start f size count out e = record { long = e; are = (let z : size * 0 ≡ 0 = omega arith in ap (λ (n : ℕ). take n out) z) }

pub copied_more : (f : ℕ → List ℕ) (size count i : ℕ) (out new part : List ℕ) → CopiedTo f size count i out → length new ≡ length out
    → take (size * (i + 1)) new ≡ take (size * i) out ++ part → part ≡ f i → CopiedTo f size count (i + 1) new
copied_more f size count i out new part so_far long is part_is =
    let n : suc i ≡ i + 1 = omega arith in
    record {
      long = long ∙ so_far.long;
      are = is ∙ ap (λ (l : List ℕ). l ++ part) so_far.are ∙ ap (λ (l : List ℕ). run f i ++ l) part_is ∙ sym (run_more f i) ∙ ap (run f) n;
    }

pub copied_done : (f : ℕ → List ℕ) (size count i : ℕ) (out : List ℕ) → CopiedTo f size count i out → i ≡ count → out ≡ run f count
copied_done f size count i out all e =
    sym (take_all (size * i) out (omega (arith, all.long, ap (λ (n : ℕ). size * n) e))) ∙ all.are ∙ ap (run f) e

-- an opened column is one
pub opened_column : (column : Column) → IsColumn column.kind (values column)
opened_column column =
    let states = column.states in
    subst (λ (kind : ColumnKind). IsColumn kind (values column)) (sym states.kind_is) (values_are_read column.bytes.bytes.now column.are_bytes states.none).0
