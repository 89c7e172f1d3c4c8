-- A chunk that was opened, and what its bytes say.
use Rattle.std.proofs.Common.{◌≡◌, ℕ, ◌+◌, ◌*◌, ◌^◌, Bool, true, false, ◌&&◌, cond, List, [], Option, Some, None, length, refl, sym, ap, ◌∙◌, add-one}
use Rattle.std.specs.Prelude.{slice_index}
use Rattle.std.specs.Option.{option_or}
use Rattle.bitpack_columns.specs.Opened.{encoding_of, values}
use Rattle.bitpack_columns.specs.Stated as column_reads
use Rattle.bitpack_columns.specs.declared.column.Column.{Column}
use Rattle.bitpack_columns.specs.declared.column_kind.ColumnKind.{ColumnKind}
use Rattle.bitpack_wide.specs.declared.wide_column.chunk.Chunk.{Chunk}
use Rattle.bitpack_wide.specs.declared.wide_column_error.WideColumnError.{WideColumnError}
use Rattle.bitpack_wide.specs.declared.wide_column_error.WideColumnError.TheVariants.{LooseBody}
use Rattle.bitpack_wide.specs.WideColumnFaults.{chunk_fault, each_below, has_bounds, has_high_kind, has_kind, has_low_kind, high_fault, is_filled, is_front, last_before, loose_fault, low_fault, rise}
use Rattle.bitpack_wide.specs.WideColumnReads.{greatest_at, highs_at, is_high, is_missing, least_at, len_at, lows_at, part_at}
use Rattle.bitpack_wide.specs.WideColumnSound.{values_of}
use Rattle.bitpack_wide.specs.inner.WideColumnSteps.{IsChunk, column_has_kind, difference_of, high_has_kind, is_right}
use Rattle.bitpack_wide.specs.WideColumns.{chunks_of}
use Rattle.bitpack_wide.proofs.WideRight.{or_assoc}

-- the differences of two columns
abbrev pub pairs : List ℕ → List ℕ → ℕ → ℕ
pairs lows highs k = slice_index lows k + 2 ^ 32 * slice_index highs k

abbrev pub passes : Bool → Bool → ℕ → ℕ → ℕ → (ℕ → Bool) → List ℕ → List ℕ → Bool
passes low high least greatest len missing lows highs =
    low && (high && (has_bounds least greatest missing (pairs lows highs) len && each_below (is_filled missing (pairs lows highs)) len))

module _ (count : ℕ) (rest : List ℕ) (m : ℕ) (chunk : Chunk) (is : IsChunk count rest m chunk) where
  low_part : List ℕ
  low_part = part_at (chunks_of count) rest (2 * m + 1)

  high_part : List ℕ
  high_part = part_at (chunks_of count) rest (2 * m + 2)

  pub lows_are : values chunk.low ≡ lows_at (chunks_of count) rest m
  unfolding lows_at
  lows_are = ap column_reads.values_in is.low_is

  highs_by : (b : Bool) → is_high rest m ≡ b → values_of chunk.high ≡ highs_at (chunks_of count) rest m
  unfolding highs_at high_part
  highs_by true e =
      let high = is.high_is e in
      ap values_of high.1 ∙ ap column_reads.values_in high.2 ∙ sym (ap (λ (b : Bool). cond b (column_reads.values_in high_part) []) e)
  highs_by false e = ap values_of (is.none_is e) ∙ sym (ap (λ (b : Bool). cond b (column_reads.values_in high_part) []) e)

  pub highs_are : values_of chunk.high ≡ highs_at (chunks_of count) rest m
  highs_are = highs_by (is_high rest m) refl

  kind_are : (column : Column) (part : List ℕ) → encoding_of column ≡ part → length (values column) ≡ chunk.len
      → column_has_kind column ≡ has_kind (column_reads.kind_in part) (slice_index (column_reads.values_in part)) (len_at count m)
  kind_are column part e long =
      ap (λ (k : ColumnKind). has_kind k (slice_index (values column)) (length (values column))) (column.states.kind_is ∙ ap column_reads.kind_in e)
      ∙ ap (λ (l : List ℕ). has_kind (column_reads.kind_in part) (slice_index l) (length (values column))) (ap column_reads.values_in e)
      ∙ ap (has_kind (column_reads.kind_in part) (slice_index (column_reads.values_in part))) (long ∙ is.len_is)

  low_kind_are : column_has_kind chunk.low ≡ has_low_kind count rest m
  unfolding lows_at
  low_kind_are = kind_are chunk.low (part_at (chunks_of count) rest (2 * m + 1)) is.low_is chunk.low_len

  high_kind_by : (b : Bool) → is_high rest m ≡ b → high_has_kind chunk.high ≡ has_high_kind count rest m
  unfolding highs_at
  high_kind_by true e =
      let high = is.high_is e in
      let part : List ℕ = part_at (chunks_of count) rest (2 * m + 2) in
      ap high_has_kind high.1 ∙ kind_are high.0 part high.2 (chunk.high_len high.0 high.1)
      ∙ sym (ap (λ (b : Bool). cond b (has_kind (column_reads.kind_in part) (slice_index (cond b (column_reads.values_in part) [])) (len_at count m)) true) e)
  high_kind_by false e =
      let part : List ℕ = part_at (chunks_of count) rest (2 * m + 2) in
      ap high_has_kind (is.none_is e)
      ∙ sym (ap (λ (b : Bool). cond b (has_kind (column_reads.kind_in part) (slice_index (cond b (column_reads.values_in part) [])) (len_at count m)) true) e)

  -- the tests of the chunk are those of its bytes
  pub right_is : is_right chunk (is_missing count rest m)
      ≡ passes (has_low_kind count rest m) (has_high_kind count rest m) (least_at rest m) (greatest_at rest m) (len_at count m) (is_missing count rest m)
      (lows_at (chunks_of count) rest m) (highs_at (chunks_of count) rest m)
  unfolding is_right
  right_is =
      let missing = is_missing count rest m in
      let lows : List ℕ = lows_at (chunks_of count) rest m in
      let highs : List ℕ = highs_at (chunks_of count) rest m in
      let high : Bool = high_has_kind chunk.high in
      let low : Bool = has_low_kind count rest m in
      let all : Bool = has_high_kind count rest m in
      ap (λ (b : Bool). passes b high chunk.least chunk.greatest chunk.len missing (values chunk.low) (values_of chunk.high)) low_kind_are
      ∙ ap (λ (b : Bool). passes low b chunk.least chunk.greatest chunk.len missing (values chunk.low) (values_of chunk.high)) (high_kind_by (is_high rest m) refl)
      ∙ ap (λ (n : ℕ). passes low all n chunk.greatest chunk.len missing (values chunk.low) (values_of chunk.high)) is.least_is
      ∙ ap (λ (n : ℕ). passes low all (least_at rest m) n chunk.len missing (values chunk.low) (values_of chunk.high)) is.greatest_is
      ∙ ap (λ (n : ℕ). passes low all (least_at rest m) (greatest_at rest m) n missing (values chunk.low) (values_of chunk.high)) is.len_is
      ∙ ap (λ (l : List ℕ). passes low all (least_at rest m) (greatest_at rest m) (len_at count m) missing l (values_of chunk.high)) lows_are
      ∙ ap (passes low all (least_at rest m) (greatest_at rest m) (len_at count m) missing lows) highs_are

  pub loose_is : loose_fault count rest m ≡ cond (is_right chunk (is_missing count rest m)) None (Some (LooseBody m))
  unfolding loose_fault
  loose_is = ap (λ (b : Bool). cond b None (Some (LooseBody m))) (sym right_is)

  -- the order of the differences
  pub rise_is : rise (difference_of chunk) chunk.len ≡ rise (pairs (lows_at (chunks_of count) rest m) (highs_at (chunks_of count) rest m)) (len_at count m)
  rise_is =
      ap (rise (difference_of chunk)) is.len_is ∙ ap (λ (l : List ℕ). rise (pairs l (values_of chunk.high)) (len_at count m)) lows_are
      ∙ ap (λ (l : List ℕ). rise (pairs (lows_at (chunks_of count) rest m) l) (len_at count m)) highs_are

-- ---- the fault of a chunk

pub chunk_by : (count : ℕ) (rest : List ℕ) (m : ℕ) (b : Option WideColumnError) → option_or (low_fault count rest m) (high_fault count rest m) ≡ b
    → chunk_fault count rest m ≡ option_or b (loose_fault count rest m)
unfolding chunk_fault
chunk_by count rest m b e = or_assoc (low_fault count rest m) (high_fault count rest m) (loose_fault count rest m) ∙ ap (λ (o : Option WideColumnError). option_or o (loose_fault count rest m)) e

-- ---- order

pub last_start : (count : ℕ) (rest : List ℕ) → last_before count rest 0 ≡ 0
unfolding last_before
last_start count rest = refl

pub last_next : (count : ℕ) (rest : List ℕ) (m : ℕ)
    → last_before count rest (m + 1) ≡ cond (is_front (is_missing count rest m) (len_at count m)) (last_before count rest m) (greatest_at rest m)
unfolding last_before
last_next count rest m = ap (last_before count rest) (add-one m)
