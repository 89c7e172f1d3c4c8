-- The tail of an opened column, and what is unpacked of it.
use Rattle.std.proofs.Common.{◌≡◌, ℕ, ◌+◌, ◌-◌, ◌*◌, ◌/◌, ◌%◌, ◌<◌, ◌≤◌, eqb, List, ◌++◌, length, take, drop, get_or, replicate, None, true, refl, sym, subst, ◌∙◌, ap, arith, inl, inr}
use Rattle.std.proofs.lemmas.Bool.{cases_eq, cond-true, eq-eqb, lt-ltb}
use Rattle.std.proofs.lemmas.List.{length-drop, take_all, take_rest}
use Rattle.bitpack_columns.specs.declared.column.Column.{Column}
use Rattle.bitpack_columns.specs.declared.column_kind.ColumnKind.TheVariants.{Plain, Sorted}
use Rattle.bitpack_columns.specs.Columns.{block_of, left_out, tail_base, tail_of}
use Rattle.bitpack_columns.specs.Faults.{has_least}
use Rattle.bitpack_columns.specs.Numbers.{groups_codes, groups_fault, groups_of, number_fault, number_value}
use Rattle.bitpack_columns.specs.Opened.{blocks_of, values}
use Rattle.bitpack_columns.specs.Reads.{begin_at, bodies_start, coded, groups_at, least_size, mark_at, tail_at, tail_start, tail_values, values_of}
use Rattle.bitpack_columns.specs.Sound.{HasEntries}
use Rattle.bitpack_columns.proofs.OpenedLaws.{are_blocks, before_block, blocks_is, count_is, entries, opened, positive}

-- the block after all blocks is the tail
pub last_block : (values : List ℕ) (m : ℕ) → length values / 128 ≤ m → block_of m values ≡ tail_of m values
last_block values m le = take_all 128 (drop (128 * m) values) (omega (arith, length-drop (128 * m) values))

module _ (column : Column) where
  pub tail_entries : 0 < blocks_of column → HasEntries (blocks_of column) column.rest.bytes.now
  tail_entries some = entries column 0 some

  pub left_is : column.count % 128 ≡ length (values column) % 128
  left_is = ap (λ n. n % 128) (sym (count_is column))

  pub tail_room : tail_start (blocks_of column) column.rest.bytes.now ≤ length column.rest.bytes.now
  tail_room = elim (cases_eq (blocks_of column) 0) [
    | inl none ↦ rw (cond-true {A = ℕ} (eqb (blocks_of column) 0) 0 (bodies_start (blocks_of column) column.rest.bytes.now + 16 * begin_at column.rest.bytes.now (blocks_of column)) (eq-eqb (blocks_of column) 0 none)) (omega arith)
    | inr some ↦ (are_blocks column 0 (positive (blocks_of column) (blocks_of column) refl some)).room
  ]

  -- of a tail with values
  pub tail_number : 0 < length (values column) % 128 → column.kind ≡ Plain → (tail : List ℕ) → tail ≡ tail_at (blocks_of column) column.rest.bytes.now → number_fault tail ≡ None
  tail_number some plain tail e =
      let same = blocks_is column in
      let left = left_is in
      let has : has_least column.kind (column.count % 128) ≡ true =
      ap (λ kind. has_least kind (column.count % 128)) plain ∙ lt-ltb 0 (column.count % 128) (omega arith) in
      ap number_fault e ∙ ap (λ n. number_fault (tail_at n column.rest.bytes.now)) (sym same) ∙ (opened column).tail.number has

  pub tail_groups : (count : ℕ) → count ≡ length (values column) % 128
      → groups_fault (groups_of (coded column.kind (blocks_of column) count)) (blocks_of column) (coded column.kind (blocks_of column) count)
      (groups_at column.kind count (tail_at (blocks_of column) column.rest.bytes.now)) ≡ None
  tail_groups count e =
      let left : column.count % 128 ≡ count = left_is ∙ sym e in
      subst (λ n. groups_fault (groups_of (coded column.kind n count)) n (coded column.kind n count) (groups_at column.kind count (tail_at n column.rest.bytes.now)) ≡ None)
      (blocks_is column)
      (subst (λ k. groups_fault (groups_of (coded column.kind (column.count / 128) k)) (column.count / 128) (coded column.kind (column.count / 128) k)
      (groups_at column.kind k (tail_at (column.count / 128) column.rest.bytes.now)) ≡ None) left (opened column).tail.groups)

  pub tail_unpacked : (count : ℕ) → count ≡ length (values column) % 128
      → tail_values column.kind column.first (blocks_of column) count column.rest.bytes.now ≡ tail_of (blocks_of column) (values column)
  tail_unpacked count e =
      let left : column.count % 128 ≡ count = left_is ∙ sym e in
      ap (λ k. tail_values column.kind column.first (blocks_of column) k column.rest.bytes.now) (sym left)
      ∙ ap (λ n. tail_values column.kind column.first n (column.count % 128) column.rest.bytes.now) (sym (blocks_is column))
      ∙ sym (opened column).after ∙ ap (λ n. tail_of n (values column)) (blocks_is column)

  -- before the tail of a sorted column
  pub tail_base_sorted : (base least : ℕ) → column.kind ≡ Sorted → (blocks_of column ≡ 0 → base ≡ get_or (values column) 0 0)
      → (0 < blocks_of column → base ≡ get_or (values column) (128 * blocks_of column - 1) 0)
      → base ≡ tail_base column.kind column.first (mark_at (blocks_of column) column.rest.bytes.now) (blocks_of column) least
  tail_base_sorted base least sorted zeroth later =
      before_block column (blocks_of column) base (omega arith) sorted zeroth later
      ∙ sym (ap (λ kind. tail_base kind column.first (mark_at (blocks_of column) column.rest.bytes.now) (blocks_of column) least) sorted)

  -- what is lent of the bytes
  pub lent_tail : (start : ℕ) → start ≡ tail_start (blocks_of column) column.rest.bytes.now
      → take (length column.rest.bytes.now - start) (drop start column.rest.bytes.now) ≡ tail_at (blocks_of column) column.rest.bytes.now
  lent_tail start e = take_rest column.rest.bytes.now start ∙ ap (λ n. drop n column.rest.bytes.now) e

  module _ (count end : ℕ) (tail : List ℕ) (few : count ≡ length (values column) % 128) (at : end ≡ least_size column.kind (length (values column) % 128) tail)
      (there : tail ≡ tail_at (blocks_of column) column.rest.bytes.now) where
    pub lent_groups : take (length tail - end) (drop end tail) ≡ groups_at column.kind count (tail_at (blocks_of column) column.rest.bytes.now)
    lent_groups =
        take_rest tail end ∙ ap (λ n. drop n tail) (at ∙ ap (λ k. least_size column.kind k tail) (sym few))
        ∙ ap (λ xs. drop (least_size column.kind count xs) xs) there

    pub tail_written : (base : ℕ) (new : List ℕ)
        → base ≡ tail_base column.kind column.first (mark_at (blocks_of column) column.rest.bytes.now) (blocks_of column) (number_value tail)
        → new ≡ values_of column.kind base (replicate (left_out column.kind (blocks_of column) count) 0
        ++ groups_codes (groups_of (coded column.kind (blocks_of column) count)) (coded column.kind (blocks_of column) count)
        (take (length tail - end) (drop end tail)))
        → new ≡ tail_of (blocks_of column) (values column)
    tail_written base new is e =
        let kind = column.kind in
        let b : ℕ = blocks_of column in
        let rest : List ℕ = column.rest.bytes.now in
        let codes : List ℕ → List ℕ =
        λ xs. replicate (left_out kind b count) 0 ++ groups_codes (groups_of (coded kind b count)) (coded kind b count) xs in
        let first : base ≡ tail_base kind column.first (mark_at b rest) b (number_value (tail_at b rest)) =
        is ∙ ap (λ xs. tail_base kind column.first (mark_at b rest) b (number_value xs)) there in
        e ∙ ap (λ n. values_of kind n (codes (take (length tail - end) (drop end tail)))) first
        ∙ ap (λ xs. values_of kind (tail_base kind column.first (mark_at b rest) b (number_value (tail_at b rest))) (codes xs)) lent_groups
        ∙ tail_unpacked count few
