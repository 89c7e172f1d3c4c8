-- The bounds and the parts of a chunk without a fault are those of its values.
use Rattle.std.proofs.Common.{◌≡◌, ℕ, ◌+◌, ◌-◌, ◌*◌, ◌/◌, ◌%◌, ◌^◌, ◌<◌, ◌≤◌, Bool, true, false, ◌||◌, cond, not, eqb, eqb-true, ltb, leb, List, [], map, take, drop, length, get_or, Some, None, refl, sym, ap, ◌∙◌, arith, length-drop}
use Rattle.std.specs.List.{range_with_len}
use Rattle.std.specs.List.Sorted.{IsNonDecreasing}
use Rattle.std.proofs.Math.Nat.{pow-le-pow_right}
use Rattle.std.proofs.lemmas.Bool.{le-leb, ltb-false, true≢false}
use Rattle.std.proofs.lemmas.List.Elements.{All-get_or}
use Rattle.std.proofs.lemmas.List.FromFn.{fill_by_all}
use Rattle.bitpack_groups.proofs.ForCallers.{within_all}
use Rattle.bitpack_groups.specs.Numbers.{short_at}
use Rattle.bitpack_slices.proofs.ForCallers.{EachByte, both_true, byte_of, bytes_dropped, bytes_taken, number_bits}
use Rattle.bitpack_slices.specs.Slices.{number_of}
use Rattle.bitpack_sets.proofs.ForCallers.{map_map, map_same, short_is}
use Rattle.bitpack_sets.specs.Directory.{before}
use Rattle.bitpack_columns.proofs.ForCallers.{values_are_read}
use Rattle.bitpack_columns.specs.Columns as columns
use Rattle.bitpack_columns.specs.Faults as column_faults
use Rattle.bitpack_columns.specs.Stated as column_reads
use Rattle.bitpack_columns.specs.declared.column_kind.ColumnKind.{ColumnKind}
use Rattle.bitpack_columns.specs.declared.column_kind.ColumnKind.TheVariants.{Plain, Sorted}
use Rattle.bitpack_wide.specs.WideColumnFaults.{has_kind, is_column, is_filled, is_front, rise}
use Rattle.bitpack_wide.specs.WideColumnReads.{bound_at, bound_size, difference_at, end_at, greatest_at, highs_at, is_high, is_missing, least_at, len_at, lows_at, part_at, parts_start, value_at, values_at}
use Rattle.bitpack_wide.specs.WideColumnSound.{HasEntries}
use Rattle.bitpack_wide.specs.WideColumns.{chunk_of, chunks_of, column, differences, greatest, has_high, high, kind_for, least, low, numbers, numbers_in, rise_from}
use Rattle.bitpack_wide.proofs.WideAbsent.{empty}
use Rattle.bitpack_wide.proofs.WideMissing.{each_find}
use Rattle.bitpack_wide.proofs.WideNumbers.{range_drop, range_moved, range_take, value}
use Rattle.bitpack_wide.proofs.WideOrder.{in_order}
use Rattle.bitpack_wide.proofs.WideSeen.{not_true}
use Rattle.bitpack_wide.proofs.WideStated.{IsSound, none_is}
use Rattle.bitpack_wide.proofs.WideSteps.{each_true, true_each}
use Rattle.bitpack_wide.proofs.WideValues.{IsRight, differences_are, greatest_is, least_is, numbers_are}

-- ---- a column

listed : (xs : List ℕ) (len : ℕ) → length xs ≡ len → xs ≡ map (λ k. get_or xs k 0) (range_with_len 0 len)
listed xs len e = fill_by_all (λ k. get_or xs k 0) xs len 0 e (λ k lt. refl)

order_of : (xs : List ℕ) → rise_from 0 xs ≡ rise (λ k. get_or xs k 0) (length xs)
order_of xs = ap (rise_from 0) (listed xs (length xs) refl) ∙ in_order (λ k. get_or xs k 0) (length xs)

-- a column that has its kind has that of its numbers
kind_back : (kind : ColumnKind) (xs : List ℕ) → (kind ≡ Sorted → IsNonDecreasing xs) → has_kind kind (λ k. get_or xs k 0) (length xs) ≡ true → kind_for xs ≡ kind
kind_back Sorted xs ordered e =
    let rises = true_each (λ k. leb (get_or xs (k - 1) 0) (get_or xs k 0)) (length xs)
    (λ k lt. le-leb (get_or xs (k - 1) 0) (get_or xs k 0) (ordered refl (k - 1) k 0 (omega arith) lt)) in
    ap (λ (b : Bool). cond b Sorted Plain) (order_of xs ∙ rises)
kind_back Plain xs ordered e = ap (λ (b : Bool). cond b Sorted Plain) (order_of xs ∙ not_true _ e)

column_back : (len : ℕ) (part : List ℕ) → EachByte part → is_column len part ≡ true → has_kind (column_reads.kind_in part) (λ k. get_or (column_reads.values_in part) k 0) len ≡ true
    → column (column_reads.values_in part) ≡ part
unfolding column
column_back len part each is kind =
    let xs : List ℕ = column_reads.values_in part in
    let both = both_true _ _ is in
    let long : length xs ≡ len = eqb-true (length xs) len both.1 in
    let read = values_are_read part (byte_of part each) (none_is (column_faults.fault part) both.0) in
    ap (λ (k : ColumnKind). columns.encoding k xs)
    (kind_back (column_reads.kind_in part) xs read.0.ordered (ap (has_kind (column_reads.kind_in part) (λ k. get_or xs k 0)) long ∙ kind))
    ∙ read.1

word_of : (len k : ℕ) (part : List ℕ) → EachByte part → is_column len part ≡ true → k < len → get_or (column_reads.values_in part) k 0 < 2 ^ 32
word_of len k part each is lt =
    let xs : List ℕ = column_reads.values_in part in
    let both = both_true _ _ is in
    let long : length xs ≡ len = eqb-true (length xs) len both.1 in
    All-get_or (λ x. x < 2 ^ 32) xs k 0 (omega (arith, lt, long)) (values_are_read part (byte_of part each) (none_is (column_faults.fault part) both.0)).0.words

-- ---- bounds

-- a bound is a number of at most eight bytes
pub bound_small : (chunks : ℕ) (rest : List ℕ) (j : ℕ) → EachByte rest → HasEntries chunks rest → j < 2 * chunks → bound_at rest j < 2 ^ 64
bound_small chunks rest j each entries lt =
    let size : ℕ = bound_size rest in
    let later : List ℕ = drop 1 rest in
    let e : short_at size later j ≡ number_of (take size (drop (size * j) later)) =
    short_is size j later (omega (arith, length-drop 1 rest, within_all size j (2 * chunks) lt, entries.room)) in
    let below = number_bits size (drop (size * j) later) (bytes_dropped (size * j) later (bytes_dropped 1 rest each)) in
    let few : 8 * size ≤ 64 = omega (arith, entries.bound_few) in
    let some : 0 < 2 = omega arith in
    let most : 2 ^ (8 * size) ≤ 2 ^ 64 = pow-le-pow_right some few in
    omega (arith, e, below, most)

-- ---- a chunk

part_bytes : (chunks : ℕ) (rest : List ℕ) (j : ℕ) → EachByte rest → EachByte (part_at chunks rest j)
part_bytes chunks rest j each =
    let from : ℕ = parts_start chunks rest + before (end_at chunks rest) j in
    bytes_taken (end_at chunks rest j - before (end_at chunks rest) j) (drop from rest) (bytes_dropped from rest each)

or_no : (a b : Bool) → (not a || b) ≡ true → a ≡ true → b ≡ true
or_no true b e f = e
or_no false b e f = absurd (true≢false (sym f))

module _ (count : ℕ) (rest : List ℕ) (m : ℕ) (each : EachByte rest) (lt : m < chunks_of count) (entries : HasEntries (chunks_of count) rest) (sound : IsSound count rest m) where
  abbrev chunks : ℕ
  chunks = chunks_of count

  abbrev len : ℕ
  len = len_at count m

  abbrev missing : ℕ → Bool
  missing = is_missing count rest m

  abbrev difference : ℕ → ℕ
  difference = difference_at chunks rest m

  abbrev number : ℕ → ℕ
  number k = least_at rest m + difference k

  some : 0 < len
  some = omega (arith, lt)

  pub right : IsRight (least_at rest m) (greatest_at rest m) missing difference len
  right = record {
    some = some;
    zero_at =
        let one = each_find (λ i. ltb 0 (difference i)) len (not_true _ sound.zero) in
        (one.0, one.1, omega (arith, ltb-false 0 (difference one.0) one.2));
    most = sound.exact;
    small = bound_small chunks rest (2 * m) each entries (omega (arith, lt));
    empty = λ all. eqb-true (least_at rest m) 0 (or_no (is_front missing len) (eqb (least_at rest m) 0) sound.empty all);
    filled = λ k below. each_true (is_filled missing difference) len sound.filled k below;
  }

  -- the values of the chunk
  at_position : (k : ℕ) → k < len → value_at count rest (65536 * m + k) ≡ value missing number (0 + k)
  at_position k below =
      let whole : (65536 * m + k) / 65536 ≡ m = omega (arith, below) in
      let left : (65536 * m + k) % 65536 ≡ 0 + k = omega (arith, below) in
      ap (λ (n : ℕ). cond (is_missing count rest n ((65536 * m + k) % 65536)) None (Some (least_at rest n + difference_at chunks rest n ((65536 * m + k) % 65536)))) whole
      ∙ ap (λ (j : ℕ). cond (missing j) None (Some (number j))) left

  pub own_is : map (value_at count rest) (range_with_len (65536 * m) len) ≡ map (value missing number) (range_with_len 0 len)
  own_is = range_moved (value_at count rest) (value missing number) (65536 * m) 0 len at_position

  pub chunk_is : chunk_of m (values_at count rest) ≡ map (value missing number) (range_with_len 0 len)
  unfolding chunk_of values_at
  chunk_is =
      let from : 0 + 65536 * m ≡ 65536 * m = omega arith in
      ap (take 65536) (range_drop (value_at count rest) (65536 * m) 0 count ∙ ap (λ (i : ℕ). map (value_at count rest) (range_with_len i (count - 65536 * m))) from)
      ∙ range_take (value_at count rest) 65536 (65536 * m) (count - 65536 * m) ∙ own_is

  pub numbers_is : numbers_in (values_at count rest) m ≡ map number (range_with_len 0 len)
  numbers_is = ap numbers chunk_is ∙ numbers_are (least_at rest m) (greatest_at rest m) missing difference len right

  pub least_back : least (numbers_in (values_at count rest) m) ≡ least_at rest m
  least_back = ap least numbers_is ∙ least_is (least_at rest m) (greatest_at rest m) missing difference len right

  pub greatest_back : greatest (numbers_in (values_at count rest) m) ≡ greatest_at rest m
  greatest_back = ap greatest numbers_is ∙ greatest_is (least_at rest m) (greatest_at rest m) missing difference len right

  differences_back : differences (numbers_in (values_at count rest) m) ≡ map difference (range_with_len 0 len)
  differences_back = ap differences numbers_is ∙ differences_are (least_at rest m) (greatest_at rest m) missing difference len right

  -- ---- its parts

  abbrev low_part : List ℕ
  low_part = part_at chunks rest (2 * m + 1)

  abbrev high_part : List ℕ
  high_part = part_at chunks rest (2 * m + 2)

  low_word : (k : ℕ) → k < len → get_or (lows_at chunks rest m) k 0 < 2 ^ 32
  unfolding lows_at
  low_word k below = word_of len k low_part (part_bytes chunks rest (2 * m + 1) each) sound.low_column below

  lows_back : map (λ d. d % 2 ^ 32) (map difference (range_with_len 0 len)) ≡ lows_at chunks rest m
  unfolding lows_at
  lows_back =
      let xs : List ℕ = column_reads.values_in low_part in
      let long : length xs ≡ len = eqb-true (length xs) len (both_true _ _ sound.low_column).1 in
      map_map (λ d. d % 2 ^ 32) difference 0 len
      ∙ map_same (λ k. difference k % 2 ^ 32) (λ k. get_or xs k 0) 0 len (λ k from below. omega (arith, low_word k (omega (arith, below))))
      ∙ sym (listed xs len long)

  pub low_back : low (numbers_in (values_at count rest) m) ≡ low_part
  unfolding lows_at
  low_back =
      ap (λ (l : List ℕ). column (map (λ d. d % 2 ^ 32) l)) differences_back ∙ ap column lows_back
      ∙ column_back len low_part (part_bytes chunks rest (2 * m + 1) each) sound.low_column sound.low_kind

  high_needed : has_high (greatest (numbers_in (values_at count rest) m) - least (numbers_in (values_at count rest) m)) ≡ is_high rest m
  high_needed =
      ap (λ (n : ℕ). has_high (n - least (numbers_in (values_at count rest) m))) greatest_back ∙ ap (λ (n : ℕ). has_high (greatest_at rest m - n)) least_back

  highs_are : is_high rest m ≡ true → highs_at chunks rest m ≡ column_reads.values_in high_part
  unfolding highs_at
  highs_are e = ap (λ (b : Bool). cond b (column_reads.values_in high_part) []) e

  highs_back : is_high rest m ≡ true → is_column len high_part ≡ true → map (λ d. d / 2 ^ 32) (map difference (range_with_len 0 len)) ≡ column_reads.values_in high_part
  highs_back e is =
      let xs : List ℕ = column_reads.values_in high_part in
      let long : length xs ≡ len = eqb-true (length xs) len (both_true _ _ is).1 in
      map_map (λ d. d / 2 ^ 32) difference 0 len
      ∙ map_same (λ k. difference k / 2 ^ 32) (λ k. get_or xs k 0) 0 len (λ k from below.
      omega (arith, low_word k (omega (arith, below)), ap (λ (l : List ℕ). get_or l k 0) (highs_are e)))
      ∙ sym (listed xs len long)

  high_by : (b : Bool) → is_high rest m ≡ b → cond b (column (map (λ d. d / 2 ^ 32) (differences (numbers_in (values_at count rest) m)))) [] ≡ high_part
  high_by true e =
      let is : is_column len high_part ≡ true = sym (ap (λ (b : Bool). cond b (is_column len high_part) (eqb (length high_part) 0)) e) ∙ sound.high_column in
      let kind : has_kind (column_reads.kind_in high_part) (λ k. get_or (column_reads.values_in high_part) k 0) len ≡ true =
      sym (ap (λ (l : List ℕ). has_kind (column_reads.kind_in high_part) (λ k. get_or l k 0) len) (highs_are e))
      ∙ sym (ap (λ (b : Bool). cond b (has_kind (column_reads.kind_in high_part) (λ k. get_or (highs_at chunks rest m) k 0) len) true) e) ∙ sound.high_kind in
      ap (λ (l : List ℕ). column (map (λ d. d / 2 ^ 32) l)) differences_back ∙ ap column (highs_back e is)
      ∙ column_back len high_part (part_bytes chunks rest (2 * m + 2) each) is kind
  high_by false e =
      empty high_part (eqb-true (length high_part) 0 (sym (ap (λ (b : Bool). cond b (is_column len high_part) (eqb (length high_part) 0)) e) ∙ sound.high_column))

  pub high_back : high (numbers_in (values_at count rest) m) ≡ high_part
  high_back =
      ap (λ (b : Bool). cond b (column (map (λ d. d / 2 ^ 32) (differences (numbers_in (values_at count rest) m)))) []) high_needed ∙ high_by (is_high rest m) refl
