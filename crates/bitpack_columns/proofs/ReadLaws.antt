-- What is read from bytes without a fault: as many values as they state, and each block and the tail as parts of the values.
use Rattle.std.proofs.Common.{◌≡◌, ℕ, zero, suc, min, ◌+◌, ◌*◌, ◌/◌, ◌%◌, ◌^◌, ◌<◌, ◌≤◌, eqb, List, [], ◌∷◌, ◌++◌, map, length, take, drop, replicate, None, refl, sym, ◌∙◌, ap, arith, inl, inr}
use Rattle.std.specs.List.{flat_map, range_with_len}
use Rattle.std.proofs.lemmas.Bool.{cases_Bool, cases_lt, cond-false, cond-true, eqb-true, ne_eqb}
use Rattle.std.proofs.lemmas.List.{append_assoc, drop-drop, drop_at, length-append, length-drop, length-map, length-replicate, length-take-le, take_at}
use Rattle.std.proofs.lemmas.List.Elements.{All-cons, All-nil}
use Rattle.std.proofs.lemmas.List.FromFn.{length-map-range_with_len}
use Rattle.bitpacking.specs.Bits.{AreBytes, bit_of}
use Rattle.bitpacking.specs.Codes.{AreWords}
use Rattle.bitpacking.specs.Codes as packing
use Rattle.bitpacking.specs.declared.kind.Kind.TheVariants as kinds
use Rattle.bitpacking.specs.Layout.{Layout, codes_of, place}
use Rattle.bitpacking.specs.Width.{Fits}
use Rattle.bitpacking.specs.Words.{joined}
use Rattle.bitpacking.proofs.ForCallers.{one_layout_codes}
use Rattle.bitpack_groups.proofs.ForCallers.{AreBytes-drop, groups_are_read}
use Rattle.bitpack_columns.specs.declared.column_kind.ColumnKind.{ColumnKind}
use Rattle.bitpack_columns.specs.declared.column_kind.ColumnKind.TheVariants.{Plain, Sorted}
use Rattle.bitpack_columns.specs.Columns.{block_of, left_out, tail_of}
use Rattle.bitpack_columns.specs.Numbers.{groups_codes, groups_fault, groups_of, number_end}
use Rattle.bitpack_columns.specs.Reads.{begin_at, block_values, bodies_start, body_at, coded, codes_at, column_values, end_at, groups_at, least_size, tail_at, tail_codes, tail_start, tail_values, values_of, width_at}
use Rattle.bitpack_columns.specs.Sound.{AreBlocks, States}
use Rattle.bitpack_columns.specs.Stated.{after_count, count_in, first_in, has_first, is_few, kind_in, rest_in, values_in}
use Rattle.bitpack_columns.proofs.SoundLaws.{AreTight, HasHeader, IsTail, few_values, parts_right, rest_right, small_first}

-- ---- values of codes

length-sums : (before : ℕ) (codes : List ℕ) → length (packing.values_of (kinds.Sorted before) codes) ≡ length codes
length-sums before [] = refl
length-sums before (code ∷ codes) = ap suc (length-sums (before + code) codes)

pub length-values_of : (kind : ColumnKind) (base : ℕ) (codes : List ℕ) → length (values_of kind base codes) ≡ length codes
length-values_of Plain base codes = length-map codes (λ code. (base + code) % 2 ^ 32)
length-values_of Sorted base codes = length-sums base codes

words-sums : (before : ℕ) (codes : List ℕ) → AreWords (packing.values_of (kinds.Sorted before) codes)
words-sums before [] = All-nil (λ v. v < 2 ^ 32)
words-sums before (code ∷ codes) =
    All-cons (λ v. v < 2 ^ 32) ((before + code) % 2 ^ 32) (packing.values_of (kinds.Sorted (before + code)) codes) (omega arith) (words-sums (before + code) codes)

words-map : (base : ℕ) (codes : List ℕ) → AreWords (map (λ code. (base + code) % 2 ^ 32) codes)
words-map base [] = All-nil (λ v. v < 2 ^ 32)
words-map base (code ∷ codes) =
    All-cons (λ v. v < 2 ^ 32) ((base + code) % 2 ^ 32) (map (λ code. (base + code) % 2 ^ 32) codes) (omega arith) (words-map base codes)

pub AreWords-values_of : (kind : ColumnKind) (base : ℕ) (codes : List ℕ) → AreWords (values_of kind base codes)
AreWords-values_of Plain base codes = words-map base codes
AreWords-values_of Sorted base codes = words-sums base codes

-- ---- lists of 128 values one after the other

module _ (part : ℕ → List ℕ) (long : (m : ℕ) → length (part m) ≡ 128) where
  pub length-parts : (from count : ℕ) → length (flat_map part (range_with_len from count)) ≡ 128 * count
  length-parts from zero = refl
  length-parts from (suc count) =
      let e = length-append (part from) (flat_map part (range_with_len (from + 1) count)) in
      let f = long from in
      let g = length-parts (from + 1) count in
      omega arith

  pub block_of-parts : (from count m : ℕ) (rest : List ℕ) → m < count
      → block_of m (flat_map part (range_with_len from count) ++ rest) ≡ part (from + m)
  block_of-parts from zero m rest lt = absurd (omega arith)
  block_of-parts from (suc count) zero rest lt =
      let others : List ℕ = flat_map part (range_with_len (from + 1) count) in
      let here : from ≡ from + 0 = omega arith in
      ap (take 128) (append_assoc (part from) others rest) ∙ take_at (part from) (others ++ rest) 128 (long from) ∙ ap part here
  block_of-parts from (suc count) (suc m) rest lt =
      let others : List ℕ = flat_map part (range_with_len (from + 1) count) in
      let split : 128 * suc m ≡ 128 + 128 * m = omega arith in
      let here : from + 1 + m ≡ from + suc m = omega arith in
      ap (λ n. take 128 (drop n ((part from ++ others) ++ rest))) split
      ∙ ap (take 128) (sym (drop-drop (128 * m) 128 ((part from ++ others) ++ rest)))
      ∙ ap (λ xs. take 128 (drop (128 * m) (drop 128 xs))) (append_assoc (part from) others rest)
      ∙ ap (λ xs. take 128 (drop (128 * m) xs)) (drop_at (part from) (others ++ rest) 128 (long from))
      ∙ block_of-parts (from + 1) count m rest (omega arith) ∙ ap part here

  pub tail_of-parts : (from count : ℕ) (rest : List ℕ) → tail_of count (flat_map part (range_with_len from count) ++ rest) ≡ rest
  tail_of-parts from count rest = drop_at (flat_map part (range_with_len from count)) rest (128 * count) (length-parts from count)

-- ---- blocks

pub length-codes_at : (blocks : ℕ) (rest : List ℕ) (m : ℕ) → length (codes_at blocks rest m) ≡ 128
unfolding codes_of
length-codes_at blocks rest m =
    let width : ℕ = width_at rest m in
    length-map-range_with_len (λ k. joined 1 (λ j. bit_of (body_at blocks rest m) (place 4 width k j)) width) 0 128

pub length-block_values : (kind : ColumnKind) (first blocks : ℕ) (rest : List ℕ) (m : ℕ) → length (block_values kind first blocks rest m) ≡ 128
length-block_values kind first blocks rest m = length-values_of kind _ (codes_at blocks rest m) ∙ length-codes_at blocks rest m

-- each end is at most the last
end-le : (rest : List ℕ) (upto : ℕ) → ((m : ℕ) → m < upto → begin_at rest m ≤ end_at rest m) → (m : ℕ) → m < upto → end_at rest m ≤ begin_at rest upto
end-le rest zero rising m lt = absurd (omega arith)
end-le rest (suc upto) rising m lt = elim (cases_lt m upto) [
  | inl below ↦ omega (arith, end-le rest upto (λ before less. rising before (omega arith)) m below, rising upto (omega arith))
  | inr last ↦
      let here : m ≡ upto = omega arith in
      rw here (omega arith)
]

module _ (kind : ColumnKind) (first blocks : ℕ) (rest : List ℕ) (are : AreBlocks kind first blocks rest) (m : ℕ) (lt : m < blocks) where
  pub end_before : end_at rest m ≤ begin_at rest blocks
  end_before = end-le rest blocks are.rising m lt

  pub tail_start-is : tail_start blocks rest ≡ bodies_start blocks rest + 16 * begin_at rest blocks
  tail_start-is = cond-false (eqb blocks 0) 0 (bodies_start blocks rest + 16 * begin_at rest blocks) (ne_eqb blocks 0 (λ e. omega arith))

  -- the body is within the bytes, before the tail
  pub body_within : bodies_start blocks rest + 16 * begin_at rest m + 16 * width_at rest m ≤ tail_start blocks rest
  body_within =
      let split = are.rising m lt in
      let last = end_before in
      let e = tail_start-is in
      omega arith

  pub length-body_at : length (body_at blocks rest m) ≡ 16 * width_at rest m
  length-body_at =
      let from : ℕ = bodies_start blocks rest + 16 * begin_at rest m in
      let room = are.room in
      let within = body_within in
      length-take-le (16 * width_at rest m) (drop from rest) (omega (arith, length-drop from rest))

  pub Layout-body_at : Layout 4 (width_at rest m) (codes_at blocks rest m) (body_at blocks rest m)
  Layout-body_at = (one_layout_codes 4 (width_at rest m) (body_at blocks rest m) length-body_at).0

  pub Fits-codes_at : Fits (codes_at blocks rest m) (width_at rest m)
  Fits-codes_at = Layout-body_at.fits

-- ---- the tail

pub left_out_few : (kind : ColumnKind) (blocks count : ℕ) → left_out kind blocks count ≤ count
left_out_few Plain blocks count = elim (cases_Bool (eqb count 1)) [
  | inl one ↦ let e = eqb-true count 1 one in rw (cond-true {A = ℕ} (eqb count 1) 1 0 one) (omega arith)
  | inr other ↦ rw (cond-false {A = ℕ} (eqb count 1) 1 0 other) (omega arith)
]
left_out_few Sorted blocks count = elim (cases_Bool (eqb blocks 0)) [
  | inl none ↦ rw (cond-true {A = ℕ} (eqb blocks 0) (min 1 count) 0 none) (omega arith)
  | inr some ↦ rw (cond-false {A = ℕ} (eqb blocks 0) (min 1 count) 0 some) (omega arith)
]

-- the codes in groups without a fault
pub groups_read : (block count : ℕ) (bytes : List ℕ) → AreBytes bytes → groups_fault (groups_of count) block count bytes ≡ None
    → (length (groups_codes (groups_of count) count bytes) ≡ count) × AreWords (groups_codes (groups_of count) count bytes)
groups_read block count bytes small none =
    let read = groups_are_read (groups_of count) block count bytes (omega arith) (omega arith) small none in
    (read.0, read.1)

module _ (kind : ColumnKind) (blocks count : ℕ) (tail : List ℕ) (small : AreBytes tail) where
  pub AreBytes-groups_at : AreBytes (groups_at kind count tail)
  AreBytes-groups_at = AreBytes-drop (least_size kind count tail) tail small

  pub length-tail_codes : (block : ℕ) → groups_fault (groups_of (coded kind blocks count)) block (coded kind blocks count) (groups_at kind count tail) ≡ None
      → length (tail_codes kind blocks count tail) ≡ count
  length-tail_codes block none =
      let out : ℕ = left_out kind blocks count in
      let many = (groups_read block (coded kind blocks count) (groups_at kind count tail) AreBytes-groups_at none).0 in
      let few = left_out_few kind blocks count in
      let e = length-append (replicate out 0) (groups_codes (groups_of (coded kind blocks count)) (coded kind blocks count) (groups_at kind count tail)) in
      let f = length-replicate {A = ℕ} out 0 in
      omega arith

-- ---- all values

module _ (kind : ColumnKind) (first count : ℕ) (rest : List ℕ) where
  pub block_of-column_values : (m : ℕ) → m < count / 128 → block_of m (column_values kind first count rest) ≡ block_values kind first (count / 128) rest m
  block_of-column_values m lt =
      let here : 0 + m ≡ m = omega arith in
      block_of-parts (block_values kind first (count / 128) rest) (length-block_values kind first (count / 128) rest) 0 (count / 128) m
      (tail_values kind first (count / 128) (count % 128) rest) lt
      ∙ ap (block_values kind first (count / 128) rest) here

  pub tail_of-column_values : tail_of (count / 128) (column_values kind first count rest) ≡ tail_values kind first (count / 128) (count % 128) rest
  tail_of-column_values =
      tail_of-parts (block_values kind first (count / 128) rest) (length-block_values kind first (count / 128) rest) 0 (count / 128)
      (tail_values kind first (count / 128) (count % 128) rest)

  pub length-tail_values : IsTail kind first count rest → AreBytes rest → length (tail_values kind first (count / 128) (count % 128) rest) ≡ count % 128
  length-tail_values is small =
      let tail : List ℕ = tail_at (count / 128) rest in
      length-values_of kind _ (tail_codes kind (count / 128) (count % 128) tail)
      ∙ length-tail_codes kind (count / 128) (count % 128) tail (AreBytes-drop (tail_start (count / 128) rest) rest small) (count / 128) is.groups

  pub length-column_values : IsTail kind first count rest → AreBytes rest → length (column_values kind first count rest) ≡ count
  length-column_values is small =
      let values = tail_values kind first (count / 128) (count % 128) rest in
      let whole = flat_map (block_values kind first (count / 128) rest) (range_with_len 0 (count / 128)) in
      let e = length-append whole values in
      let f = length-parts (block_values kind first (count / 128) rest) (length-block_values kind first (count / 128) rest) 0 (count / 128) in
      let g = length-tail_values is small in
      omega arith

-- ---- what the bytes of a column state

pub AreBytes-after_count : (bytes : List ℕ) → AreBytes bytes → AreBytes (after_count bytes)
AreBytes-after_count bytes small = elim (cases_Bool (is_few bytes)) [
  | inl few ↦ rw (cond-true (is_few bytes) (drop 1 bytes) (drop (1 + number_end (drop 1 bytes)) bytes) few) (AreBytes-drop 1 bytes small)
  | inr many ↦
      rw (cond-false (is_few bytes) (drop 1 bytes) (drop (1 + number_end (drop 1 bytes)) bytes) many)
      (AreBytes-drop (1 + number_end (drop 1 bytes)) bytes small)
]

pub AreBytes-rest_in : (bytes : List ℕ) → AreBytes bytes → AreBytes (rest_in bytes)
AreBytes-rest_in bytes small =
    let after : List ℕ = after_count bytes in
    let has = has_first (kind_in bytes) (count_in bytes) in
    elim (cases_Bool has) [
      | inl some ↦ rw (cond-true has (drop (number_end after) after) after some) (AreBytes-drop (number_end after) after (AreBytes-after_count bytes small))
      | inr none ↦ rw (cond-false has (drop (number_end after) after) after none) (AreBytes-after_count bytes small)
    ]

-- the parts of bytes without a fault, and the values that are read from them
pub record IsRead (bytes : List ℕ) (kind : ColumnKind) (count first : ℕ) (rest : List ℕ) : Type 0 where
  pub header : HasHeader bytes
  pub few : count ≤ 2 ^ 28
  pub small : first < 2 ^ 32
  pub are_bytes : AreBytes rest
  pub are_blocks : 0 < count / 128 → AreBlocks kind first (count / 128) rest
  pub are_tight : 0 < count / 128 → AreTight (count / 128) rest
  pub tail : IsTail kind first count rest
  pub values : values_in bytes ≡ column_values kind first count rest
  pub len : length (values_in bytes) ≡ count
  pub block : (m : ℕ) → m < count / 128 → block_of m (values_in bytes) ≡ block_values kind first (count / 128) rest m
  pub after : tail_of (count / 128) (values_in bytes) ≡ tail_values kind first (count / 128) (count % 128) rest

values_in-is : (bytes : List ℕ) → values_in bytes ≡ column_values (kind_in bytes) (first_in bytes) (count_in bytes) (rest_in bytes)
unfolding values_in
values_in-is bytes = refl

read_in : (bytes : List ℕ) → AreBytes bytes → (HasHeader bytes × (IsTail (kind_in bytes) (first_in bytes) (count_in bytes) (rest_in bytes)))
    → (0 < count_in bytes / 128 → AreBlocks (kind_in bytes) (first_in bytes) (count_in bytes / 128) (rest_in bytes) × AreTight (count_in bytes / 128) (rest_in bytes))
    → IsRead bytes (kind_in bytes) (count_in bytes) (first_in bytes) (rest_in bytes)
read_in bytes small (header, tail) blocks =
    let kind = kind_in bytes in
    let count : ℕ = count_in bytes in
    let first : ℕ = first_in bytes in
    let rest : List ℕ = rest_in bytes in
    let small' = AreBytes-rest_in bytes small in
    let is = values_in-is bytes in
    record {
      header = header;
      few = few_values bytes header;
      small = small_first bytes header;
      are_bytes = small';
      are_blocks = λ some. (blocks some).0;
      are_tight = λ some. (blocks some).1;
      tail = tail;
      values = is;
      len = ap length is ∙ length-column_values kind first count rest tail small';
      block = λ m lt. ap (block_of m) is ∙ block_of-column_values kind first count rest m lt;
      after = ap (tail_of (count / 128)) is ∙ tail_of-column_values kind first count rest;
    }

pub is_read : (bytes : List ℕ) (kind : ColumnKind) (count first : ℕ) (rest : List ℕ) → AreBytes bytes → States bytes kind count first rest
    → IsRead bytes kind count first rest
is_read bytes kind count first rest small states =
    let right = parts_right bytes states.none in
    let parts = rest_right (kind_in bytes) (first_in bytes) (count_in bytes) (rest_in bytes) right.1 in
    rw (states.kind_is, states.count_is, states.first_is, states.rest_is) (read_in bytes small (right.0, parts.1) parts.0)
