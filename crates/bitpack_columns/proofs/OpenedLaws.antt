-- An opened column: its blocks, its marks and its tail, by what was read when it was opened.
use Rattle.std.proofs.Common.{◌≡◌, ◌⊎◌, add-one, ℕ, zero, suc, ◌+◌, ◌-◌, ◌*◌, ◌/◌, ◌%◌, ◌^◌, ◌<◌, ◌≤◌, List, length, min, take, drop, get_or, None, cond, refl, sym, subst, ◌∙◌, ap, arith, inl, inr}
use Rattle.std.proofs.lemmas.Bool.{cases_eq}
use Rattle.std.proofs.lemmas.List.{get_or-drop, get_or-map, get_or-take, get_or_past, length-drop, length-take}
use Rattle.std.proofs.lemmas.Nat.{mul-le}
use Rattle.bitpacking.specs.Layout.{codes_of}
use Rattle.bitpacking.specs.Width.{Fits}
use Rattle.bitpack_columns.specs.declared.column.Column.{Column}
use Rattle.bitpack_columns.specs.declared.column_kind.ColumnKind.{ColumnKind}
use Rattle.bitpack_columns.specs.declared.column_kind.ColumnKind.TheVariants.{Plain, Sorted}
use Rattle.bitpack_columns.specs.Columns.{base_of, block_of, least, mark_of}
use Rattle.bitpack_columns.specs.Faults.{first_out}
use Rattle.bitpack_columns.specs.Opened.{blocks_of, values}
use Rattle.bitpack_columns.specs.Reads.{begin_at, block_values, bodies_start, body_at, codes_at, column_values, end_at, end_size, mark_at, mark_size, values_of, width_at}
use Rattle.bitpack_columns.specs.Sound.{AreBlocks, HasEntries}
use Rattle.bitpack_columns.specs.Stated.{after_count, count_in, first_in, has_first, kind_in}
use Rattle.bitpack_columns.specs.Numbers.{number_value}
use Rattle.bitpack_columns.proofs.OrderLaws.{first_right, sorted_right}
use Rattle.bitpack_columns.proofs.ReadLaws.{Fits-codes_at, IsRead, body_within, is_read, length-body_at, length-codes_at}

pub opened : (column : Column) → IsRead column.bytes.bytes.now column.kind column.count column.first column.rest.bytes.now
opened column = is_read column.bytes.bytes.now column.kind column.count column.first column.rest.bytes.now column.are_bytes column.states

-- ---- how many values and blocks there are

module _ (column : Column) where
  pub count_is : length (values column) ≡ column.count
  count_is = (opened column).len

  pub blocks_is : column.count / 128 ≡ blocks_of column
  blocks_is = ap (λ n. n / 128) (sym count_is)

  pub few_values : length (values column) ≤ 2 ^ 28
  few_values = let e = count_is in let f = (opened column).few in omega arith

  pub few_blocks : blocks_of column ≤ 2 ^ 21
  few_blocks = let f = few_values in omega arith

  pub some_values : (m : ℕ) → m < blocks_of column → 128 * m + 128 ≤ length (values column)
  some_values m lt = omega arith

-- ---- blocks

-- the value at an index of a block
pub value_of_block : (values : List ℕ) (m k : ℕ) → k < 128 → get_or (block_of m values) k 0 ≡ get_or values (128 * m + k) 0
value_of_block values m k lt = get_or-take 128 (drop (128 * m) values) k 0 lt ∙ get_or-drop (128 * m) values k 0

pub value_in_its_block : (values : List ℕ) (position : ℕ) → get_or (block_of (position / 128) values) (position % 128) 0 ≡ get_or values position 0
value_in_its_block values position =
    let same : 128 * (position / 128) + position % 128 ≡ position = omega arith in
    value_of_block values (position / 128) (position % 128) (omega arith) ∙ ap (λ n. get_or values n 0) same

pub length-block_of : (values : List ℕ) (m : ℕ) → 128 * m + 128 ≤ length values → length (block_of m values) ≡ 128
length-block_of values m room = omega (arith, length-take 128 (drop (128 * m) values), length-drop (128 * m) values)

-- the value at an index of a plain block
plain_value : (base k : ℕ) (codes : List ℕ) → k < length codes → get_or (values_of Plain base codes) k 0 ≡ (base + get_or codes k 0) % 2 ^ 32
plain_value base k codes lt = get_or-map (λ code. (base + code) % 2 ^ 32) codes k 0 0 lt

plain_below : (kind : ColumnKind) → kind ≡ Plain → (first blocks : ℕ) (rest : List ℕ) (m k : ℕ) → k < 128 → Fits (codes_at blocks rest m) (width_at rest m)
    → get_or (block_values kind first blocks rest m) k 0 < mark_at blocks rest m + 2 ^ width_at rest m
plain_below Sorted e first blocks rest m k lt fits = absurd cc
plain_below Plain e first blocks rest m k lt fits =
    let long = length-codes_at blocks rest m in
    let small = fits k 0 (omega arith) in
    let is = plain_value (mark_at blocks rest m) k (codes_at blocks rest m) (omega arith) in
    omega arith

-- ends are few, since no width is above 32
begin_few : (kind : ColumnKind) (first blocks : ℕ) (rest : List ℕ) → AreBlocks kind first blocks rest → (m : ℕ) → m ≤ blocks → begin_at rest m ≤ 32 * m
begin_few kind first blocks rest are zero le = omega arith
begin_few kind first blocks rest are (suc m) le =
    let before = begin_few kind first blocks rest are m (omega arith) in
    let rising = are.rising m (omega arith) in
    let narrow = are.narrow m (omega arith) in
    omega arith

module _ (column : Column) (m : ℕ) (lt : m < blocks_of column) where
  pub are_blocks : AreBlocks column.kind column.first (blocks_of column) column.rest.bytes.now
  are_blocks =
      let some : 0 < column.count / 128 = let e = blocks_is column in omega arith in
      subst (λ n. AreBlocks column.kind column.first n column.rest.bytes.now) (blocks_is column) ((opened column).are_blocks some)

  pub entries : HasEntries (blocks_of column) column.rest.bytes.now
  entries = are_blocks.entries

  pub some_rest : 1 ≤ length column.rest.bytes.now
  some_rest = let room = entries.room in omega arith

  pub rising : begin_at column.rest.bytes.now m ≤ end_at column.rest.bytes.now m
  rising = are_blocks.rising m lt

  pub narrow : width_at column.rest.bytes.now m ≤ 32
  narrow = are_blocks.narrow m lt

  -- where the body is
  pub body_end : bodies_start (blocks_of column) column.rest.bytes.now + 16 * begin_at column.rest.bytes.now m + 16 * width_at column.rest.bytes.now m ≤ length column.rest.bytes.now
  body_end =
      let within = body_within column.kind column.first (blocks_of column) column.rest.bytes.now are_blocks m lt in
      let room = are_blocks.room in
      omega arith

  pub body_few : bodies_start (blocks_of column) column.rest.bytes.now + 16 * begin_at column.rest.bytes.now m + 16 * width_at column.rest.bytes.now m ≤ 2 ^ 32
  body_few =
      let few = few_blocks column in
      let begin = begin_few column.kind column.first (blocks_of column) column.rest.bytes.now are_blocks m (omega arith) in
      let wide = narrow in
      let ends = entries.end_few in
      let marks = entries.mark_few in
      let product = mul-le (end_size column.rest.bytes.now + mark_size column.rest.bytes.now) (blocks_of column) 8 (2 ^ 21) (omega arith) few in
      omega arith

  pub block_is : block_of m (values column) ≡ block_values column.kind column.first (blocks_of column) column.rest.bytes.now m
  block_is =
      let within : m < column.count / 128 = let e = blocks_is column in omega arith in
      (opened column).block m within ∙ ap (λ n. block_values column.kind column.first n column.rest.bytes.now m) (blocks_is column)

  pub mark_is : mark_of column.kind (block_of m (values column)) ≡ mark_at (blocks_of column) column.rest.bytes.now m
  mark_is = ap (mark_of column.kind) block_is ∙ are_blocks.marks m lt

  -- a value of a plain column is below the mark of its block and what its width allows
  pub plain_fits : column.kind ≡ Plain → (k : ℕ) → k < 128
      → get_or (values column) (128 * m + k) 0 < least (block_of m (values column)) + 2 ^ width_at column.rest.bytes.now m
  plain_fits plain k inside =
      let fits = Fits-codes_at column.kind column.first (blocks_of column) column.rest.bytes.now are_blocks m lt in
      let below = plain_below column.kind plain column.first (blocks_of column) column.rest.bytes.now m k inside fits in
      let value = sym (value_of_block (values column) m k inside) ∙ ap (λ xs. get_or xs k 0) block_is in
      let mark : least (block_of m (values column)) ≡ mark_at (blocks_of column) column.rest.bytes.now m =
      ap (λ kind. mark_of kind (block_of m (values column))) (sym plain) ∙ mark_is in
      omega arith

-- ---- a sorted column

pub positive : (count long : ℕ) → long ≡ count → (count ≡ 0 → ⊥) → 0 < long
positive zero long e some = absurd (some refl)
positive (suc count) long e some = omega arith

first_none : (kind : ColumnKind) (count found : ℕ) → count ≡ 0 → cond (has_first kind count) found 0 ≡ 0
first_none Plain count found none = refl
first_none Sorted zero found none = refl
first_none Sorted (suc count) found none = absurd (omega arith)

no_first : (bytes : List ℕ) → count_in bytes ≡ 0 → first_in bytes ≡ 0
no_first bytes none = first_none (kind_in bytes) (count_in bytes) (number_value (after_count bytes)) none

module _ (column : Column) (sorted : column.kind ≡ Sorted) where
  pub all_in_order : first_out Sorted column.first (values column) ≡ None
  all_in_order =
      ap (first_out Sorted column.first) (opened column).values
      ∙ subst (λ kind. first_out kind column.first (column_values column.kind column.first column.count column.rest.bytes.now) ≡ None) sorted (opened column).tail.ordered

  pub first_is : column.first ≡ get_or (values column) 0 0
  first_is = elim (cases_eq column.count 0) [
    | inl none ↦
        let empty : length (values column) ≡ 0 = count_is column ∙ none in
        let states = column.states in
        states.first_is ∙ no_first column.bytes.bytes.now (sym states.count_is ∙ none) ∙ sym (get_or_past (values column) 0 0 (omega arith))
    | inr some ↦ first_right column.first (values column) all_in_order (let e = count_is column in positive column.count (length (values column)) e some)
  ]

  pub in_order : (i j : ℕ) → i ≤ j → j < length (values column) → get_or (values column) i 0 ≤ get_or (values column) j 0
  in_order = sorted_right column.first (values column) all_in_order

  -- the mark of a block is its last value
  pub last_is : (m : ℕ) → m < blocks_of column → mark_at (blocks_of column) column.rest.bytes.now m ≡ get_or (values column) (128 * m + 127) 0
  last_is m lt =
      sym (mark_is column m lt) ∙ ap (λ kind. mark_of kind (block_of m (values column))) sorted ∙ value_of_block (values column) m 127 (omega arith)

-- ---- what the codes of a block count from

module _ (column : Column) (m base : ℕ) where
  pub base_plain : m < blocks_of column → column.kind ≡ Plain → base ≡ mark_of column.kind (block_of m (values column))
      → base ≡ base_of column.kind column.first (mark_at (blocks_of column) column.rest.bytes.now) m
  base_plain lt plain e =
      e ∙ mark_is column m lt ∙ sym (ap (λ kind. base_of kind column.first (mark_at (blocks_of column) column.rest.bytes.now) m) plain)

pub before_block : (column : Column) (m base : ℕ) → m ≤ blocks_of column → column.kind ≡ Sorted
    → (m ≡ 0 → base ≡ get_or (values column) 0 0) → (0 < m → base ≡ get_or (values column) (128 * m - 1) 0)
    → base ≡ base_of Sorted column.first (mark_at (blocks_of column) column.rest.bytes.now) m
before_block column zero base le sorted zeroth later = zeroth refl ∙ sym (first_is column sorted)
before_block column (suc m) base le sorted zeroth later =
    let same : 128 * suc m - 1 ≡ 128 * m + 127 = omega arith in
    later (omega arith) ∙ ap (λ n. get_or (values column) n 0) same ∙ sym (last_is column sorted m (omega arith))

module _ (column : Column) (m base : ℕ) (le : m ≤ blocks_of column) (sorted : column.kind ≡ Sorted) where
  pub base_sorted : (m ≡ 0 → base ≡ get_or (values column) 0 0) → (0 < m → base ≡ get_or (values column) (128 * m - 1) 0)
      → base ≡ base_of column.kind column.first (mark_at (blocks_of column) column.rest.bytes.now) m
  base_sorted zeroth later =
      before_block column m base le sorted zeroth later
      ∙ sym (ap (λ kind. base_of kind column.first (mark_at (blocks_of column) column.rest.bytes.now) m) sorted)

cases_kind : (kind : ColumnKind) → (kind ≡ Plain) ⊎ (kind ≡ Sorted)
cases_kind Plain = inl refl
cases_kind Sorted = inr refl

pub begin_next : (rest : List ℕ) (m : ℕ) → begin_at rest (m + 1) ≡ end_at rest m
begin_next rest m = rw add-one refl

base_next : (first : ℕ) (mark : ℕ → ℕ) (m : ℕ) → base_of Sorted first mark (m + 1) ≡ mark m
base_next first mark m = rw add-one refl

module _ (column : Column) (m : ℕ) (lt : m < blocks_of column) (mark : ℕ) (is : mark ≡ mark_of column.kind (block_of m (values column))) where
  -- the mark, or the value before the block
  pub base_chosen : (before base : ℕ) → (column.kind ≡ Sorted → before ≡ base_of Sorted column.first (mark_at (blocks_of column) column.rest.bytes.now) m)
      → (column.kind ≡ Plain → base ≡ mark) → (column.kind ≡ Sorted → base ≡ before)
      → base ≡ base_of column.kind column.first (mark_at (blocks_of column) column.rest.bytes.now) m
  base_chosen before base earlier plain sorted = elim (cases_kind column.kind) [
    | inl a ↦ base_plain column m base lt a (plain a ∙ is)
    | inr b ↦ sorted b ∙ earlier b ∙ sym (ap (λ kind. base_of kind column.first (mark_at (blocks_of column) column.rest.bytes.now) m) b)
  ]

  -- what is before the next block
  pub before_next : mark ≡ base_of Sorted column.first (mark_at (blocks_of column) column.rest.bytes.now) (m + 1)
  before_next = is ∙ mark_is column m lt ∙ sym (base_next column.first (mark_at (blocks_of column) column.rest.bytes.now) m)

-- ---- what is unpacked

module _ (column : Column) (m : ℕ) (lt : m < blocks_of column) where
  pub long_body : (width : ℕ) (body : List ℕ) → width ≡ width_at column.rest.bytes.now m → body ≡ body_at (blocks_of column) column.rest.bytes.now m → length body ≡ 16 * width
  long_body width body e f =
      ap length f ∙ length-body_at column.kind column.first (blocks_of column) column.rest.bytes.now (are_blocks column m lt) m lt ∙ ap (λ n. 16 * n) (sym e)

  pub block_unpacked : (base width : ℕ) (body new : List ℕ) → base ≡ base_of column.kind column.first (mark_at (blocks_of column) column.rest.bytes.now) m
      → width ≡ width_at column.rest.bytes.now m → body ≡ body_at (blocks_of column) column.rest.bytes.now m → new ≡ values_of column.kind base (codes_of 4 width body)
      → new ≡ block_of m (values column)
  block_unpacked base width body new is wide part e =
      e ∙ ap (λ b. values_of column.kind b (codes_of 4 width body)) is
      ∙ ap (λ w. values_of column.kind (base_of column.kind column.first (mark_at (blocks_of column) column.rest.bytes.now) m) (codes_of 4 w body)) wide
      ∙ ap (λ xs. values_of column.kind (base_of column.kind column.first (mark_at (blocks_of column) column.rest.bytes.now) m) (codes_of 4 (width_at column.rest.bytes.now m) xs)) part
      ∙ sym (block_is column m lt)

module _ (column : Column) (m : ℕ) (lt : m < blocks_of column) (width : ℕ) (body : List ℕ) (wide : width ≡ width_at column.rest.bytes.now m)
    (part : body ≡ body_at (blocks_of column) column.rest.bytes.now m) where
  -- a value of a plain block by its code
  pub value_by_code : (base k code : ℕ) → k < 128 → column.kind ≡ Plain → base ≡ mark_of column.kind (block_of m (values column))
      → code ≡ get_or (codes_of 4 width body) k 0 → (base + code) % 2 ^ 32 ≡ get_or (block_of m (values column)) k 0
  value_by_code base k code inside plain mark is =
      let codes : List ℕ = codes_of 4 width body in
      let long : length codes ≡ 128 =
      ap (λ w. length (codes_of 4 w body)) wide ∙ ap (λ xs. length (codes_of 4 (width_at column.rest.bytes.now m) xs)) part
      ∙ length-codes_at (blocks_of column) column.rest.bytes.now m in
      ap (λ x. (base + x) % 2 ^ 32) is ∙ sym (plain_value base k codes (omega arith)) ∙ ap (λ kind. get_or (values_of kind base codes) k 0) (sym plain)
      ∙ ap (λ xs. get_or xs k 0)
      (block_unpacked column m lt base width body (values_of column.kind base codes) (base_plain column m base lt plain mark) wide part refl)

  -- a value of a sorted block
  pub value_by_sum : (base k value : ℕ) → column.kind ≡ Sorted → (m ≡ 0 → base ≡ get_or (values column) 0 0)
      → (0 < m → base ≡ get_or (values column) (128 * m - 1) 0) → value ≡ get_or (values_of Sorted base (codes_of 4 width body)) k 0
      → value ≡ get_or (block_of m (values column)) k 0
  value_by_sum base k value sorted zeroth later is =
      let codes : List ℕ = codes_of 4 width body in
      is ∙ ap (λ kind. get_or (values_of kind base codes) k 0) (sym sorted)
      ∙ ap (λ xs. get_or xs k 0)
      (block_unpacked column m lt base width body (values_of column.kind base codes) (base_sorted column m base (omega arith) sorted zeroth later) wide part refl)

-- a value of a block that was unpacked
pub value_unpacked : (values unpacked : List ℕ) (block len position : ℕ) → take len unpacked ≡ block_of block values → len ≡ min 128 (length values - 128 * block)
    → position < length values → position / 128 ≡ block → get_or unpacked (position % 128) 0 ≡ get_or values position 0
value_unpacked values unpacked block len position e long lt here =
    sym (get_or-take len unpacked (position % 128) 0 (omega arith)) ∙ ap (λ xs. get_or xs (position % 128) 0) e
    ∙ ap (λ m. get_or (block_of m values) (position % 128) 0) (sym here) ∙ value_in_its_block values position
