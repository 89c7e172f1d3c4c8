-- What bytes without a fault say: of the count and the first value, of the blocks and of the tail.
use Rattle.std.proofs.Common.{◌≡◌, ℕ, zero, suc, ◌/◌, ◌%◌, ◌^◌, ◌<◌, ◌≤◌, Bool, true, false, cond, ◌&&◌, eqb, leb, ltb, List, [], ◌∷◌, length, drop, get_or, not, Option, Some, None, refl, arith, inl, inr}
use Rattle.std.specs.Option.{option_map}
use Rattle.std.proofs.lemmas.Bool.{and_parts, cases_Bool, cases_lt, cond-false, cond-true, eqb-true, leb-false, leb-true, ltb-false, ltb-true, ne_eqb, not-false, or_parts}
use Rattle.bitpack_groups.proofs.ForCallers.{none_first, passed}
use Rattle.bitpack_groups.specs.declared.group_error.GroupError.TheVariants as groups
use Rattle.bitpack_columns.specs.declared.column_kind.ColumnKind.{ColumnKind}
use Rattle.bitpack_columns.specs.declared.column_error.ColumnError.{ColumnError}
use Rattle.bitpack_columns.specs.declared.column_error.ColumnError.TheVariants.{NotSorted}
use Rattle.bitpack_columns.specs.Columns.{least, mark_of}
use Rattle.bitpack_columns.specs.Faults.{blocks_fault, body_fault, end_fault, fault, first_of, first_out, has_least, header_fault, least_fault, least_number_fault, loose_sizes_fault, rest_fault, sizes_fault, tail_fault}
use Rattle.bitpack_columns.specs.Numbers.{are_loose, byte_count, count_fault, going_on, greatest, groups_fault, groups_of, number_fault, number_value, of}
use Rattle.bitpack_columns.specs.Reads.{after_tail, begin_at, block_values, bodies_start, coded, codes_at, column_values, end_at, end_size, groups_at, mark_at, mark_size, tail_at, tail_start, tail_values, width_at}
use Rattle.bitpack_columns.specs.Sound.{AreBlocks}
use Rattle.bitpack_columns.specs.Stated.{after_count, count_in, first_in, has_first, is_few, kind_in, rest_in}

-- ---- tests that find no fault

pub not_mapped : {A B : Type 0} (f : A → B) (found : Option A) → option_map f found ≡ None → found ≡ None
not_mapped f None e = refl
not_mapped f (Some x) e = absurd cc

-- There is a fault unless the test holds.
pub only_if : {A : Type 0} (test : Bool) (fault : A) → cond test None (Some fault) ≡ None → test ≡ true
only_if true fault e = refl
only_if false fault e = absurd cc

-- What is tested only if something holds.
pub if_so : {A : Type 0} (test : Bool) (found : Option A) → cond test found None ≡ None → test ≡ true → found ≡ None
if_so true found e h = e
if_so false found e h = absurd cc

pub unless : {A : Type 0} (test : Bool) (found : Option A) → cond test None found ≡ None → test ≡ false → found ≡ None
unless true found e h = absurd cc
unless false found e h = e

-- If no block has a fault, none of them has one.
pub first_of-none : (fault : ℕ → Option ColumnError) (count : ℕ) → first_of fault count ≡ None → (m : ℕ) → m < count → fault m ≡ None
unfolding first_of
first_of-none fault zero none m lt = absurd (omega arith)
first_of-none fault (suc count) none m lt =
    let both = none_first (first_of fault count) (fault count) none in
    elim (cases_lt m count) [
      | inl below ↦ first_of-none fault count both.0 m below
      | inr end ↦
          let here : m ≡ count = omega arith in
          rw here both.1
    ]

ne_zero : (n : ℕ) → 0 < n → eqb n 0 ≡ false
ne_zero n some = ne_eqb n 0 (λ e. omega arith)

-- ---- the count and the first value

pub record HasHeader (bytes : List ℕ) : Type 0 where
  pub some : 1 ≤ length bytes
  pub least_byte : 64 ≤ get_or bytes 0 0
  pub greatest_byte : get_or bytes 0 0 ≤ 127
  pub none : header_fault bytes ≡ None

-- bytes without a fault have none in their header, nor after it
pub parts_right : (bytes : List ℕ) → fault bytes ≡ None
    → HasHeader bytes × (rest_fault (kind_in bytes) (first_in bytes) (count_in bytes) (rest_in bytes) ≡ None)
unfolding fault
parts_right [] none = absurd cc
parts_right (byte ∷ bytes) none =
    let one = passed _ _ _ none in
    let range = or_parts (ltb byte 64) (ltb 127 byte) one.0 in
    let both = none_first _ _ one.1 in
    (record { some = omega arith; least_byte = ltb-false byte 64 range.0; greatest_byte = ltb-false 127 byte range.1; none = both.0 }, both.1)

count_right : (least : ℕ) (bytes : List ℕ) → count_fault least bytes ≡ None
    → (number_fault bytes ≡ None) × (least ≤ number_value bytes) × (number_value bytes ≤ 2 ^ 28)
unfolding count_fault
count_right least bytes none =
    let both = none_first (number_fault bytes) _ none in
    let low = passed _ _ _ both.1 in
    let high = passed _ _ _ low.1 in
    (both.0, ltb-false (number_value bytes) least low.0, ltb-false (2 ^ 28) (number_value bytes) high.0)

pub number_small : (bytes : List ℕ) → number_fault bytes ≡ None → number_value bytes < 2 ^ 32
unfolding number_fault
number_small bytes none =
    let more : ℕ = going_on 5 bytes in
    let one = passed (eqb more 5) groups.BadNumber _ none in
    let two = passed (leb (length bytes) more) groups.Short _ one.1 in
    let three = passed (eqb (get_or bytes more 0) 0 && ltb 0 more) groups.BadNumber _ two.1 in
    let four = passed (leb (2 ^ 32) (number_value bytes)) groups.BadNumber None three.1 in
    leb-false (2 ^ 32) (number_value bytes) four.0

module _ (bytes : List ℕ) (header : HasHeader bytes) where
  -- the number of the count, if the count has one
  pub count_number : is_few bytes ≡ false → (number_fault (drop 1 bytes) ≡ None) × (31 ≤ number_value (drop 1 bytes)) × (number_value (drop 1 bytes) ≤ 2 ^ 28)
  unfolding header_fault
  count_number many =
      let both = none_first _ _ header.none in
      count_right 31 (drop 1 bytes) (not_mapped _ _ (unless (is_few bytes) (of (count_fault 31 (drop 1 bytes))) both.0 many))

  pub few_values : count_in bytes ≤ 2 ^ 28
  few_values = elim (cases_Bool (is_few bytes)) [
    | inl few ↦ rw (cond-true (is_few bytes) (get_or bytes 0 0 % 32) (number_value (drop 1 bytes)) few) (omega arith)
    | inr many ↦
        let number = count_number many in
        rw (cond-false (is_few bytes) (get_or bytes 0 0 % 32) (number_value (drop 1 bytes)) many) number.2
  ]

  -- the number of the first value, if the column has one
  pub first_number : has_first (kind_in bytes) (count_in bytes) ≡ true → number_fault (after_count bytes) ≡ None
  unfolding header_fault
  first_number has =
      let both = none_first _ _ header.none in
      not_mapped _ _ (if_so (has_first (kind_in bytes) (count_in bytes)) (of (number_fault (after_count bytes))) both.1 has)

  pub small_first : first_in bytes < 2 ^ 32
  small_first = elim (cases_Bool (has_first (kind_in bytes) (count_in bytes))) [
    | inl has ↦ rw (cond-true (has_first (kind_in bytes) (count_in bytes)) (number_value (after_count bytes)) 0 has) (number_small (after_count bytes) (first_number has))
    | inr not ↦ rw (cond-false (has_first (kind_in bytes) (count_in bytes)) (number_value (after_count bytes)) 0 not) (omega arith)
  ]

-- ---- the blocks

pub end_right : (rest : List ℕ) (m : ℕ) → end_fault rest m ≡ None → (begin_at rest m ≤ end_at rest m) × (width_at rest m ≤ 32)
unfolding end_fault
end_right rest m none =
    let both = or_parts (ltb (end_at rest m) (begin_at rest m)) (ltb 32 (width_at rest m)) (passed _ _ _ none).0 in
    (ltb-false (end_at rest m) (begin_at rest m) both.0, ltb-false 32 (width_at rest m) both.1)

pub sizes_right : (rest : List ℕ) → sizes_fault rest ≡ None → ((0 < end_size rest) × (end_size rest ≤ 4)) × ((0 < mark_size rest) × (mark_size rest ≤ 4))
unfolding sizes_fault
sizes_right rest none =
    let all = only_if _ _ (passed _ _ _ none).1 in
    let three = and_parts _ (leb (mark_size rest) 4) all in
    let two = and_parts _ (ltb 0 (mark_size rest)) three.0 in
    let one = and_parts (ltb 0 (end_size rest)) (leb (end_size rest) 4) two.0 in
    ((ltb-true _ _ one.0, leb-true _ _ one.1), (ltb-true _ _ two.1, leb-true _ _ three.1))

pub least_sizes : (blocks : ℕ) (rest : List ℕ) → loose_sizes_fault blocks rest ≡ None
    → (end_size rest ≡ byte_count (begin_at rest blocks)) × (mark_size rest ≡ byte_count (greatest (mark_at blocks rest) blocks))
unfolding loose_sizes_fault
least_sizes blocks rest none =
    let both = and_parts (eqb (end_size rest) (byte_count (begin_at rest blocks))) (eqb (mark_size rest) (byte_count (greatest (mark_at blocks rest) blocks))) (only_if _ _ none) in
    (eqb-true _ _ both.0, eqb-true _ _ both.1)

-- what is not relied on by reading: sizes and widths are the least
pub record AreTight (blocks : ℕ) (rest : List ℕ) : Type 0 where
  pub ends : end_size rest ≡ byte_count (begin_at rest blocks)
  pub marks : mark_size rest ≡ byte_count (greatest (mark_at blocks rest) blocks)
  pub widths : (m : ℕ) → m < blocks → are_loose (width_at rest m) (codes_at blocks rest m) ≡ false

module _ (kind : ColumnKind) (first : ℕ) where
  pub body_right : (blocks : ℕ) (rest : List ℕ) (m : ℕ) → body_fault kind first blocks rest m ≡ None
      → (are_loose (width_at rest m) (codes_at blocks rest m) ≡ false) × (mark_of kind (block_values kind first blocks rest m) ≡ mark_at blocks rest m)
  unfolding body_fault
  body_right blocks rest m none =
      let loose = passed _ _ _ none in
      (loose.0, eqb-true _ _ (only_if _ _ loose.1))

  pub blocks_right : (blocks : ℕ) (rest : List ℕ) → 0 < blocks → blocks_fault kind first blocks rest ≡ None
      → AreBlocks kind first blocks rest × AreTight blocks rest
  unfolding blocks_fault
  blocks_right blocks rest some none =
      let one = none_first _ _ none in
      let two = none_first _ _ one.1 in
      let three = none_first _ _ two.1 in
      let four = none_first _ _ three.1 in
      let five = none_first _ _ four.1 in
      let sizes = sizes_right rest one.0 in
      let tight = least_sizes blocks rest four.0 in
      let ends : (m : ℕ) → m < blocks → (begin_at rest m ≤ end_at rest m) × (width_at rest m ≤ 32) =
      λ m lt. end_right rest m (first_of-none (end_fault rest) blocks three.0 m lt) in
      let bodies = λ (m : ℕ) (lt : m < blocks). body_right blocks rest m (first_of-none (body_fault kind first blocks rest) blocks five.1 m lt) in (
        record {
          entries = record {
            end_some = sizes.0.0;
            end_few = sizes.0.1;
            mark_some = sizes.1.0;
            mark_few = sizes.1.1;
            room = ltb-false (length rest) (bodies_start blocks rest) (passed _ _ _ two.0).0;
          };
          rising = λ m lt. (ends m lt).0;
          narrow = λ m lt. (ends m lt).1;
          room = ltb-false (length rest) (tail_start blocks rest) (passed _ _ _ five.0).0;
          marks = λ m lt. (bodies m lt).1;
        },
        record { ends = tight.0; marks = tight.1; widths = λ m lt. (bodies m lt).0 },
      )

-- ---- the tail

-- the tail of a column of `count` values, and the order of all values
pub record IsTail (kind : ColumnKind) (first count : ℕ) (rest : List ℕ) : Type 0 where
  pub number : has_least kind (count % 128) ≡ true → number_fault (tail_at (count / 128) rest) ≡ None
  pub groups : groups_fault (groups_of (coded kind (count / 128) (count % 128))) (count / 128) (coded kind (count / 128) (count % 128))
      (groups_at kind (count % 128) (tail_at (count / 128) rest)) ≡ None
  pub least_is : has_least kind (count % 128) ≡ true → least (tail_values kind first (count / 128) (count % 128) rest) ≡ number_value (tail_at (count / 128) rest)
  pub ordered : first_out kind first (column_values kind first count rest) ≡ None
  pub whole : length (after_tail kind (count / 128) (count % 128) rest) ≡ 0

module _ (kind : ColumnKind) (first : ℕ) where
  number_right : (count : ℕ) (tail : List ℕ) → least_number_fault kind first count tail ≡ None → has_least kind count ≡ true → number_fault tail ≡ None
  unfolding least_number_fault
  number_right count tail none has = not_mapped _ _ (if_so (has_least kind count) (of (number_fault tail)) none has)

  least_right : (blocks count : ℕ) (rest : List ℕ) → least_fault kind first blocks count rest ≡ None → has_least kind count ≡ true
      → least (tail_values kind first blocks count rest) ≡ number_value (tail_at blocks rest)
  unfolding least_fault
  least_right blocks count rest none has =
      let same = eqb (least (tail_values kind first blocks count rest)) (number_value (tail_at blocks rest)) in
      let test : (has_least kind count && not same) ≡ false = (passed _ _ _ none).0 in
      eqb-true _ _ (not-false same (rw has at test))

  pub tail_right : (count : ℕ) (rest : List ℕ) → tail_fault kind first count rest ≡ None → IsTail kind first count rest
  unfolding tail_fault
  tail_right count rest none =
      let one = none_first _ _ none in
      let two = none_first _ _ one.1 in
      let three = none_first _ _ two.1 in
      let four = none_first _ _ three.1 in
      record {
        number = number_right (count % 128) (tail_at (count / 128) rest) one.0;
        groups = not_mapped _ _ two.0;
        least_is = least_right (count / 128) (count % 128) rest three.0;
        ordered = not_mapped NotSorted _ four.0;
        whole = eqb-true _ _ (only_if _ _ four.1);
      }

  pub rest_right : (count : ℕ) (rest : List ℕ) → rest_fault kind first count rest ≡ None
      → (0 < count / 128 → AreBlocks kind first (count / 128) rest × AreTight (count / 128) rest) × IsTail kind first count rest
  unfolding rest_fault
  rest_right count rest none =
      let both = none_first _ _ none in (
        λ some. blocks_right kind first (count / 128) rest some (unless (eqb (count / 128) 0) _ both.0 (ne_zero (count / 128) some)),
        tail_right count rest both.1,
      )
