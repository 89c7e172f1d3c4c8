-- What the tests of a column find of a part of it.
use Rattle.std.specs.Prelude.{◌≡◌, ℕ, zero, suc, ◌*◌, ◌%◌, ◌^◌, ◌<◌, ◌≤◌, ◌==◌, ◌&&◌, not, if◌then◌else◌, List, length, sum, Option, Some, None}
use Rattle.std.specs.List.{flat_map, range_with_len}
use Rattle.std.specs.Option.{option_map, option_or}
use Rattle.bitpacking.specs.Width.{Fits}
use Rattle.bitpack_columns.specs.declared.column_kind.ColumnKind.{ColumnKind}
use Rattle.bitpack_columns.specs.declared.column_kind.ColumnKind.TheVariants.{Plain, Sorted}
use Rattle.bitpack_columns.specs.declared.column_error.ColumnError.{ColumnError}
use Rattle.bitpack_columns.specs.declared.column_error.ColumnError.TheVariants.{LooseWidth, BadLast, NotSorted, Trailing}
use Rattle.bitpack_columns.specs.Columns.{least, mark_of}
use Rattle.bitpack_columns.specs.Faults.{first_below, first_out, has_least}
use Rattle.bitpack_columns.specs.Numbers.{after_groups, are_loose, groups_fault, groups_of, number_fault, number_value, of}
use Rattle.bitpack_columns.specs.Reads.{begin_at, block_values, coded, end_at, groups_at, tail_codes, tail_start, values_of, width_at}
use Rattle.bitpack_columns.specs.Sound.{HasEntries}

-- the values of the first blocks
abbrev pub front_values : ColumnKind → ℕ → ℕ → List ℕ → ℕ → List ℕ
front_values kind first blocks rest count = flat_map (block_values kind first blocks rest) (range_with_len 0 count)

-- the first position out of order among values from a position on; before them is this value, or at position 0 the first value is stated so
unfoldable pub out_from : ColumnKind → ℕ → ℕ → List ℕ → Option ℕ
out_from Plain position before values = None
out_from Sorted zero before values = first_out Sorted before values
out_from Sorted (suc position) before values = first_below (suc position) before values

-- the fault of a block of this width and mark whose codes are these, and count from a base
unfoldable pub codes_fault : ColumnKind → ℕ → ℕ → ℕ → ℕ → List ℕ → Option ColumnError
codes_fault kind block width mark base codes =
    if are_loose width codes then Some (LooseWidth block width) else if mark_of kind (values_of kind base codes) == mark then None else Some (BadLast block)

-- the mark of a plain block, and the value before a sorted one
abbrev pub base_in : ColumnKind → ℕ → ℕ → ℕ
base_in Plain before mark = mark
base_in Sorted before mark = before

-- codes together: their sum modulo 2 ^ 32, and each bit that one of them has
pub record AreTotals (codes : List ℕ) (total bits : ℕ) : Type 0 where
  pub sum_is : total ≡ sum codes % 2 ^ 32
  pub above : (width : ℕ) → bits < 2 ^ width → Fits codes width
  pub below : (width : ℕ) → Fits codes width → bits < 2 ^ width

-- the ends of the blocks are right, and there is room for the bodies
pub record HasBodies (blocks : ℕ) (rest : List ℕ) : Type 0 where
  pub entries : HasEntries blocks rest
  pub rising : (m : ℕ) → m < blocks → begin_at rest m ≤ end_at rest m
  pub narrow : (m : ℕ) → m < blocks → width_at rest m ≤ 32
  pub room : tail_start blocks rest ≤ length rest

-- the fault of a tail of `count` values after `blocks` blocks, of a plain column
unfoldable pub plain_tail_fault : ℕ → ℕ → List ℕ → Option ColumnError
plain_tail_fault blocks count tail =
    option_or (if has_least Plain count then of (number_fault tail) else None)
    (option_or (of (groups_fault (groups_of (coded Plain blocks count)) blocks (coded Plain blocks count) (groups_at Plain count tail)))
    (option_or (if has_least Plain count && not (least (values_of Plain (number_value tail) (tail_codes Plain blocks count tail)) == number_value tail) then Some (BadLast blocks) else None)
    (if length (after_groups (groups_of (coded Plain blocks count)) (coded Plain blocks count) (groups_at Plain count tail)) == 0 then None else Some Trailing)))

-- of a sorted column: the value before the tail, and the first position out of order in the blocks
unfoldable pub sorted_tail_fault : ℕ → ℕ → ℕ → Option ℕ → List ℕ → Option ColumnError
sorted_tail_fault blocks count before out tail =
    option_or (of (groups_fault (groups_of (coded Sorted blocks count)) blocks (coded Sorted blocks count) tail))
    (option_or (option_map NotSorted (option_or out (out_from Sorted (128 * blocks) before (values_of Sorted before (tail_codes Sorted blocks count tail)))))
    (if length (after_groups (groups_of (coded Sorted blocks count)) (coded Sorted blocks count) tail) == 0 then None else Some Trailing))
