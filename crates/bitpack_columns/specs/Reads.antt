-- What a reader finds in an encoded column. The rest of its bytes is what is after the count and the first value.
use Rattle.std.specs.Prelude.{ℕ, zero, suc, ◌+◌, ◌-◌, ◌*◌, ◌/◌, ◌%◌, ◌^◌, ◌==◌, if◌then◌else◌, List, ◌++◌, map, take, drop, replicate, slice_index}
use Rattle.std.specs.List.{flat_map, range_with_len}
use Rattle.bitpacking.specs.Codes as packing
use Rattle.bitpacking.specs.Layout.{codes_of}
use Rattle.bitpacking.specs.declared.kind.Kind.TheVariants as kinds
use Rattle.bitpack_columns.specs.declared.column_kind.ColumnKind.{ColumnKind}
use Rattle.bitpack_columns.specs.declared.column_kind.ColumnKind.TheVariants.{Plain, Sorted}
use Rattle.bitpack_columns.specs.Columns.{base_of, left_out, tail_base}
use Rattle.bitpack_columns.specs.Numbers.{after_groups, groups_codes, groups_of, number_end, number_value, short_at}

-- the values that have these codes
abbrev pub values_of : ColumnKind → ℕ → List ℕ → List ℕ
values_of Plain base codes = map (λ code. (base + code) % 2 ^ 32) codes
values_of Sorted base codes = packing.values_of (kinds.Sorted base) codes

-- ---- blocks: `blocks` is their count, and not 0

-- how many bytes an end has, and a mark
abbrev pub end_size : List ℕ → ℕ
end_size rest = slice_index rest 0 % 16

abbrev pub mark_size : List ℕ → ℕ
mark_size rest = slice_index rest 0 / 16

-- the sum of the widths of the blocks 0 to m, and mark m
abbrev pub end_at : List ℕ → ℕ → ℕ
end_at rest = short_at (end_size rest) (drop 1 rest)

abbrev pub mark_at : ℕ → List ℕ → ℕ → ℕ
mark_at blocks rest = short_at (mark_size rest) (drop (1 + end_size rest * blocks) rest)

-- the end of the block before, 0 before the first
abbrev pub begin_at : List ℕ → ℕ → ℕ
begin_at rest zero = 0
begin_at rest (suc m) = end_at rest m

abbrev pub width_at : List ℕ → ℕ → ℕ
width_at rest m = end_at rest m - begin_at rest m

-- where the bodies begin, and body m
abbrev pub bodies_start : ℕ → List ℕ → ℕ
bodies_start blocks rest = 1 + (end_size rest + mark_size rest) * blocks

abbrev pub body_at : ℕ → List ℕ → ℕ → List ℕ
body_at blocks rest m = take (16 * width_at rest m) (drop (bodies_start blocks rest + 16 * begin_at rest m) rest)

-- the codes of block m, and its values
abbrev pub codes_at : ℕ → List ℕ → ℕ → List ℕ
codes_at blocks rest m = codes_of 4 (width_at rest m) (body_at blocks rest m)

module _ (kind : ColumnKind) (first : ℕ) where
  abbrev pub block_values : ℕ → List ℕ → ℕ → List ℕ
  block_values blocks rest m = values_of kind (base_of kind first (mark_at blocks rest) m) (codes_at blocks rest m)

-- ---- the tail

-- where it begins
abbrev pub tail_start : ℕ → List ℕ → ℕ
tail_start blocks rest = if blocks == 0 then 0 else bodies_start blocks rest + 16 * begin_at rest blocks

abbrev pub tail_at : ℕ → List ℕ → List ℕ
tail_at blocks rest = drop (tail_start blocks rest) rest

-- of a tail of `count` values: whether it has its least value, this value, and what is after it
abbrev pub least_size : ColumnKind → ℕ → List ℕ → ℕ
least_size Plain (suc more) tail = number_end tail
least_size kind count tail = 0

abbrev pub groups_at : ColumnKind → ℕ → List ℕ → List ℕ
groups_at kind count tail = drop (least_size kind count tail) tail

-- the codes of the groups, and all codes
abbrev pub coded : ColumnKind → ℕ → ℕ → ℕ
coded kind blocks count = count - left_out kind blocks count

abbrev pub tail_codes : ColumnKind → ℕ → ℕ → List ℕ → List ℕ
tail_codes kind blocks count tail =
    replicate (left_out kind blocks count) 0 ++ groups_codes (groups_of (coded kind blocks count)) (coded kind blocks count) (groups_at kind count tail)

module _ (kind : ColumnKind) (first : ℕ) where
  -- the values of a tail of `count` values after `blocks` blocks
  abbrev pub tail_values : ℕ → ℕ → List ℕ → List ℕ
  tail_values blocks count rest =
      let tail = tail_at blocks rest in
      values_of kind (tail_base kind first (mark_at blocks rest) blocks (number_value tail)) (tail_codes kind blocks count tail)

  -- all values of a column of `count`
  abbrev pub column_values : ℕ → List ℕ → List ℕ
  column_values count rest =
      flat_map (block_values kind first (count / 128) rest) (range_with_len 0 (count / 128)) ++ tail_values (count / 128) (count % 128) rest

-- the bytes after the groups
abbrev pub after_tail : ColumnKind → ℕ → ℕ → List ℕ → List ℕ
after_tail kind blocks count rest =
    after_groups (groups_of (coded kind blocks count)) (coded kind blocks count) (groups_at kind count (tail_at blocks rest))
