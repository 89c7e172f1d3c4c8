-- What a reader finds in the bytes of a wide column. The rest is what is after the count of values.
use Rattle.std.specs.Prelude.{ℕ, min, ◌+◌, ◌-◌, ◌*◌, ◌/◌, ◌%◌, ◌^◌, Bool, if◌then◌else◌, List, [], map, take, drop, slice_index, Option, Some, None}
use Rattle.std.specs.List.{range_with_len}
use Rattle.bitpack_groups.specs.Numbers.{number_end, number_value, short_at}
use Rattle.bitpack_slices.specs.Reads.{has}
use Rattle.bitpack_sets.specs.Directory.{before}
use Rattle.bitpack_sets.specs.Reads as sets
use Rattle.bitpack_columns.specs.Stated as columns
use Rattle.bitpack_wide.specs.WideColumns.{chunks_of, has_high}

-- how many bytes an end has, and a bound
abbrev pub end_size : List ℕ → ℕ
end_size rest = slice_index rest 0 % 16

abbrev pub bound_size : List ℕ → ℕ
bound_size rest = slice_index rest 0 / 16

-- where the ends begin, and the parts
abbrev pub ends_start : ℕ → List ℕ → ℕ
ends_start chunks rest = 1 + bound_size rest * (2 * chunks)

abbrev pub parts_start : ℕ → List ℕ → ℕ
parts_start chunks rest = ends_start chunks rest + end_size rest * (2 * chunks + 1)

-- the least and the greatest value of chunk m
abbrev pub bound_at : List ℕ → ℕ → ℕ
bound_at rest = short_at (bound_size rest) (drop 1 rest)

abbrev pub least_at : List ℕ → ℕ → ℕ
least_at rest m = bound_at rest (2 * m)

abbrev pub greatest_at : List ℕ → ℕ → ℕ
greatest_at rest m = bound_at rest (2 * m + 1)

-- end j, and part j
abbrev pub end_at : ℕ → List ℕ → ℕ → ℕ
end_at chunks rest = short_at (end_size rest) (drop (ends_start chunks rest) rest)

abbrev pub part_at : ℕ → List ℕ → ℕ → List ℕ
part_at chunks rest j =
    take (end_at chunks rest j - before (end_at chunks rest) j) (drop (parts_start chunks rest + before (end_at chunks rest) j) rest)

-- where the last part ends
abbrev pub parts_end : ℕ → List ℕ → ℕ
parts_end chunks rest = parts_start chunks rest + before (end_at chunks rest) (2 * chunks + 1)

-- ---- values

-- the positions of the missing values
abbrev pub missing_in : ℕ → List ℕ → List ℕ
missing_in chunks rest = sets.ids_in (part_at chunks rest 0)

-- the bounds of chunk m are so far apart that it has a high part
abbrev pub is_high : List ℕ → ℕ → Bool
is_high rest m = has_high (greatest_at rest m - least_at rest m)

-- the numbers of the two parts of chunk m
unfoldable pub lows_at : ℕ → List ℕ → ℕ → List ℕ
lows_at chunks rest m = columns.values_in (part_at chunks rest (2 * m + 1))

unfoldable pub highs_at : ℕ → List ℕ → ℕ → List ℕ
highs_at chunks rest m = if is_high rest m then columns.values_in (part_at chunks rest (2 * m + 2)) else []

-- the number at a position of chunk m: the difference of its value to the least one
abbrev pub difference_at : ℕ → List ℕ → ℕ → ℕ → ℕ
difference_at chunks rest m k = slice_index (lows_at chunks rest m) k + 2 ^ 32 * slice_index (highs_at chunks rest m) k

-- how many positions chunk m of `count` values has
abbrev pub len_at : ℕ → ℕ → ℕ
len_at count m = min 65536 (count - 65536 * m)

module _ (count : ℕ) (rest : List ℕ) where
  -- position k of chunk m has no value
  abbrev pub is_missing : ℕ → ℕ → Bool
  is_missing m k = has (65536 * m + k) (missing_in (chunks_of count) rest)

  -- the value at a position, and all values
  abbrev pub value_at : ℕ → Option ℕ
  value_at position =
      let m = position / 65536 in
      if is_missing m (position % 65536) then None else Some (least_at rest m + difference_at (chunks_of count) rest m (position % 65536))

  unfoldable pub values_at : List (Option ℕ)
  values_at = map value_at (range_with_len 0 count)

-- ---- of all bytes: the count of values, what is after it, and the values

abbrev pub count_in : List ℕ → ℕ
count_in bytes = number_value (drop 1 bytes)

abbrev pub rest_in : List ℕ → List ℕ
rest_in bytes = drop (number_end (drop 1 bytes)) (drop 1 bytes)

abbrev pub values_in : List ℕ → List (Option ℕ)
values_in bytes = values_at (count_in bytes) (rest_in bytes)
