-- Wide columns: the one encoding of a list of values below 2 ^ 64. Any of them may be missing.
use Rattle.std.specs.Prelude.{ℕ, min, max, ◌+◌, ◌-◌, ◌*◌, ◌/◌, ◌%◌, ◌^◌, ◌<◌, ◌≤◌, Bool, true, ◌&&◌, nat_lt, nat_le, if◌then◌else◌, List, [], ◌∷◌, ◌++◌, map, length, take, drop, slice_index, Option, Some, None}
use Rattle.std.specs.List.{concat, flat_map, range_with_len}
use Rattle.bitpack_groups.specs.Numbers.{byte_count, number}
use Rattle.bitpack_groups.specs.Packed.{le_bytes}
use Rattle.bitpack_sets.specs.Sets as sets
use Rattle.bitpack_sets.specs.Sets.{sums}
use Rattle.bitpack_columns.specs.Columns as columns
use Rattle.bitpack_columns.specs.declared.column_kind.ColumnKind.{ColumnKind}
use Rattle.bitpack_columns.specs.declared.column_kind.ColumnKind.TheVariants.{Plain, Sorted}

-- the values that are there
unfoldable pub there : List (Option ℕ) → List ℕ
there [] = []
there (None ∷ values) = there values
there (Some value ∷ values) = value ∷ there values

-- the list is a wide column
pub record IsWideColumn (values : List (Option ℕ)) : Type 0 where
  pub few : length values ≤ 2 ^ 28
  pub small : (k : ℕ) → k < length (there values) → slice_index (there values) k < 2 ^ 64

-- the positions of the missing values; the first of the values has this position
unfoldable pub missing_from : ℕ → List (Option ℕ) → List ℕ
missing_from position [] = []
missing_from position (None ∷ values) = position ∷ missing_from (position + 1) values
missing_from position (Some value ∷ values) = missing_from (position + 1) values

-- no number is below the one before it, and the first is not below this one
unfoldable pub rise_from : ℕ → List ℕ → Bool
rise_from before [] = true
rise_from before (x ∷ xs) = nat_le before x && rise_from x xs

abbrev pub are_in_order : List ℕ → Bool
are_in_order xs = rise_from 0 xs

-- ---- chunks

-- how many chunks hold this many values, and the values of chunk m
abbrev pub chunks_of : ℕ → ℕ
chunks_of count = (count + 65535) / 65536

unfoldable pub chunk_of : ℕ → List (Option ℕ) → List (Option ℕ)
chunk_of m values = take 65536 (drop (65536 * m) values)

-- a number for each value: a missing one has the one before it
unfoldable pub filled : ℕ → List (Option ℕ) → List ℕ
filled before [] = []
filled before (None ∷ values) = before ∷ filled before values
filled before (Some value ∷ values) = value ∷ filled value values

-- at the start of a chunk a missing value has the first that is there; all have 0 if none is there
abbrev pub numbers : List (Option ℕ) → List ℕ
numbers chunk = filled (slice_index (there chunk) 0) chunk

-- the least of some numbers below 2 ^ 64, the greatest of these if there is none; and the greatest, 0 if there is none
unfoldable pub least : List ℕ → ℕ
least [] = 2 ^ 64 - 1
least (x ∷ xs) = min x (least xs)

unfoldable pub greatest : List ℕ → ℕ
greatest [] = 0
greatest (x ∷ xs) = max x (greatest xs)

-- the numbers less the least of them
abbrev pub differences : List ℕ → List ℕ
differences xs = map (λ x. x - least xs) xs

-- a column of numbers, sorted if it can be
abbrev pub kind_for : List ℕ → ColumnKind
kind_for xs = if are_in_order xs then Sorted else Plain

unfoldable pub column : List ℕ → List ℕ
column xs = columns.encoding (kind_for xs) xs

-- numbers that are this far apart at most have a high part
abbrev pub has_high : ℕ → Bool
has_high range = nat_lt (2 ^ 32 - 1) range

-- the bounds of a chunk of these numbers, and its parts
abbrev pub bounds : List ℕ → List ℕ
bounds xs = least xs ∷ greatest xs ∷ []

abbrev pub low : List ℕ → List ℕ
low xs = column (map (λ d. d % 2 ^ 32) (differences xs))

abbrev pub high : List ℕ → List ℕ
high xs = if has_high (greatest xs - least xs) then column (map (λ d. d / 2 ^ 32) (differences xs)) else []

-- ---- the encoding of a wide column

-- the least count of bytes, from 1 to 8, that hold a number below 2 ^ 64
abbrev pub wide_byte_count : ℕ → ℕ
wide_byte_count x = if nat_lt x (2 ^ 32) then byte_count x else 4 + byte_count (x / 2 ^ 32)

module _ (values : List (Option ℕ)) where
  -- the numbers of chunk m
  abbrev pub numbers_in : ℕ → List ℕ
  numbers_in m = numbers (chunk_of m values)

  -- the bounds of all chunks, and the parts
  abbrev pub all_bounds : List ℕ
  all_bounds = flat_map (λ m. bounds (numbers_in m)) (range_with_len 0 (chunks_of (length values)))

  abbrev pub parts : List (List ℕ)
  parts = sets.encoding (missing_from 0 values) ∷ flat_map (λ m. low (numbers_in m) ∷ high (numbers_in m) ∷ []) (range_with_len 0 (chunks_of (length values)))

  abbrev pub form : ℕ
  form = if are_in_order (there values) then 11 else 10

  unfoldable pub encoding : List ℕ
  encoding =
      let end_size = byte_count (length (concat parts)) in
      let bound_size = wide_byte_count (greatest all_bounds) in
      form ∷ number (length values) ++ (end_size + 16 * bound_size) ∷ flat_map (le_bytes bound_size) all_bounds
      ++ flat_map (le_bytes end_size) (sums 0 (map length parts)) ++ concat parts
