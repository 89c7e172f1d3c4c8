-- Columns: the one encoding of a list of integers below 2 ^ 32, plain or sorted.
use Rattle.std.specs.Prelude.{◌≡◌, ℕ, zero, suc, min, ◌+◌, ◌-◌, ◌*◌, ◌/◌, ◌%◌, ◌^◌, ◌≤◌, ◌==◌, nat_lt, if◌then◌else◌, List, [], ◌∷◌, ◌++◌, map, length, take, drop, slice_index}
use Rattle.std.specs.Int.{bit_at}
use Rattle.std.specs.List.{flat_map, range_with_len}
use Rattle.std.specs.List.Sorted.{IsNonDecreasing}
use Rattle.bitpacking.specs.Codes.{AreWords}
use Rattle.bitpacking.specs.Codes as packing
use Rattle.bitpacking.specs.declared.kind.Kind.TheVariants as kinds
use Rattle.bitpacking.specs.Words.{joined}
use Rattle.bitpack_columns.specs.declared.column_kind.ColumnKind.{ColumnKind}
use Rattle.bitpack_columns.specs.declared.column_kind.ColumnKind.TheVariants.{Plain, Sorted}
use Rattle.bitpack_columns.specs.Numbers.{byte_count, greatest, groups_of, number}
use Rattle.bitpack_groups.specs.Packed.{groups, le_bytes, least_width}

-- the list is a column of this kind
pub record IsColumn (kind : ColumnKind) (values : List ℕ) : Type 0 where
  pub few : length values ≤ 2 ^ 28
  pub words : AreWords values
  pub ordered : kind ≡ Sorted → IsNonDecreasing values

-- ---- blocks

-- the least of some words, the greatest word if there is none
unfoldable pub least : List ℕ → ℕ
least [] = 2 ^ 32 - 1
least (x ∷ xs) = min x (least xs)

-- the values of block m, and what is left after `blocks` blocks
abbrev pub block_of : ℕ → List ℕ → List ℕ
block_of m values = take 128 (drop (128 * m) values)

abbrev pub tail_of : ℕ → List ℕ → List ℕ
tail_of blocks values = drop (128 * blocks) values

-- the mark of a block: its least value, or if the column is sorted its last one
abbrev pub mark_of : ColumnKind → List ℕ → ℕ
mark_of Plain block = least block
mark_of Sorted block = slice_index block 127

-- what the codes of block m count from, by the marks of all blocks: its own mark, or if the column is sorted the last value before it
abbrev pub base_of : ColumnKind → ℕ → (ℕ → ℕ) → ℕ → ℕ
base_of Plain first mark m = mark m
base_of Sorted first mark zero = first
base_of Sorted first mark (suc m) = mark m

-- the code of each value: its difference to the base, or to the value before it
abbrev pub codes : ColumnKind → ℕ → List ℕ → List ℕ
codes Plain base values = map (λ value. value - base) values
codes Sorted base values = packing.codes (kinds.Sorted base) values

-- bit t of the body of a block: the codes of lane k % 4 follow each other, from the lowest bit on, in every fourth word of 32 bits
abbrev pub body_bit : ℕ → List ℕ → ℕ → ℕ
body_bit width codes t =
    let p = 32 * (t / 128) + t % 32 in
    bit_at (slice_index codes (4 * (p / width) + t / 32 % 4)) (p % width)

-- the bytes of 128 codes at a width
unfoldable pub packed_block : ℕ → List ℕ → List ℕ
packed_block width codes = map (λ i. joined 1 (λ j. body_bit width codes (8 * i + j)) 8) (range_with_len 0 (16 * width))

-- the sum of the first n numbers
unfoldable pub sum_to : (ℕ → ℕ) → ℕ → ℕ
sum_to number zero = 0
sum_to number (suc n) = sum_to number n + number n

-- ---- the tail

-- how many codes of the tail are 0 and left out: the code of a single value of a plain column, and of the first value of a sorted one
abbrev pub left_out : ColumnKind → ℕ → ℕ → ℕ
left_out Plain blocks count = if count == 1 then 1 else 0
left_out Sorted blocks count = if blocks == 0 then min 1 count else 0

-- what the codes of the tail count from: its least value, or if the column is sorted the last value before it
abbrev pub tail_base : ColumnKind → ℕ → (ℕ → ℕ) → ℕ → ℕ → ℕ
tail_base Plain first mark blocks least = least
tail_base Sorted first mark blocks least = base_of Sorted first mark blocks

-- the least value of a tail, which a plain column has
abbrev pub least_encoding : ColumnKind → List ℕ → List ℕ
least_encoding Sorted tail = []
least_encoding Plain [] = []
least_encoding Plain (x ∷ xs) = number (least (x ∷ xs))

-- ---- the encoding of a column

abbrev pub kind_bit : ColumnKind → ℕ
kind_bit Plain = 0
kind_bit Sorted = 1

-- the first value, which a sorted column has
abbrev pub first_encoding : ColumnKind → List ℕ → List ℕ
first_encoding Plain values = []
first_encoding Sorted [] = []
first_encoding Sorted (x ∷ xs) = number x

module _ (kind : ColumnKind) (values : List ℕ) where
  -- the count of whole blocks, and the first value
  abbrev pub blocks : ℕ
  blocks = length values / 128

  abbrev pub first : ℕ
  first = slice_index values 0

  -- of block m its mark, its codes and their least width; and the end of its body, in bytes of its four lanes
  abbrev pub mark_in : ℕ → ℕ
  mark_in m = mark_of kind (block_of m values)

  abbrev pub codes_in : ℕ → List ℕ
  codes_in m = codes kind (base_of kind first mark_in m) (block_of m values)

  abbrev pub width_in : ℕ → ℕ
  width_in m = least_width (codes_in m)

  abbrev pub end_in : ℕ → ℕ
  end_in m = sum_to width_in (suc m)

  -- how many bytes an end has, and a mark
  abbrev pub end_bytes : ℕ
  end_bytes = byte_count (sum_to width_in blocks)

  abbrev pub mark_bytes : ℕ
  mark_bytes = byte_count (greatest mark_in blocks)

  -- the sizes, the ends, the marks and the bodies of the blocks
  unfoldable pub blocks_encoding : List ℕ
  blocks_encoding =
      (end_bytes + 16 * mark_bytes) ∷ flat_map (λ m. le_bytes end_bytes (end_in m)) (range_with_len 0 blocks)
      ++ flat_map (λ m. le_bytes mark_bytes (mark_in m)) (range_with_len 0 blocks)
      ++ flat_map (λ m. packed_block (width_in m) (codes_in m)) (range_with_len 0 blocks)

  -- the codes of the tail
  abbrev pub tail : List ℕ
  tail = tail_of blocks values

  abbrev pub tail_codes : List ℕ
  tail_codes = codes kind (tail_base kind first mark_in blocks (least tail)) tail

  -- the tail: its least value, if the column is plain, and its codes in groups
  unfoldable pub tail_encoding : List ℕ
  tail_encoding =
      let coded = drop (left_out kind blocks (length tail)) tail_codes in
      least_encoding kind tail ++ groups (groups_of (length coded)) coded

  -- byte 0 with the kind and the count if it is below 31, else the count after it, and the first value of a sorted column
  unfoldable pub header_encoding : List ℕ
  header_encoding =
      (64 + 32 * kind_bit kind + min (length values) 31) ∷ (if nat_lt (length values) 31 then [] else number (length values)) ++ first_encoding kind values

  -- the encoding of a column
  unfoldable pub encoding : List ℕ
  encoding = header_encoding ++ (if blocks == 0 then [] else blocks_encoding) ++ tail_encoding
