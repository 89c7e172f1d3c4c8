-- Slices of a body, and some numbers of a slice.
use Rattle.std.specs.Prelude.{ℕ, ◌+◌, ◌/◌, ◌&&◌, List, drop, map, slice_index, take}
use Rattle.bitpack_slices.specs.Bitmaps.{has_bit}
use Rattle.bitpack_slices.specs.Operations.{apply, those}
use Rattle.bitpack_slices.specs.Reads.{has}
use Rattle.bitpack_slices.specs.Slices.{numbers_of, ones_from, slice_len, slice_numbers}
use Rattle.bitpack_slices.specs.declared.blocks.Blocks.{Blocks}
use Rattle.bitpack_slices.specs.declared.operation.Operation.{Operation}
use Rattle.bitpack_slices.specs.declared.slice.Slice.{Slice}

-- the bytes and the numbers of a slice
abbrev pub bytes_of : Slice → List ℕ
bytes_of slice = take (slice_len slice.count) (drop slice.start slice.slices.now)

abbrev pub numbers_at : Slice → List ℕ
numbers_at slice = slice_numbers slice.count (bytes_of slice)

-- the bytes whose bit is 1
abbrev pub matched : ℕ → List ℕ → List ℕ
matched matches bytes = map (slice_index bytes) (ones_from matches 0 32)

-- the numbers of the parts of a body
abbrev pub parts_numbers : Blocks → List ℕ
parts_numbers parts = numbers_of (those 256 (has_bit parts.highs)) parts.counts.now parts.slices.now

-- the high bytes that are bits of a word, whose bit 0 is the first
abbrev pub word_highs : ℕ → ℕ → List ℕ
word_highs first word = map (λ i. first + i) (ones_from word 0 64)

-- the numbers of the answer of two bodies that have one of these high bytes
abbrev pub answer_with : List ℕ → Operation → Blocks → Blocks → List ℕ
answer_with highs operation a b = those 65536 (λ x. has (x / 256) highs && apply operation (has x (parts_numbers a)) (has x (parts_numbers b)))
