-- Packed lists of version 2: the header, a skip entry for each whole block, the bodies of the blocks, and the tail's values. The
-- values are in the order of their kind. What is after the header is called the rest of the bytes.
use Rattle.std.specs.Prelude.{◌≡◌, ℕ, zero, suc, ◌+◌, ◌-◌, ◌*◌, ◌<◌, ◌≤◌, Bool, false, not, ◌&&◌, ◌==◌, nat_lt, nat_le, if◌then◌else◌, List, [], ◌∷◌, ◌++◌, length, take, drop, slice_index, Option, Some, None}
use Rattle.std.specs.Option.{option_or, option_map}
use Rattle.bitpacking.specs.declared.kind.Kind.{Kind}
use Rattle.bitpacking.specs.Codes.{AreWords, values_of}
use Rattle.bitpacking.specs.Width.{IsWidth}
use Rattle.bitpacking.specs.Layout.{codes_of, size, Holds}
use Rattle.bitpacking.specs.Words.{bytes_of_words, word}
use Rattle.bitpack_lists.specs.declared.list_kind.ListKind.{ListKind}
use Rattle.bitpack_lists.specs.declared.list_kind.ListKind.TheVariants as lists
use Rattle.bitpack_lists.specs.declared.list_error.ListError.{ListError}
use Rattle.bitpack_lists.specs.declared.list_error.ListError.TheVariants.{Short, BadWidth, LooseWidth, BadOffset, BadLast, NotSorted, Trailing}
use Rattle.bitpack_lists.specs.Parts.{BeginsWithHeader, count_of, header_fault, is_loose, kind_after, kind_of_byte, tail_values, value_in_parts, whole_blocks}

-- ---- the order of a list

-- the value at a position is out of order: it is below the one before it, or in a strict list not above it
abbrev pub is_out : ListKind → (ℕ → ℕ) → ℕ → Bool
is_out lists.Plain value position = false
is_out lists.Sorted value position = nat_lt 0 position && nat_lt (value position) (value (position - 1))
is_out lists.StrictlySorted value position = nat_lt 0 position && nat_le (value position) (value (position - 1))

-- the least number below a bound that passes a test
unfoldable pub least_below : (ℕ → Bool) → ℕ → Option ℕ
least_below test zero = None
least_below test (suc bound) = option_or (least_below test bound) (if test bound then Some bound else None)

-- the first position out of order
abbrev pub first_out : ListKind → List ℕ → Option ℕ
first_out kind values = least_below (is_out kind (slice_index values)) (length values)

-- ---- the parts of the rest of the bytes, and their offsets

-- the skip entry of a block: its width, the sum of the widths before it, and its last value
abbrev pub width_at : List ℕ → ℕ → ℕ
width_at rest block = slice_index rest (9 * block)

abbrev pub offset_at : List ℕ → ℕ → ℕ
offset_at rest block = word (drop (9 * block + 1) rest) 0

abbrev pub last_at : List ℕ → ℕ → ℕ
last_at rest block = word (drop (9 * block + 5) rest) 0

-- the sum of the widths of the blocks before one
abbrev pub widths_before : List ℕ → ℕ → ℕ
widths_before rest zero = 0
widths_before rest (suc block) = widths_before rest block + width_at rest block

-- the kind of a block: it goes on from the last value that the skip entry before has
abbrev pub kind_at : ListKind → List ℕ → ℕ → Kind
kind_at kind rest = kind_after kind (last_at rest)

-- the body of a block, in a list of `blocks` blocks
abbrev pub body_start : ℕ → ℕ → List ℕ → ℕ → ℕ
body_start lanes blocks rest block = 9 * blocks + 4 * lanes * offset_at rest block

abbrev pub body_at : ℕ → ℕ → List ℕ → ℕ → List ℕ
body_at lanes blocks rest block = take (size lanes (width_at rest block)) (drop (body_start lanes blocks rest block) rest)

-- the widths and bodies before a block, each body after its width, as version 1 has them
abbrev pub parts_before : ℕ → ℕ → List ℕ → ℕ → List ℕ
parts_before lanes blocks rest zero = []
parts_before lanes blocks rest (suc block) = parts_before lanes blocks rest block ++ width_at rest block ∷ body_at lanes blocks rest block

-- where the tail begins
abbrev pub tail_start : ℕ → ℕ → List ℕ → ℕ
tail_start lanes blocks rest = 9 * blocks + 4 * lanes * widths_before rest blocks

-- ---- the encoded list

-- a block of the values
abbrev pub block_of : ℕ → List ℕ → ℕ → List ℕ
block_of lanes values block = take (32 * lanes) (drop (32 * lanes * block) values)

-- the skip entry of a block is right
pub record IsEntry2 (lanes : ℕ) (kind : ListKind) (values rest : List ℕ) (block : ℕ) : Type 0 where
  pub least : IsWidth (kind_at kind rest block) (block_of lanes values block) (width_at rest block)
  pub offset : offset_at rest block ≡ widths_before rest block
  pub last : last_at rest block ≡ slice_index (block_of lanes values block) (32 * lanes - 1)

-- the body holds the block
abbrev pub IsBody2 : ℕ → ℕ → ListKind → List ℕ → List ℕ → ℕ → Type 0
IsBody2 lanes blocks kind values rest block =
    Holds lanes (width_at rest block) (kind_at kind rest block) (block_of lanes values block) (body_at lanes blocks rest block)

-- `blocks` whole blocks of the values are in the rest of a list
pub record HasBlocks (lanes blocks : ℕ) (kind : ListKind) (values rest : List ℕ) : Type 0 where
  pub entries : (block : ℕ) → block < blocks → IsEntry2 lanes kind values rest block
  pub bodies : (block : ℕ) → block < blocks → IsBody2 lanes blocks kind values rest block
  pub room : tail_start lanes blocks rest ≤ length rest

-- the rest of the bytes of values that have `blocks` whole blocks
pub record IsRest2 (lanes blocks : ℕ) (kind : ListKind) (values rest : List ℕ) : Type 0 where
  pub whole : HasBlocks lanes blocks kind values rest
  pub tail : drop (tail_start lanes blocks rest) rest ≡ bytes_of_words (drop (32 * lanes * blocks) values)

-- the values are words in order, and the bytes encode them
pub record List2 (lanes : ℕ) (kind : ListKind) (values bytes : List ℕ) : Type 0 where
  pub words : AreWords values
  pub ordered : first_out kind values ≡ None
  pub begins : BeginsWithHeader 2 lanes kind (length values) bytes
  pub rest : IsRest2 lanes (whole_blocks lanes (length values)) kind values (drop 7 bytes)

-- ---- the values that the rest of the bytes encodes

-- a block, in a list of `blocks` blocks
abbrev pub block_at : ℕ → ℕ → ListKind → List ℕ → ℕ → List ℕ
block_at lanes blocks kind rest block = values_of (kind_at kind rest block) (codes_of lanes (width_at rest block) (body_at lanes blocks rest block))

-- the value at a position, of `blocks` blocks and a tail
abbrev pub value_with : ℕ → ℕ → ListKind → List ℕ → (ℕ → ℕ) → ℕ → ℕ
value_with lanes blocks kind rest = value_in_parts lanes blocks (block_at lanes blocks kind rest)

-- and of the tail that follows the bodies as words
abbrev pub value_at : ℕ → ℕ → ListKind → List ℕ → ℕ → ℕ
value_at lanes blocks kind rest = value_with lanes blocks kind rest (word (drop (tail_start lanes blocks rest) rest))

-- ---- the first fault of bytes

-- of the first block that has one
unfoldable pub first_fault : (ℕ → Option ListError) → ℕ → Option ListError
first_fault fault zero = None
first_fault fault (suc blocks) = option_or (first_fault fault blocks) (fault blocks)

-- of a skip entry
unfoldable pub entry_fault2 : List ℕ → ℕ → Option ListError
entry_fault2 rest block =
    if nat_lt 32 (width_at rest block) then Some (BadWidth block (width_at rest block))
    else if not (offset_at rest block == widths_before rest block) then Some (BadOffset block)
    else None

-- of the body of a block that has this kind, width and last value
unfoldable pub block_fault2 : ℕ → Kind → ℕ → ℕ → ℕ → List ℕ → Option ListError
block_fault2 lanes kind block width last body =
    if is_loose lanes width body then Some (LooseWidth block width)
    else if not (slice_index (values_of kind (codes_of lanes width body)) (32 * lanes - 1) == last) then Some (BadLast block)
    else None

-- of the body of a block, in a list of `blocks` blocks
abbrev pub body_fault2 : ℕ → ℕ → ListKind → List ℕ → ℕ → Option ListError
body_fault2 lanes blocks kind rest block =
    block_fault2 lanes (kind_at kind rest block) block (width_at rest block) (last_at rest block) (body_at lanes blocks rest block)

-- of bytes that end before an offset, or after it
abbrev pub short_of : ℕ → List ℕ → Option ListError
short_of end bytes = if nat_lt (length bytes) end then Some Short else None

abbrev pub trailing_after : ℕ → List ℕ → Option ListError
trailing_after end bytes = if nat_lt end (length bytes) then Some Trailing else None

-- of `blocks` blocks, after which a tail has at least `tail` bytes
abbrev pub blocks_fault : ℕ → ℕ → ℕ → ListKind → List ℕ → Option ListError
blocks_fault lanes blocks tail kind rest =
    option_or (short_of (9 * blocks + tail) rest)
    (option_or (first_fault (entry_fault2 rest) blocks)
    (option_or (short_of (tail_start lanes blocks rest + tail) rest)
    (first_fault (body_fault2 lanes blocks kind rest) blocks)))

-- of values in a list
abbrev pub order_fault : ListKind → (ℕ → ℕ) → ℕ → Option ListError
order_fault kind value count = option_map NotSorted (least_below (is_out kind value) count)

-- of what is after the header of `count` values
unfoldable pub rest_fault2 : ℕ → ListKind → ℕ → List ℕ → Option ListError
rest_fault2 lanes kind count rest =
    let blocks = whole_blocks lanes count in
    let tail = 4 * tail_values lanes count in
    option_or (blocks_fault lanes blocks tail kind rest)
    (option_or (order_fault kind (value_at lanes blocks kind rest) count)
    (trailing_after (tail_start lanes blocks rest + tail) rest))

-- of a version 2 list
unfoldable pub fault2 : ℕ → List ℕ → Option ListError
fault2 lanes bytes =
    option_or (header_fault 2 lanes bytes) (rest_fault2 lanes (kind_of_byte (slice_index bytes 1)) (count_of bytes) (drop 7 bytes))
