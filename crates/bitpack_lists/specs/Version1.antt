-- Packed lists of version 1: the header, each whole block as its least width and its bytes, and the tail's values.
use Rattle.std.specs.Prelude.{◌≡◌, ℕ, zero, suc, ◌+◌, ◌*◌, ◌≤◌, List, [], ◌∷◌, ◌++◌, length, take, drop, slice_index, false, nat_lt, if◌then◌else◌, Option, Some, None}
use Rattle.std.specs.Option.{option_or}
use Rattle.bitpacking.specs.declared.kind.Kind.{Kind}
use Rattle.bitpacking.specs.Codes.{AreWords}
use Rattle.bitpacking.specs.Width.{IsWidth}
use Rattle.bitpacking.specs.Layout.{size, Holds}
use Rattle.bitpacking.specs.Words.{bytes_of_words}
use Rattle.bitpack_lists.specs.declared.list_kind.ListKind.{ListKind}
use Rattle.bitpack_lists.specs.declared.list_error.ListError.{ListError}
use Rattle.bitpack_lists.specs.declared.list_error.ListError.TheVariants.{Short, BadWidth, LooseWidth, Trailing}
use Rattle.bitpack_lists.specs.Chains.{second_kind}
use Rattle.bitpack_lists.specs.Parts.{header_fault, count_of, whole_blocks, tail_values, first_kind, is_loose, BeginsWithHeader}

-- ---- the encoded list

-- a block as its least width and the bytes that hold it
pub record IsPart1 (lanes : ℕ) (kind : Kind) (block part : List ℕ) : Type 0 where
  pub width : ℕ
  pub body : List ℕ
  pub least : IsWidth kind block width
  pub holds : Holds lanes width kind block body
  pub parts : part ≡ width ∷ body

-- the parts of a number of whole blocks, and the tail's values
abbrev pub Blocks1 : ℕ → ℕ → Kind → List ℕ → List ℕ → Type 0
Blocks1 lanes zero kind values bytes = bytes ≡ bytes_of_words values
Blocks1 lanes (suc count) kind values bytes =
    (part : List ℕ) × (rest : List ℕ) × (bytes ≡ part ++ rest)
    × IsPart1 lanes kind (take (32 * lanes) values) part
    × Blocks1 lanes count (second_kind lanes kind values) (drop (32 * lanes) values) rest

-- the bytes are the part of a block of words and then these others, and the block after it has this kind
abbrev pub IsRead1 : ℕ → Kind → List ℕ → List ℕ → Kind → List ℕ → Type 0
IsRead1 lanes kind block bytes next rest =
    (part : List ℕ) × AreWords block × IsPart1 lanes kind block part × (bytes ≡ part ++ rest) × (next ≡ second_kind lanes kind block)

-- the values are words, and the bytes encode them
pub record List1 (lanes : ℕ) (kind : ListKind) (values bytes : List ℕ) : Type 0 where
  pub words : AreWords values
  pub begins : BeginsWithHeader 1 lanes kind (length values) bytes
  pub blocks : Blocks1 lanes (whole_blocks lanes (length values)) (first_kind kind) values (drop 7 bytes)

-- ---- the first fault of bytes

-- of the block whose width byte is due at the front of the bytes
unfoldable pub block_fault1 : ℕ → ℕ → List ℕ → Option ListError
block_fault1 lanes block [] = Some Short
block_fault1 lanes block (width ∷ bytes) =
    if nat_lt 32 width then Some (BadWidth block width)
    else if nat_lt (length bytes) (size lanes width) then Some Short
    else if is_loose lanes width (take (size lanes width) bytes) then Some (LooseWidth block width)
    else None

-- the bytes begin with a block without a fault
pub record IsRight (lanes : ℕ) (bytes : List ℕ) : Type 0 where
  pub some : 1 ≤ length bytes
  pub narrow : slice_index bytes 0 ≤ 32
  pub room : size lanes (slice_index bytes 0) ≤ length (drop 1 bytes)
  pub least : is_loose lanes (slice_index bytes 0) (take (size lanes (slice_index bytes 0)) (drop 1 bytes)) ≡ false

-- the bytes after that block
abbrev pub after_block1 : ℕ → List ℕ → List ℕ
after_block1 lanes [] = []
after_block1 lanes (width ∷ bytes) = drop (size lanes width) bytes

-- of a number of blocks, the first of them with the number `block`, and of the tail, which has `tail` bytes
unfoldable pub blocks_fault1 : ℕ → ℕ → ℕ → ℕ → List ℕ → Option ListError
blocks_fault1 lanes tail block zero bytes =
    if nat_lt (length bytes) tail then Some Short
    else if nat_lt tail (length bytes) then Some Trailing
    else None
blocks_fault1 lanes tail block (suc count) bytes =
    option_or (block_fault1 lanes block bytes) (blocks_fault1 lanes tail (block + 1) count (after_block1 lanes bytes))

-- the blocks of `count` values and their tail have no fault
abbrev pub IsSound1 : ℕ → ℕ → List ℕ → Type 0
IsSound1 lanes count bytes = blocks_fault1 lanes (4 * tail_values lanes count) 0 (whole_blocks lanes count) bytes ≡ None

-- of what comes after the header of `count` values: a byte for each block and the tail are there, and each block is right
unfoldable pub body_fault1 : ℕ → ℕ → List ℕ → Option ListError
body_fault1 lanes count bytes =
    let blocks = whole_blocks lanes count in
    let tail = 4 * tail_values lanes count in
    if nat_lt (length bytes) (blocks + tail) then Some Short else blocks_fault1 lanes tail 0 blocks bytes

-- of a version 1 list
unfoldable pub fault1 : ℕ → List ℕ → Option ListError
fault1 lanes bytes = option_or (header_fault 1 lanes bytes) (body_fault1 lanes (count_of bytes) (drop 7 bytes))
