-- What a packed list that was opened shows: its bytes, its kind and its values.
use Rattle.std.specs.Prelude.{ℕ, List, map}
use Rattle.std.specs.List.{range_with_len}
use Rattle.bitpacking.specs.declared.bit_packer.BitPacker.{Ghosts}
use Rattle.bitpack_lists.specs.declared.blocks.reads.PackedList.{PackedList}
use Rattle.bitpack_lists.specs.declared.list_kind.ListKind.{ListKind}
use Rattle.bitpack_lists.specs.Parts.{whole_blocks}
use Rattle.bitpack_lists.specs.Version2.{value_at}

module _ {P : Type 0} {members : Ghosts P} (list : PackedList P members) where
  -- the count of whole blocks, and what is after the header
  abbrev pub blocks_of : ℕ
  blocks_of = whole_blocks members.lanes list.count

  abbrev pub rest_of : List ℕ
  rest_of = list.rest.now

  -- the value at each position
  abbrev pub value_of : ℕ → ℕ
  value_of = value_at members.lanes blocks_of list.kind rest_of

-- the bytes that were opened
abbrev pub encoding : {P : Type 0} {members : Ghosts P} → PackedList P members → List ℕ
encoding list = list.bytes.now

-- its kind
abbrev pub kind_of : {P : Type 0} {members : Ghosts P} → PackedList P members → ListKind
kind_of list = list.kind

-- the numbers that a function returns at the positions below a count
unfoldable pub first_of : (ℕ → ℕ) → ℕ → List ℕ
first_of value count = map value (range_with_len 0 count)

-- its values
abbrev pub values : {P : Type 0} {members : Ghosts P} → PackedList P members → List ℕ
values list = first_of (value_of list) list.count
