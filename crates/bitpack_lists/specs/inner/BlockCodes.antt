-- What a block of an opened list has instead of its values.
use Rattle.std.specs.Prelude.{ℕ, List}
use Rattle.bitpacking.specs.declared.bit_packer.BitPacker.{Ghosts}
use Rattle.bitpacking.specs.Layout.{codes_of}
use Rattle.bitpack_lists.specs.declared.blocks.reads.PackedList.{PackedList}
use Rattle.bitpack_lists.specs.Opened.{blocks_of, rest_of}
use Rattle.bitpack_lists.specs.Version2.{body_at, width_at}

-- the codes of each whole block
abbrev pub codes_of_list : {P : Type 0} {members : Ghosts P} → PackedList P members → ℕ → List ℕ
codes_of_list {members = members} list block =
    codes_of members.lanes (width_at (rest_of list) block) (body_at members.lanes (blocks_of list) (rest_of list) block)
