-- What the steps of a search promise each other.
use Rattle.std.specs.Prelude.{◌≡◌, ℕ, ◌+◌, ◌^◌, ◌<◌, ◌≤◌, List, length, slice_index, Option, IfSome}
use Rattle.bitpacking.specs.declared.bit_packer.BitPacker.{Ghosts}
use Rattle.bitpack_lists.specs.declared.opened.ListBlock.{ListBlock}
use Rattle.bitpack_lists.specs.declared.blocks.reads.PackedList.{PackedList}
use Rattle.bitpack_lists.specs.declared.blocks.reads.Reads.{Reads}
use Rattle.bitpack_lists.specs.Opened.{blocks_of}
use Rattle.bitpack_lists.specs.Search.{first_reaching}
use Rattle.bitpack_lists.specs.inner.Searching.{IsFirstFrom, ReadsEntries}

-- the first whole block whose skip key is the target or more was found, and each skip key that was read halved the blocks
pub record HalvesTo {P : Type 0} {members : Ghosts P} (list : PackedList P members) (target : ℕ) (answer : Option ListBlock) (old new : Reads) : Type 0 where
  pub found : IsFirstFrom list target 0 answer
  pub halves : (digits : ℕ) → blocks_of list < 2 ^ digits → new.entries ≤ old.entries + digits
  pub reads : ReadsEntries old new

-- the first of the values, which are those from a position on, that is at least the target, with its position; those before the position
-- are below the target
pub record IsFirstIn (values : List ℕ) (start target : ℕ) (answer : Option (ℕ × ℕ)) : Type 0 where
  pub within : IfSome answer (λ found. (start ≤ found.0) × (found.0 < start + length values))
  pub found : (value : ℕ → ℕ) → ((k : ℕ) → k < start → value k < target) → ((k : ℕ) → k < length values → value (start + k) ≡ slice_index values k)
      → answer ≡ first_reaching value (start + length values) target
