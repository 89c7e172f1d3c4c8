-- What is known while values at positions are read.
use Rattle.std.specs.Prelude.{◌≡◌, ◌⊎◌, ℕ, ◌+◌, ◌-◌, ◌/◌, ◌%◌, ◌<◌, ◌≤◌, List, length, slice_index}
use Rattle.bitpack_columns.specs.declared.column.getting.LastBlock.{LastBlock}
use Rattle.bitpack_columns.specs.declared.reads.Reads.{Reads}

-- each position is below a count
abbrev pub AreWithin : ℕ → List ℕ → Type 0
AreWithin count positions = (k : ℕ) → k < length positions → slice_index positions k < count

-- the block that was unpacked last has the values of its block of a list
abbrev pub HasValues : List ℕ → LastBlock → Type 0
HasValues values last =
    (position : ℕ) → position < length values → position / 128 ≡ last.block → slice_index last.values (position % 128) ≡ slice_index values position

-- a block is the one that was unpacked last, and was unpacked only if it was not; or it was not unpacked, as was no other
pub record CachesBlock (block : ℕ) (last next : LastBlock) (old new : Reads) : Type 0 where
  pub cached : last.block ≡ block → (next.block ≡ block) × (new.blocks ≡ old.blocks)
  pub once : ((next.block ≡ block) × (new.blocks ≤ old.blocks + 1)) ⊎ (new.blocks ≡ old.blocks)

-- the first `len` values of a tail of `count` end with a group, or are all; the first codes are left out
pub record EndsGroup (zeros count len : ℕ) : Type 0 where
  pub within : len ≤ count
  pub front : zeros ≤ len
  pub groups : len < count → (len - zeros) % 32 ≡ 0
