-- What one read of a list returns, and how it counts.
use Rattle.std.specs.Prelude.{◌≡◌, ℕ, ◌+◌, ◌^◌, ◌<◌, ◌≤◌, List, length}
use Rattle.bitpacking.specs.declared.kind.Kind.{Kind}
use Rattle.bitpacking.specs.Codes.{start}
use Rattle.bitpack_lists.specs.declared.blocks.reads.Entry.{Entry}
use Rattle.bitpack_lists.specs.declared.blocks.reads.Reads.{Reads}
use Rattle.bitpack_lists.specs.Version2.{last_at, offset_at, width_at}

-- the skip entry of a block
pub record IsEntryOf (rest : List ℕ) (block : ℕ) (entry : Entry) : Type 0 where
  pub width : entry.width ≡ width_at rest block
  pub offset : entry.offset ≡ offset_at rest block
  pub last : entry.last ≡ last_at rest block

-- one more skip entry or skip key was read
pub record ReadsEntry (old new : Reads) : Type 0 where
  pub entries : new.entries ≡ old.entries + 1
  pub blocks : new.blocks ≡ old.blocks

-- one block more was unpacked
pub record UnpacksBlock (old new : Reads) : Type 0 where
  pub entries : new.entries ≡ old.entries
  pub blocks : new.blocks ≡ old.blocks + 1

-- one value of a block was read: at most one skip entry, and one block
pub record ReadsValue (old new : Reads) : Type 0 where
  pub entries : new.entries ≤ old.entries + 1
  pub blocks : new.blocks ≡ old.blocks + 1

-- the kind of a block, and room for its values
pub record CanUnpack (block_len : ℕ) (kind : Kind) (values : List ℕ) : Type 0 where
  pub start : start kind < 2 ^ 32
  pub room : block_len ≤ length values
