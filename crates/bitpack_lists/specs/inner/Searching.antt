-- What the inner functions of a search know of an opened list.
use Rattle.std.specs.Prelude.{◌≡◌, ℕ, suc, ◌+◌, ◌-◌, ◌*◌, ◌^◌, ◌<◌, ◌≤◌, min, true, false, List, slice_index, take, Option, Some, None, IfSome}
use Rattle.bitpacking.specs.declared.bit_packer.BitPacker.{Ghosts}
use Rattle.bitpacking.specs.declared.kind.Kind.{Kind}
use Rattle.bitpack_lists.specs.declared.opened.ListBlock.{ListBlock}
use Rattle.bitpack_lists.specs.declared.opened.CachedBlock.{CachedBlock}
use Rattle.bitpack_lists.specs.declared.blocks.reads.PackedList.{PackedList}
use Rattle.bitpack_lists.specs.declared.blocks.reads.Reads.{Reads}
pub use Rattle.bitpack_lists.specs.Opened.{blocks_of, rest_of, value_of}
use Rattle.bitpack_lists.specs.Search.{HasGrown, in_whole_block}
use Rattle.bitpack_lists.specs.Version2.{block_at, kind_at, last_at}

-- only skip keys were read
pub record ReadsEntries (old new : Reads) : Type 0 where
  pub entries : old.entries ≤ new.entries
  pub blocks : new.blocks ≡ old.blocks

-- no skip key was read, and at most one block was unpacked
pub record UnpacksOne (old new : Reads) : Type 0 where
  pub entries : new.entries ≡ old.entries
  pub blocks : new.blocks ≤ old.blocks + 1
  pub grown : HasGrown old new

module _ {P : Type 0} {members : Ghosts P} (list : PackedList P members) where
  -- the values of each whole block
  abbrev pub block_of_list : ℕ → List ℕ
  block_of_list = block_at members.lanes (blocks_of list) list.kind (rest_of list)

  -- the skip key of each whole block
  abbrev pub skip_key_of_list : ℕ → ℕ
  skip_key_of_list = last_at (rest_of list)

  -- the kind of each whole block, and of the tail
  abbrev pub kind_of_list : ℕ → Kind
  kind_of_list = kind_at list.kind (rest_of list)

  -- a whole block, with its kind
  pub record IsListBlock (block : ListBlock) : Type 0 where
    pub within : block.number < blocks_of list
    pub kind_is : block.kind ≡ kind_of_list block.number

  -- what was read is the values of a block, or after all blocks the tail
  pub record HasPart (block len : ℕ) (out : List ℕ) : Type 0 where
    pub within : block ≤ blocks_of list
    pub len_is : len ≡ min (32 * members.lanes) (list.count - 32 * members.lanes * block)
    pub values_are : (k : ℕ) → k < len → slice_index out k ≡ value_of list (32 * members.lanes * block + k)

  -- the block before this one has a skip key below the target
  abbrev pub EndsBelow : ℕ → ℕ → Type 0
  EndsBelow target block = (before : ℕ) → suc before ≡ block → skip_key_of_list before < target

  -- the first whole block whose skip key is at least the target
  pub record IsFirstBlock (target : ℕ) (block : ListBlock) : Type 0 where
    pub is : IsListBlock block
    pub before : EndsBelow target block.number
    pub enough : target ≤ skip_key_of_list block.number

  -- the number of a block, or the count of blocks
  abbrev pub number_or_all : Option ListBlock → ℕ
  number_or_all None = blocks_of list
  number_or_all (Some block) = block.number

  -- the first whole block from one on whose skip key is at least the target, if there is one
  pub record IsFirstFrom (target from : ℕ) (found : Option ListBlock) : Type 0 where
    pub is : IfSome found IsListBlock
    pub forward : from ≤ number_or_all found
    pub before : EndsBelow target (number_or_all found)
    pub enough : number_or_all found < blocks_of list → target ≤ skip_key_of_list (number_or_all found)

  -- what is cached is the block of its number, if the list has one
  abbrev pub IsCached : CachedBlock → Type 0
  IsCached cached = cached.number < blocks_of list → take (32 * members.lanes) cached.values ≡ block_of_list cached.number

  -- the block of this number is cached instead of another, and was unpacked for that unless it was the other
  pub record CachesBlock (block : ℕ) (before after : CachedBlock) (old new : Reads) : Type 0 where
    pub cached : IsCached after
    pub number : after.number ≡ block
    pub reads : UnpacksOne old new
    pub again : before.number ≡ block → new.blocks ≡ old.blocks

  -- the result of a search is in this block
  abbrev pub IsInBlock : ℕ → Option (ℕ × ℕ) → Type 0
  IsInBlock block answer =
      IfSome answer (λ found. (32 * members.lanes * block ≤ found.0) × (found.0 < 32 * members.lanes * block + 32 * members.lanes))

  -- a search caches the block of its result if that is in one, and reads a skip key each time that it halves the blocks
  pub record CachesOne (answer : Option (ℕ × ℕ)) (before after : CachedBlock) (old new : Reads) : Type 0 where
    pub cached : IsCached after
    pub entries : (digits : ℕ) → blocks_of list < 2 ^ digits → new.entries ≤ old.entries + digits
    pub blocks : new.blocks ≤ old.blocks + 1
    pub again : after.number ≡ before.number → new.blocks ≡ old.blocks
    pub inside : in_whole_block members.lanes list.count answer ≡ true → (after.number < blocks_of list) × IsInBlock after.number answer
    pub outside : in_whole_block members.lanes list.count answer ≡ false → after.number ≡ before.number
    pub grown : HasGrown old new
