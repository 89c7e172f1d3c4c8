-- What two packed lists share, and what an intersection may read of them.
use Rattle.std.specs.Prelude.{◌↔◌, ℕ, ◌+◌, ◌*◌, ◌^◌, ◌<◌, ◌≤◌, min, List, Contains, length}
use Rattle.std.specs.List.Sorted.{IsStrictlyIncreasing}
use Rattle.bitpack_lists.specs.declared.blocks.reads.Reads.{Reads}
use Rattle.bitpack_lists.specs.Parts.{whole_blocks}
use Rattle.bitpack_lists.specs.Search.{HasGrown}

-- the values of both lists, increasing, each once
pub record IsCommon (one other shared : List ℕ) : Type 0 where
  pub increasing : IsStrictlyIncreasing shared
  pub members : (value : ℕ) → Contains shared value ↔ (Contains one value × Contains other value)

-- of the list that is walked: at most as many skip entries as it has blocks; at most as many blocks as it has, and at most two for each
-- value of the other list and one
pub record ReadsWalked (lanes : ℕ) (one other : List ℕ) (old new : Reads) : Type 0 where
  pub entries : new.entries ≤ old.entries + whole_blocks lanes (length one)
  pub blocks : new.blocks ≤ old.blocks + min (whole_blocks lanes (length one)) (2 * length other + 1)
  pub grown : HasGrown old new

-- of the list that is searched: for each value of the other list at most as many skip entries as the count of its blocks has binary
-- digits; at most as many blocks as it has, and at most one for each value of the other list
pub record ReadsSearched (lanes : ℕ) (one other : List ℕ) (old new : Reads) : Type 0 where
  pub entries : (digits : ℕ) → whole_blocks lanes (length other) < 2 ^ digits → new.entries ≤ old.entries + length one * digits
  pub blocks : new.blocks ≤ old.blocks + min (whole_blocks lanes (length other)) (length one)
  pub grown : HasGrown old new
