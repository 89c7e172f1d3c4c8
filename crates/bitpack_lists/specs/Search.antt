-- Searches in a list: the result, and what is read for it.
use Rattle.std.specs.Prelude.{◌≡◌, ℕ, ◌+◌, ◌*◌, ◌^◌, ◌<◌, ◌≤◌, Bool, false, nat_lt, nat_le, List, length, slice_index, Option, Some, None}
use Rattle.std.specs.Option.{option_map}
use Rattle.bitpack_lists.specs.declared.blocks.reads.Reads.{Reads}
use Rattle.bitpack_lists.specs.Parts.{whole_blocks}
use Rattle.bitpack_lists.specs.Version2.{least_below}

-- the least position below `count` whose value is at least a target, with that value
abbrev pub first_reaching : (ℕ → ℕ) → ℕ → ℕ → Option (ℕ × ℕ)
first_reaching value count target = option_map (λ position. (position, value position)) (least_below (λ position. nat_le target (value position)) count)

-- as above, of the values of a list
abbrev pub first_at_least : List ℕ → ℕ → Option (ℕ × ℕ)
first_at_least values target = first_reaching (slice_index values) (length values) target

-- whether a result is in a whole block of `count` values
abbrev pub in_whole_block : ℕ → ℕ → Option (ℕ × ℕ) → Bool
in_whole_block lanes count None = false
in_whole_block lanes count (Some found) = nat_lt found.0 (32 * lanes * whole_blocks lanes count)

-- counts never decrease
pub record HasGrown (old new : Reads) : Type 0 where
  pub entries : old.entries ≤ new.entries
  pub blocks : old.blocks ≤ new.blocks

-- what a search among `count` values adds: at most as many skip entries as the number of whole blocks has binary digits; at
-- most one block, and none if the result is in no whole block
pub record IsSearched (lanes count : ℕ) (answer : Option (ℕ × ℕ)) (old new : Reads) : Type 0 where
  pub entries : (digits : ℕ) → whole_blocks lanes count < 2 ^ digits → new.entries ≤ old.entries + digits
  pub blocks : new.blocks ≤ old.blocks + 1
  pub outside : in_whole_block lanes count answer ≡ false → new.blocks ≡ old.blocks
  pub grown : HasGrown old new
