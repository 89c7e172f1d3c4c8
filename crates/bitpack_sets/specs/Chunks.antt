-- The chunks of a set of any form. A position is the index of a chunk, or the index of an id in an array.
use Rattle.std.specs.Prelude.{◌≡◌, ◌≢◌, ℕ, ◌+◌, ◌-◌, ◌*◌, ◌<◌, ◌≤◌, false, ◌/◌, ◌%◌, ◌==◌, if◌then◌else◌, List, [], ◌∷◌, map, length, slice_index, take, drop}
use Rattle.std.specs.List.{range_with_len}
use Rattle.bitpack_sets.specs.Directory.{chunk_at, ids_of_chunks}
use Rattle.bitpack_slices.specs.Reads.{has}
use Rattle.bitpack_slices.specs.Selections.{parts_numbers}
use Rattle.bitpack_slices.specs.Slices.{quads_of}
use Rattle.bitpack_slices.specs.Bitmaps.{has_bit}
use Rattle.bitpack_sets.specs.declared.chunks.Chunks.{Chunks}
use Rattle.bitpack_sets.specs.declared.finding.Own.{Own}
use Rattle.bitpack_sets.specs.declared.finding.Own.TheVariants.{Between, Bits, Blocks}

-- the ids from a position on
abbrev pub ids_from : Chunks → ℕ → List ℕ
ids_from set position =
    if set.count == 0 then drop position (quads_of set.rest.now)
    else ids_of_chunks (map (chunk_at set.count set.rest.now) (range_with_len position (set.count - position)))

-- the low 16 bits of the ids between two positions
abbrev pub lows_between : Chunks → ℕ → ℕ → List ℕ
lows_between set position end =
    if set.count == 0 then map (λ x. x % 65536) (take (end - position) (drop position (quads_of set.rest.now)))
    else if position == end then [] else (chunk_at set.count set.rest.now position).1

-- the high 16 bits of the first id, 65,536 if there is none
abbrev pub first_key : List ℕ → ℕ
first_key [] = 65536
first_key (x ∷ xs) = x / 65536

-- the position after the last
abbrev pub positions : Chunks → ℕ
positions set = if set.count == 0 then length set.rest.now / 4 else set.count

-- the ids of a key are between two positions, and no id of this key or a higher one is before them
pub record AreBetween (set : Chunks) (key position end : ℕ) : Type 0 where
  pub later : position ≤ end
  pub within : end ≤ positions set
  pub one : set.count ≢ 0 → end ≤ position + 1
  pub shared : set.count ≡ 0 → (k : ℕ) → position ≤ k → k < end → slice_index (quads_of set.rest.now) k / 65536 ≡ key
  pub passed : (x : ℕ) → key * 65536 ≤ x → has x (ids_from set 0) ≡ has x (ids_from set position)
  pub own : (x : ℕ) → x / 65536 ≡ key → has x (ids_from set position) ≡ has (x % 65536) (lows_between set position end)
  pub none : (x : ℕ) → x / 65536 ≡ key → has x (ids_from set end) ≡ false

-- what was found of the ids of a key tells which of them the set has
abbrev pub Knows : Chunks → ℕ → Own → Type 0
Knows set key (Between position end) = AreBetween set key position end
Knows set key (Blocks blocks) = (x : ℕ) → x / 65536 ≡ key → has x (ids_from set 0) ≡ has (x % 65536) (parts_numbers blocks)
Knows set key (Bits words) = (x : ℕ) → x / 65536 ≡ key → has x (ids_from set 0) ≡ has_bit words.now (x % 65536)
