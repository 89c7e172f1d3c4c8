-- The chunks of a set, one after the other.
use Rattle.std.specs.Prelude.{◌≡◌, ◌≢◌, ℕ, ◌+◌, ◌*◌, ◌^◌, ◌<◌, ◌≤◌, ◌∷◌, List, drop, length, map, take}
use Rattle.bitpack_sets.specs.Chunks.{ids_from, lows_between, positions}
use Rattle.bitpack_sets.specs.declared.chunks.Chunks.{Chunks}
use Rattle.bitpack_slices.specs.Bodies.{IsRising, parts}
use Rattle.bitpack_roaring.specs.declared.parts.Part.{Part}

-- the ids from a position on are those after `from`
pub record IsAt (ids : List ℕ) (set : Chunks) (position from : ℕ) : Type 0 where
  pub within : position ≤ positions set
  pub few : from ≤ length ids
  pub rising : IsRising 0 (2 ^ 32) (ids_from set position)
  pub ids_are : ids_from set position ≡ drop from ids

-- the numbers of a chunk
abbrev pub numbers_of_part : Chunks → Part → List ℕ
numbers_of_part set part = lows_between set part.begin part.end

-- this chunk comes next, and these are its ids
pub record IsPart (ids : List ℕ) (set : Chunks) (part : Part) : Type 0 where
  pub next : IsAt ids set part.end (part.from + part.count)
  pub later : part.begin < part.end
  pub one : set.count ≢ 0 → part.end ≤ part.begin + 1
  pub some : 1 ≤ part.count
  pub few : part.count ≤ 65536
  pub key : part.key < 65536
  pub rising : IsRising 0 65536 (numbers_of_part set part)
  pub count_is : part.count ≡ length (numbers_of_part set part)
  pub parts_are : parts 65536 (ids_from set part.begin) ≡ (part.key, numbers_of_part set part) ∷ parts 65536 (ids_from set part.end)
  pub ids_are : take part.count (drop part.from ids) ≡ map (λ x. part.key * 65536 + x) (numbers_of_part set part)
