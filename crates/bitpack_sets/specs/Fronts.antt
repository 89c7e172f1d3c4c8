-- The chunks of a set that are copied if ids follow.
use Rattle.std.specs.Prelude.{◌≡◌, ℕ, ◌+◌, ◌-◌, ◌*◌, ◌^◌, ◌≤◌, ◌++◌, List, drop, length, map, take}
use Rattle.std.specs.List.{range_with_len}
use Rattle.bitpack_sets.specs.declared.encoding.copying.Front.{Front}
use Rattle.bitpack_sets.specs.Directory.{chunk_at, ids_of_chunks}
use Rattle.bitpack_slices.specs.Bodies.{IsRising}
use Rattle.bitpack_sets.specs.Sets.{IsSet}
use Rattle.bitpack_sets.specs.Written.{last_chunk}

-- the ids of all chunks but the last
abbrev pub front_ids : Front → List ℕ
front_ids front = ids_of_chunks (map (chunk_at front.directory.chunks front.directory.rest.now) (range_with_len 0 (front.directory.chunks - 1)))

-- the ids increase, and none is in a chunk of the others
pub record IsNext (first later : List ℕ) : Type 0 where
  pub key : ℕ
  pub front : IsRising 0 (key * 65536) first
  pub back : IsRising (key * 65536) (2 ^ 32) later

-- ids of a set in chunks are these and the ids of the last chunk, and ids that follow are in no chunk of these
pub record IsFront (first ids : List ℕ) : Type 0 where
  pub many : 128 ≤ length ids
  pub front : take (length first) ids ≡ first
  pub last : length ids ≡ length first + length (last_chunk ids)
  pub next : (more : List ℕ) → IsSet (ids ++ more) → IsNext first (drop (length first) ids ++ more)
