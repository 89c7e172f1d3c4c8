-- A slice of a set in chunks.
use Rattle.std.specs.Prelude.{ℕ, ◌+◌, ◌*◌, ◌<◌, ◌≤◌, ◌==◌, if◌then◌else◌, List, [], length}
use Rattle.bitpack_sets.specs.Directory.{before, body_at, count_at, sum_at}
use Rattle.bitpack_sets.specs.declared.place.ChunkPlace.{ChunkPlace}
use Rattle.bitpack_slices.specs.Places.{IsPlace, before_of}
use Rattle.bitpack_slices.specs.Runs.{begins_runs}
use Rattle.bitpack_slices.specs.Slices.{counts_in}

-- the counts of the slices of a body of `count` numbers, each less 1: only blocks have slices
abbrev pub body_counts_of : ℕ → List ℕ → List ℕ
body_counts_of count body = if length body == 2 * count then [] else if begins_runs body then [] else counts_in body

-- how many ids are before it
abbrev pub first_of : ℕ → List ℕ → ChunkPlace → ℕ
first_of chunks rest at = before (sum_at chunks rest) at.chunk + before_of at.place

-- it is a slice of a chunk
pub record IsChunkPlace (chunks : ℕ) (rest : List ℕ) (at : ChunkPlace) : Type 0 where
  pub within : at.chunk < chunks
  pub place : IsPlace (body_counts_of (count_at chunks rest at.chunk) (body_at chunks rest at.chunk)) at.place

-- and it is not after a position
pub record Holds (chunks : ℕ) (rest : List ℕ) (at : ChunkPlace) (position : ℕ) : Type 0 where
  pub place : IsChunkPlace chunks rest at
  pub after : first_of chunks rest at ≤ position
