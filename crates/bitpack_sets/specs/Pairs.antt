-- Two sets that are combined chunk by chunk: what is left of the answer, and what has the next key.
use Rattle.std.specs.Prelude.{◌≡◌, ◌≢◌, ℕ, ◌+◌, ◌/◌, ◌<◌, ◌≤◌, slice_index}
use Rattle.bitpack_sets.specs.Chunks.{positions}
use Rattle.bitpack_slices.specs.Slices.{quads_of}
use Rattle.bitpack_sets.specs.declared.chunks.Chunks.{Chunks}

-- the positions between which the ids of a key lie
pub record IsSpan (set : Chunks) (key position end : ℕ) : Type 0 where
  pub later : position ≤ end
  pub within : end ≤ positions set
  pub one : set.count ≢ 0 → end ≤ position + 1
  pub shared : set.count ≡ 0 → (k : ℕ) → position ≤ k → k < end → slice_index (quads_of set.rest.now) k / 65536 ≡ key
