-- The sizes so far are known.
use Rattle.std.proofs.Common.{◌≡◌, ◌+◌, ◌<◌, ℕ, get_or, length}
use Rattle.bitpack_slices.proofs.blocks.sizes_of.Given as goal
use Rattle.bitpack_slices.specs.Slices.{slice_len}

abbrev pub invariant-loop-index : goal.invariant-loop-index
invariant-loop-index l = record {
  size : length l.sizes ≡ 256;
  known : (k : ℕ) → k < l.index → get_or l.sizes k 0 ≡ slice_len (get_or l.counts k 0 + 1);
}
