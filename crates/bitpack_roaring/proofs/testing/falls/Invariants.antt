-- If no number so far falls, they increase.
use Rattle.std.proofs.Common.{◌≡◌, ◌+◌, ◌<◌, ℕ, false, get_or}
use Rattle.bitpack_slices.specs.Slices.{pairs_of}
use Rattle.bitpack_roaring.proofs.testing.falls.Given as goal

abbrev pub invariant-loop-index : goal.invariant-loop-index
invariant-loop-index l = l.falls ≡ false → (k : ℕ) → k + 1 < l.index → get_or (pairs_of l.body) k 0 < get_or (pairs_of l.body) (k + 1) 0
