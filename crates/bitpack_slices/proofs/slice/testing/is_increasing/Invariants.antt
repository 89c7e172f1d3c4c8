-- The bytes so far increase.
use Rattle.std.proofs.Common.{ℕ, ◌+◌, ◌<◌, slice_index}
use Rattle.bitpack_slices.proofs.slice.testing.is_increasing.Given as goal

abbrev pub invariant-loop-i : goal.invariant-loop-i
invariant-loop-i l = (k : ℕ) → k + 1 < l.i → slice_index l.bytes k < slice_index l.bytes (k + 1)
