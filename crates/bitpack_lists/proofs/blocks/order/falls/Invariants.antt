-- If no value fell so far, each pair of neighbours so far is in order.
use Rattle.std.proofs.Common.{◌≡◌, ◌+◌, ◌<◌, ℕ, false, slice_index}
use Rattle.bitpack_lists.specs.inner.Opening.{is_fall}
use Rattle.bitpack_lists.proofs.blocks.order.falls.Given as goal

abbrev pub invariant-loop-index : goal.invariant-loop-index
invariant-loop-index l =
    l.falls ≡ false → (k : ℕ) → k + 1 < l.index → is_fall l.strict (slice_index l.values k) (slice_index l.values (k + 1)) ≡ false
