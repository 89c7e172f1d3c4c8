-- None so far is other than bits if none is counted.
use Rattle.std.proofs.Common.{◌≡◌, ℕ, ◌<◌, ◌≤◌, get_or}
use Rattle.bitpack_slices.proofs.slice.testing.are_wide.Given as goal

abbrev pub invariant-loop-less : goal.invariant-loop-less
invariant-loop-less l = record { few : l.others ≤ l.less-index; none : l.others ≡ 0 → (k : ℕ) → k < l.less-index → (31 ≤ get_or l.counts k 0) × (get_or l.counts k 0 < 255) }
