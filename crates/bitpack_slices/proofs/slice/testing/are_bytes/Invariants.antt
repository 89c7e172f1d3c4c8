-- None so far is other than bytes if none is counted.
use Rattle.std.proofs.Common.{◌≡◌, ℕ, ◌<◌, ◌≤◌, get_or}
use Rattle.bitpack_slices.proofs.slice.testing.are_bytes.Given as goal

abbrev pub invariant-loop-less : goal.invariant-loop-less
invariant-loop-less l = record { few : l.others ≤ l.less-index; none : l.others ≡ 0 → (k : ℕ) → k < l.less-index → get_or l.counts k 0 < 31 }
