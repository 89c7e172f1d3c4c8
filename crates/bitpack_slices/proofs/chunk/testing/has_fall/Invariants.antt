-- None falls before the index if none is counted.
use Rattle.std.proofs.Common.{◌≡◌, ℕ, ◌+◌, ◌-◌, ◌≤◌, drop}
use Rattle.bitpack_slices.specs.Slices.{first_fall, pairs_of}
use Rattle.bitpack_slices.proofs.chunk.testing.has_fall.Given as goal

abbrev pub invariant-loop-index : goal.invariant-loop-index
invariant-loop-index l = record {
  few : l.falls + 1 ≤ l.index;
  none : l.falls ≡ 0 → (position : ℕ) → first_fall position (pairs_of l.body) ≡ first_fall (position + (l.index - 1)) (drop (l.index - 1) (pairs_of l.body));
}
