-- The sums of the values so far are there, and nothing else was written.
use Rattle.std.proofs.Common.{◌≡◌, ◌⊎◌, ℕ, ◌+◌, ◌<◌, ◌≤◌, get_or, length}
use Rattle.bitpacking_c.proofs.bases.add_base.Given as goal

abbrev pub invariant-loop-index : goal.invariant-loop-index
invariant-loop-index l = record {
  long : length l.out ≡ length l.fn.out;
  sums : (k : ℕ) → k < l.index → get_or l.out (l.at + k) 0 ≡ l.base + get_or l.values k 0;
  same : (k : ℕ) → (k < l.at) ⊎ (l.at + l.index ≤ k) → get_or l.out k 0 ≡ get_or l.fn.out k 0;
}
