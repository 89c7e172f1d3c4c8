-- The sums of the ids so far are there, and nothing else was written.
use Rattle.std.proofs.Common.{◌≡◌, ℕ, ◌+◌, ◌-◌, ◌<◌, ◌≤◌, get_or, length}
use Rattle.bitpack_sets.specs.Opened.{ids}
use Rattle.bitpacking_c.proofs.set_wide.copy_sums.Given as goal

abbrev pub invariant-loop-done : goal.invariant-loop-done
invariant-loop-done l = record {
  long : length l.out ≡ length l.fn.out;
  within : l.done ≤ length (ids l.set);
  sums : (k : ℕ) → k < l.done → get_or l.out k 0 ≡ l.base + get_or (ids l.set) k 0;
  rest : (k : ℕ) → l.done ≤ k → get_or l.out k 0 ≡ get_or l.fn.out k 0;
}

abbrev pub decreases-loop-done : goal.decreases-loop-done
decreases-loop-done l = length (ids l.set) - l.done
