-- The runs so far are written.
use Rattle.std.proofs.Common.{◌≡◌, ◌*◌, ◌++◌, drop, length, take}
use Rattle.bitpack_roaring.specs.inner.Runs.{run_bytes, runs_between}
use Rattle.bitpack_roaring.proofs.bounds.put_runs.Given as goal

abbrev pub invariant-loop-index : goal.invariant-loop-index
invariant-loop-index l = record {
  size : length l.out ≡ length l.fn.out;
  written : take (4 * l.index) l.out ++ run_bytes (runs_between (drop (2 * l.index) l.bounds)) ≡ run_bytes (runs_between l.bounds);
}
