-- The boundaries so far are those of the answer, up to the last that was passed.
use Rattle.std.proofs.Common.{◌≡◌, ◌+◌, ◌-◌, ◌*◌, ◌/◌, ◌≤◌, length, take, ℕ}
use Rattle.bitpack_slices.proofs.body.runs.merge_bounds.Given as goal
use Rattle.bitpack_slices.proofs.lemmas.bodies.MergeRuns.{Merged}
use Rattle.bitpack_slices.specs.Slices.{pairs_of}

abbrev pub invariant-loop-i : goal.invariant-loop-i
invariant-loop-i l = record {
  first : l.i ≤ length l.a / 2;
  second : l.j ≤ length l.b / 2;
  size : length l.out ≡ 256;
  few : l.count ≤ l.i + l.j;
  merged : (low : ℕ) × Merged l.operation (pairs_of l.a) (pairs_of l.b) (pairs_of (take (2 * l.count) l.out)) l.i l.j l.in_a l.in_b low;
}

abbrev pub decreases-loop-i : goal.decreases-loop-i
decreases-loop-i l = (length l.a / 2 + length l.b / 2) - (l.i + l.j)
