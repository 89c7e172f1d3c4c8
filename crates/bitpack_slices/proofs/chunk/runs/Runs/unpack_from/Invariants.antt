-- The numbers so far are written, and the next is in a run.
use Rattle.std.proofs.Common.{◌≡◌, ◌+◌, ◌-◌, ◌<◌, ◌≤◌, drop, length, map, take}
use Rattle.bitpack_slices.proofs.chunk.runs.Runs.unpack_from.Given as goal
use Rattle.bitpack_slices.proofs.lemmas.bodies.RunLaws.{AtRun}
use Rattle.bitpack_slices.specs.Runs.{runs_from}

abbrev pub invariant-loop-next : goal.invariant-loop-next
invariant-loop-next l = record {
  long : length l.out ≡ length l.fn.out;
  within : l.next ≤ length l.out;
  here : l.next < length l.out → AtRun l.self.bounds.now l.index l.left (l.from + l.next);
  values : take l.next l.out ≡ take l.next (drop l.from (map (λ i. l.base + i) (runs_from 0 l.self.bounds.now)));
}

abbrev pub decreases-loop-next : goal.decreases-loop-next
decreases-loop-next l = length l.out - l.next
