-- The values before the index were visited.
use Rattle.bitpack_lists.specs.inner.Walks.{AreNext, IsWalking, Stage, further}
use Rattle.bitpack_lists.proofs.opened.intersection.walk_values.Given as goal

abbrev pub invariant-loop-index : goal.invariant-loop-index
invariant-loop-index g l = record {
  walking : (stage : Stage) → AreNext stage l.values → IsWalking l.other stage l.initial.walk l.initial.out l.initial.other_reads
      → IsWalking l.other (further stage l.index) l.walk l.out l.other_reads;
}
