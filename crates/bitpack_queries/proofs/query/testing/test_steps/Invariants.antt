use Rattle.std.proofs.Common.{◌≡◌, ◌≤◌, ℕ, drop, map, max}
use Rattle.bitpack_queries.specs.Queries.{fault_from, most_waiting}
use Rattle.bitpack_queries.proofs.query.testing.test_steps.Given as goal

abbrev pub invariant-loop-i : goal.invariant-loop-i
invariant-loop-i g l = record {
  most : l.most ≤ 64;
  deep : l.depth ≤ l.most;
  waiting : most_waiting 0 (map g.T.AsStep.its_step l.steps) ≡ max l.most (most_waiting l.depth (drop l.i (map g.T.AsStep.its_step l.steps)));
  same : (m : ℕ) → l.most ≤ m → fault_from m l.sets 0 0 (map g.T.AsStep.its_step l.steps) ≡ fault_from m l.sets l.i l.depth (drop l.i (map g.T.AsStep.its_step l.steps));
}
