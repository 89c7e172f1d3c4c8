-- The ids from i and j on come next.
use Rattle.std.proofs.Common.{◌≡◌, ◌-◌, ◌+◌, ◌≤◌, drop, length}
use Rattle.bitpack_slices.proofs.lemmas.bytes.FollowLaws.{IsLeft}
use Rattle.bitpack_slices.proofs.listed.merging.merge_each.Given as goal
use Rattle.bitpack_slices.specs.Lists.{listed_ids}
use Rattle.bitpack_slices.specs.Operations.{answer}

abbrev pub invariant-loop-i : goal.invariant-loop-i
invariant-loop-i l = record {
  first : l.i ≤ length (listed_ids l.a);
  second : l.j ≤ length (listed_ids l.b);
  size : length l.out ≡ length l.fn.out;
  left : IsLeft (answer l.operation (listed_ids l.a) (listed_ids l.b)) l.fn.out l.out l.at l.next (answer l.operation (drop l.i (listed_ids l.a)) (drop l.j (listed_ids l.b)));
}

abbrev pub decreases-loop-i : goal.decreases-loop-i
decreases-loop-i l = (length (listed_ids l.a) + length (listed_ids l.b)) - (l.i + l.j)
