-- The ids from a position on come next.
use Rattle.std.proofs.Common.{◌≡◌, drop, length}
use Rattle.bitpack_slices.proofs.lemmas.bytes.FollowLaws.{IsLeft}
use Rattle.bitpack_slices.proofs.listed.merging.copy_from.Given as goal
use Rattle.bitpack_slices.specs.Lists.{listed_ids}

abbrev pub invariant-loop-position : goal.invariant-loop-position
invariant-loop-position l = record {
  size : length l.out ≡ length l.fn.out;
  left : IsLeft (drop l.from (listed_ids l.list)) l.fn.out l.out l.at l.next (drop l.position (listed_ids l.list));
}
