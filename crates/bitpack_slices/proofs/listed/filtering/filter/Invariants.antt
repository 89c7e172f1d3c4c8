-- The ids from a position on that are looked for come next.
use Rattle.std.proofs.Common.{◌≡◌, drop, length}
use Rattle.std.specs.List.{filter}
use Rattle.bitpack_slices.proofs.lemmas.bytes.FollowLaws.{IsLeft}
use Rattle.bitpack_slices.proofs.listed.filtering.filter.Given as goal
use Rattle.bitpack_slices.specs.Lists.{listed_ids, retains}
use Rattle.bitpack_slices.specs.Selections.{parts_numbers}

abbrev pub invariant-loop-position : goal.invariant-loop-position
invariant-loop-position l = record {
  size : length l.out ≡ length l.fn.out;
  left : IsLeft (filter (retains l.there (parts_numbers l.blocks)) (listed_ids l.list)) l.fn.out l.out l.at l.next (filter (retains l.there (parts_numbers l.blocks)) (drop l.position (listed_ids l.list)));
}
