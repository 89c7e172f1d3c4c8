-- What is gathered of the ids below a number, and what is left.
use Rattle.std.proofs.Common.{◌≡◌, ◌+◌, ◌-◌, ◌*◌, ◌^◌, ◌≤◌, length}
use Rattle.bitpack_slices.specs.Operations.{those}
use Rattle.bitpack_slices.specs.Reads.{rank}
use Rattle.bitpack_sets.specs.Opened.{ids}
use Rattle.bitpack_queries.specs.Shifts.{moved}
use Rattle.bitpack_queries.proofs.lemmas.two.GatherLaws.{Gathering}
use Rattle.bitpack_queries.proofs.lemmas.two.ShiftLaws.{later}
use Rattle.bitpack_queries.proofs.shifting.gathering.gather.Given as goal

abbrev pub invariant-loop-at : goal.invariant-loop-at
invariant-loop-at l = record {
  so : Gathering (moved l.shift.up l.shift.down (ids l.set)) (those (2 ^ 32) (later l.low l.shift.up l.shift.down (ids l.set))) l.fn.out l.out l.keys l.counts l.sizes
      l.gathered.count l.gathered.chunks l.gathered.size;
  here : l.at ≡ rank (l.low + l.shift.down - l.shift.up) (ids l.set);
  low_fits : l.low ≤ 2 ^ 32;
  small : l.gathered.size ≤ 2 * l.gathered.count;
  out_len : length l.out ≡ length l.fn.out;
  own_len : length l.own ≡ length l.fn.own;
  keys_len : length l.keys ≡ length l.fn.keys;
  counts_len : length l.counts ≡ length l.fn.counts;
  sizes_len : length l.sizes ≡ length l.fn.sizes;
}

abbrev pub decreases-loop-at : goal.decreases-loop-at
decreases-loop-at l = l.end - l.at
