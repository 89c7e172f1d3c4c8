-- What is gathered so far, and what is left.
use Rattle.std.proofs.Common.{◌≡◌, ◌+◌, ◌*◌, ◌^◌, ◌≤◌, length}
use Rattle.bitpack_slices.specs.Operations.{those}
use Rattle.bitpack_queries.specs.Pairs.{left, positions_left}
use Rattle.bitpack_queries.proofs.lemmas.two.GatherLaws.{Gathering}
use Rattle.bitpack_queries.proofs.combining_sets.gathering.gather.Given as goal

abbrev pub invariant-loop-meeting : goal.invariant-loop-meeting
invariant-loop-meeting l = record {
  so : Gathering (those (2 ^ 32) (left l.fn.pair)) (those (2 ^ 32) (left l.pair)) l.fn.out l.out l.keys l.counts l.sizes
      l.gathered.count l.gathered.chunks l.gathered.size;
  most : l.gathered.chunks + positions_left l.pair ≤ positions_left l.fn.pair;
  small : l.gathered.size ≤ 2 * l.gathered.count;
  out_len : length l.out ≡ length l.fn.out;
  keys_len : length l.keys ≡ length l.fn.keys;
  counts_len : length l.counts ≡ length l.fn.counts;
  sizes_len : length l.sizes ≡ length l.fn.sizes;
}

abbrev pub decreases-loop-meeting : goal.decreases-loop-meeting
decreases-loop-meeting l = positions_left l.pair
