-- The chunks so far are told.
use Rattle.std.proofs.Common.{◌≡◌, ◌*◌, ◌≤◌, length, map}
use Rattle.std.specs.List.{range_with_len}
use Rattle.bitpack_roaring.specs.Roaring.{container_at, position_at, start_at}
use Rattle.bitpack_roaring.proofs.GatherSteps.{AreTold}
use Rattle.bitpack_roaring.proofs.reading.gather.Given as goal

abbrev pub invariant-loop-container : goal.invariant-loop-container
invariant-loop-container l = record {
  so : AreTold (map (container_at l.head.bytes.now) (range_with_len 0 l.container)) l.keys l.counts l.sizes l.out l.gathered.count l.gathered.chunks l.gathered.size;
  chunks : l.gathered.chunks ≡ l.container;
  count : l.gathered.count ≡ position_at l.head.bytes.now l.container;
  few : l.gathered.count ≤ 65536 * l.container;
  small : l.gathered.size ≤ 2 * l.gathered.count;
  start : l.start ≡ start_at l.head.bytes.now l.container;
  room : l.start ≤ length l.head.bytes.now;
  out_len : length l.out ≡ length l.fn.out;
  keys_len : length l.keys ≡ length l.fn.keys;
  counts_len : length l.counts ≡ length l.fn.counts;
  sizes_len : length l.sizes ≡ length l.fn.sizes;
}
