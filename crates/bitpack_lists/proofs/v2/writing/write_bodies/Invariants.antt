-- The bodies of the blocks so far are appended to the entries.
use Rattle.std.proofs.Common.{◌≡◌, ◌*◌, ◌≤◌, length, take, drop, vec_capacity}
use Rattle.bitpack_lists.specs.Parts.{whole_blocks}
use Rattle.bitpack_lists.specs.Version2.{kind_at, tail_start}
use Rattle.bitpack_lists.specs.inner.Opening.{HasBodies}
use Rattle.bitpack_lists.proofs.v2.writing.write_bodies.Given as goal

abbrev pub invariant-loop-index : goal.invariant-loop-index
invariant-loop-index g l = record {
  left : l.left ≡ drop (32 * g.P.BitPacker.lanes * l.index) l.values;
  kind : l.block_kind ≡ kind_at l.fn.kind (drop l.start l.out.items) l.index;
  has : HasBodies g.P.BitPacker.lanes (whole_blocks g.P.BitPacker.lanes (length l.values)) l.fn.kind l.values (drop l.start l.out.items) l.index;
  end : tail_start g.P.BitPacker.lanes (whole_blocks g.P.BitPacker.lanes (length l.values)) (drop l.start l.out.items)
      ≡ tail_start g.P.BitPacker.lanes (whole_blocks g.P.BitPacker.lanes (length l.values)) (drop l.start l.initial.out.items);
  long : length l.initial.out.items ≤ length l.out.items;
  front : take l.start l.out.items ≡ take l.start l.initial.out.items;
  capacity : vec_capacity l.initial.out ≤ vec_capacity l.out;
}
