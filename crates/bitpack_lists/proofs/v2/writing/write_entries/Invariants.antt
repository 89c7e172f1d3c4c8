-- The entries of the blocks so far are appended.
use Rattle.std.proofs.Common.{◌≡◌, ◌+◌, ◌*◌, ◌≤◌, length, take, drop, vec_len, vec_capacity}
use Rattle.bitpack_lists.specs.Chains.{LeastWidths}
use Rattle.bitpack_lists.specs.Parts.{whole_blocks}
use Rattle.bitpack_lists.proofs.lemmas.blocks.EntryLemmas.{Entered}
use Rattle.bitpack_lists.proofs.v2.writing.write_entries.Given as goal

abbrev pub invariant-loop-index : goal.invariant-loop-index
invariant-loop-index g l = record {
  left : l.left ≡ drop (32 * g.P.BitPacker.lanes * l.index) l.values;
  entered : Entered g.P.BitPacker.lanes l.fn.kind l.values (drop (vec_len l.initial.out) l.out.items) l.index l.block_kind l.offset;
  least : LeastWidths g.P.BitPacker.lanes l.block_kind l.left (drop l.index (take (whole_blocks g.P.BitPacker.lanes (length l.values)) l.widths));
  front : take (vec_len l.initial.out) l.out.items ≡ l.initial.out.items;
  long : length l.out.items ≡ vec_len l.initial.out + 9 * l.index;
  capacity : vec_capacity l.initial.out ≤ vec_capacity l.out;
}
