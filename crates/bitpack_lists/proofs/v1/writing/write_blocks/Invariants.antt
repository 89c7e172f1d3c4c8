-- What was written and what is left of the encoded list are the whole of it.
use Rattle.std.proofs.Common.{◌≡◌, ◌+◌, ◌-◌, ◌*◌, ◌≤◌, ◌++◌, ℕ, List, length, take, drop, vec_capacity}
use Rattle.bitpacking.specs.Bits.{AreBytes}
use Rattle.bitpack_lists.specs.Version1.{Blocks1}
use Rattle.bitpack_lists.specs.Chains.{LeastWidths}
use Rattle.bitpack_lists.proofs.lemmas.blocks.WriteSteps.{Written}
use Rattle.bitpack_lists.proofs.v1.writing.write_blocks.Given as goal

abbrev pub invariant-loop-index : goal.invariant-loop-index
invariant-loop-index g l = record {
  left : length l.rest + 32 * g.P.BitPacker.lanes * l.index ≡ length l.values;
  capacity : vec_capacity l.initial.out ≤ vec_capacity l.out;
  least : LeastWidths g.P.BitPacker.lanes l.kind l.rest (drop l.index (take l.blocks l.widths));
  written : (encoding : List ℕ) → AreBytes encoding → Blocks1 g.P.BitPacker.lanes l.blocks l.fn.kind l.values encoding
      → Written g.P.BitPacker.lanes (l.blocks - l.index) l.kind l.rest l.out.items (l.initial.out.items ++ encoding);
}
