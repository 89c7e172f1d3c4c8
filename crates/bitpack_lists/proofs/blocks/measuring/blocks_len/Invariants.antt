-- By the least widths of all blocks, the length so far is known; the widths so far are the least.
use Rattle.std.proofs.Common.{◌≡◌, ◌+◌, ◌*◌, ◌≤◌, ℕ, List, length, take}
use Rattle.bitpack_lists.specs.Parts.{first_kind}
use Rattle.bitpack_lists.specs.Chains.{LeastWidths}
use Rattle.bitpack_lists.proofs.lemmas.blocks.MeasuredLengths.{Measured}
use Rattle.bitpack_lists.proofs.lemmas.blocks.WriteSteps.{CachedWidths}
use Rattle.bitpack_lists.proofs.blocks.measuring.blocks_len.Given as goal

abbrev pub invariant-loop-index : goal.invariant-loop-index
invariant-loop-index g l = record {
  left : length l.rest + 32 * g.P.BitPacker.lanes * l.index ≡ length l.values;
  low : l.entry_len * l.index ≤ l.size;
  bound : l.size ≤ 1033 * l.index;
  measured : (all : List ℕ) → length all ≡ l.blocks → LeastWidths g.P.BitPacker.lanes (first_kind l.fn.kind) l.values all
      → Measured g.P.BitPacker.lanes l.entry_len l.index l.kind l.rest l.size all;
  cached : l.index ≤ length l.widths → CachedWidths g.P.BitPacker.lanes (first_kind l.fn.kind) l.kind l.values l.rest (take l.index l.widths);
  least : LeastWidths g.P.BitPacker.lanes (first_kind l.fn.kind) l.values (take l.index l.widths);
}
