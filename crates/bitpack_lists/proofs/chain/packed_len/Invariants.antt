-- By the least widths of all blocks, the length so far is known.
use Rattle.std.proofs.Common.{◌≡◌, ◌+◌, ◌*◌, ◌/◌, ◌≤◌, ℕ, List, length}
use Rattle.bitpack_lists.specs.Chains.{LeastWidths}
use Rattle.bitpack_lists.proofs.lemmas.blocks.MeasuredLengths.{Measured}
use Rattle.bitpack_lists.proofs.chain.packed_len.Given as goal

abbrev pub invariant-loop : goal.invariant-loop
invariant-loop g l = record {
  left : length l.rest + 32 * g.P.BitPacker.lanes * l.counter ≡ length l.values;
  bound : l.size ≤ 4 * (32 * g.P.BitPacker.lanes * l.counter);
  measured : (all : List ℕ) → length all ≡ length l.values / l.len → LeastWidths g.P.BitPacker.lanes l.fn.kind l.values all
      → Measured g.P.BitPacker.lanes 0 l.counter l.block_kind l.rest l.size all;
}
