-- The blocks before this one are a chain of least widths. By the least widths of all blocks, the length of the others is known.
use Rattle.std.proofs.Common.{◌≡◌, ◌*◌, ◌≤◌, ℕ, List, length, take, drop, sum}
use Rattle.std.specs.Prelude.{All}
use Rattle.bitpack_lists.proofs.lemmas.blocks.ChainLemmas.{LooseSoFar, LeastSoFar}
use Rattle.bitpack_lists.specs.Chains.{LeastWidths}
use Rattle.bitpack_lists.proofs.lemmas.blocks.MeasuredLengths.{Measured}
use Rattle.bitpack_lists.proofs.chain.pack_measured.Given as goal

abbrev pub invariant-loop-index : goal.invariant-loop-index
invariant-loop-index g l = record {
  written : l.written ≡ 4 * g.P.BitPacker.lanes * sum (take l.index l.widths);
  bound : l.written ≤ 4 * (32 * g.P.BitPacker.lanes * l.index);
  narrow : All (λ width. width ≤ 32) (take l.index l.widths);
  loose : LooseSoFar g.P.BitPacker.lanes l.fn.kind l.block_kind (take (32 * g.P.BitPacker.lanes * l.index) l.values) (take l.index l.widths) (take l.written l.out);
  least : LeastSoFar g.P.BitPacker.lanes l.fn.kind l.block_kind (take (32 * g.P.BitPacker.lanes * l.index) l.values) (take l.index l.widths);
  measured : (all : List ℕ) → length all ≡ l.blocks → LeastWidths g.P.BitPacker.lanes l.fn.kind l.values all
      → Measured g.P.BitPacker.lanes 0 l.index l.block_kind (drop (32 * g.P.BitPacker.lanes * l.index) l.values) l.written all;
  rest : drop l.written l.out ≡ drop l.written l.initial.out;
}
