-- The blocks before this one are a chain.
use Rattle.std.proofs.Common.{◌≡◌, ◌*◌, take, drop, sum}
use Rattle.bitpack_lists.proofs.lemmas.blocks.ChainLemmas.{LooseSoFar}
use Rattle.bitpack_lists.proofs.chain.unpack_all.Given as goal

abbrev pub invariant-loop-index : goal.invariant-loop-index
invariant-loop-index g l = record {
  read : l.read ≡ 4 * g.P.BitPacker.lanes * sum (take l.index l.widths);
  loose : LooseSoFar g.P.BitPacker.lanes l.fn.kind l.block_kind (take (32 * g.P.BitPacker.lanes * l.index) l.values) (take l.index l.widths) (take l.read l.bytes);
  rest : drop (32 * g.P.BitPacker.lanes * l.index) l.values ≡ drop (32 * g.P.BitPacker.lanes * l.index) l.initial.values;
}
