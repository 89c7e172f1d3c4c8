-- The first fault of all blocks and the tail is the first of those that are left.
use Rattle.std.proofs.Common.{◌≡◌, ◌-◌}
use Rattle.bitpack_lists.specs.Version1.{blocks_fault1}
use Rattle.bitpack_lists.proofs.v1.reading.test_chain.Given as goal

abbrev pub invariant-loop-block : goal.invariant-loop-block
invariant-loop-block g l = blocks_fault1 g.P.BitPacker.lanes l.tail 0 l.blocks l.bytes ≡ blocks_fault1 g.P.BitPacker.lanes l.tail l.block (l.blocks - l.block) l.rest
