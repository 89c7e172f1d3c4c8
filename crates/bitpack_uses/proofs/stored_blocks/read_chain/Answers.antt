-- The bytes of the blocks so far are added up.
use Rattle.std.proofs.Common.{◌≤◌, arith}
use Rattle.std.proofs.lemmas.List.Elements.{All-more}
use Rattle.bitpack_uses.proofs.Sizes.{sizes_more}
use Rattle.bitpack_uses.proofs.stored_blocks.read_chain.Goals as goal

pub loop-width-preserved : goal.loop-width-preserved
loop-width-preserved g c = record {
  narrow = All-more (λ w. w ≤ 32) _ _ 0 c.loop-width-test.true c.loop-width.invariant.narrow c.if-width-gt32.false;
  size = omega (arith, sizes_more g.P.BitPacker.lanes _ c.args.widths.now c.loop-width-test.true);
  within = omega arith;
}
