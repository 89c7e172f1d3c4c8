use Rattle.std.proofs.Common.{ℕ, ◌≤◌, arith}
use Rattle.std.proofs.lemmas.List.Elements.{All-more}
use Rattle.bitpacking_c.proofs.ChainLengths.{one_block_more}
use Rattle.bitpacking_c.proofs.chain.test_widths.Goals as goal

pub returns-then-left-size-clause-err : goal.returns-then-left-size-clause-err
returns-then-left-size-clause-err g c =
    let found = one_block_more g.P.BitPacker.lanes c.loop-index.index c.loop-index.left c.args.bytes c.compressed_block_size-size.result
    c.args.widths.now c.loop-index-test.true c.compressed_block_size-size.ensures c.loop-index.invariant.left in
    omega (arith, found.0, found.1)

pub loop-index-preserved : goal.loop-index-preserved
loop-index-preserved g c =
    let found = one_block_more g.P.BitPacker.lanes c.loop-index.index c.loop-index.left c.args.bytes c.compressed_block_size-size.result
    c.args.widths.now c.loop-index-test.true c.compressed_block_size-size.ensures c.loop-index.invariant.left in
    record {
      narrow = All-more (λ (width : ℕ). width ≤ 32) c.args.widths.now c.loop-index.index 0 c.loop-index-test.true c.loop-index.invariant.narrow
          (omega (arith, c.if-width-gt-MAX_WIDTH.false));
      left = omega (arith, found.0, c.if-left-size.false);
    }
