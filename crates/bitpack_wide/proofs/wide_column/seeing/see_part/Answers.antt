-- One difference more is seen.
use Rattle.std.proofs.Common.{get_or, arith}
use Rattle.bitpack_wide.proofs.WideSeen.{rises_next, sees_next}
use Rattle.bitpack_wide.proofs.wide_column.seeing.see_part.Goals as goal

pub loop-index-preserved : goal.loop-index-preserved
loop-index-preserved c =
    let i = c.loop-index.index in
    let it = c.loop-index.invariant in
    record {
      sees = λ number from is seen.
          sees_next number from i (get_or c.args.part.now i 0) c.loop-index.next.most c.max.result c.loop-index.next.zero (it.sees number from is seen)
          (is i c.loop-index-test.true) c.max.ensures;
      rises = λ number from is seen start.
          rises_next number from i (get_or c.args.part.now i 0) c.loop-index.next.last c.loop-index.next.rises (it.rises number from is seen start)
          (it.start from start) (is i c.loop-index-test.true);
      start = λ from start none. absurd (omega (arith, none));
    }
