-- One number more is seen.
use Rattle.std.proofs.Common.{get_or}
use Rattle.bitpack_wide.proofs.WideSeen.{sees_next}
use Rattle.bitpack_wide.proofs.wide_column.seeing.see_words.Goals as goal

pub loop-index-preserved : goal.loop-index-preserved
loop-index-preserved c = λ number from is seen.
    let i = c.loop-index.index in
    sees_next number from i (get_or c.args.part.now i 0) c.loop-index.greatest c.max-greatest.result c.loop-index.found
    (c.loop-index.invariant number from is seen) (is i c.loop-index-test.true) c.max-greatest.ensures
