-- One number more is compared.
use Rattle.std.proofs.Common.{◌-◌, get_or, arith}
use Rattle.bitpack_wide.proofs.WideSeen.{falls_next, falls_start}
use Rattle.bitpack_wide.proofs.wide_column.seeing.falls_after.Goals as goal

pub loop-index-init : goal.loop-index-init
loop-index-init c = λ number from is seen start.
    falls_start number from (get_or c.args.part.now 0 0) c.args.before seen start (is 0 c.requires.some)

pub loop-index-preserved : goal.loop-index-preserved
loop-index-preserved c = λ number from is seen start.
    let i = c.loop-index.index in
    falls_next number from i (get_or c.args.part.now i 0) (get_or c.args.part.now (i - 1) 0) c.loop-index.falls (omega (arith, c.loop-index.auto.index))
    (c.loop-index.invariant number from is seen start) (is i c.loop-index-test.true) (is (i - 1) (omega (arith, c.loop-index-test.true)))
