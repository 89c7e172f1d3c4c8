-- One value more does not fall, or is the first that does.
use Rattle.std.proofs.Common.{refl, sym, arith}
use Rattle.bitpack_columns.proofs.FallLaws.{fall_found, no_fall, step_last, step_none}
use Rattle.bitpack_columns.proofs.encoding.order.first_below.Goals as goal

pub loop-index-init : goal.loop-index-init
loop-index-init c = record { none = no_fall c.args.position c.args.before; last_is = refl }

pub returns-then-values-index : goal.returns-then-values-index
returns-then-values-index c =
    let last = c.loop-index.invariant.last_is in
    sym (fall_found c.args.position c.args.before c.loop-index.index c.args.values.now c.loop-index-test.true c.loop-index.invariant.none (omega arith))

pub loop-index-preserved : goal.loop-index-preserved
loop-index-preserved c =
    let last = c.loop-index.invariant.last_is in
    record {
      none = step_none c.args.position c.args.before c.loop-index.index c.args.values.now c.loop-index-test.true c.loop-index.invariant.none (omega arith);
      last_is = sym (step_last c.args.before c.loop-index.index c.args.values.now c.loop-index-test.true);
    }
