-- No sum of the codes is above 2 ^ 32.
use Rattle.std.proofs.Common.{◌-◌, ◌^◌, ◌<◌, arith}
use Rattle.std.proofs.lemmas.Bool.{leb-true}
use Rattle.bitpack_columns.proofs.LeastLaws.{few_sum}
use Rattle.bitpack_columns.proofs.opening.order.rises.Goals as goal

pub returns-then-totals : goal.returns-then-totals
returns-then-totals c = λ le codes few are.
    let narrow : c.args.totals.bits < 2 ^ 25 = c.if-totals.true in
    let same = few_sum codes c.args.totals.sum c.args.totals.bits few are narrow in
    let low = leb-true c.args.totals.sum (4294967295 - c.args.before) le in
    let word = c.ranges.before.fits in
    omega arith
