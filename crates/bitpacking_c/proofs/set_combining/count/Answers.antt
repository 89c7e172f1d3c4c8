use Rattle.std.proofs.Common.{◌^◌, ◌<◌, arith, rules}
use Rattle.bitpacking_c.specs.ManySets.{ids_of_views}
use Rattle.bitpacking_c.proofs.ManySteps.{answer_few}
use Rattle.bitpacking_c.proofs.set_combining.count.Goals as goal

pub overflow_cast-result : goal.overflow_cast-result
overflow_cast-result c =
    let are = c.combine_all_count.ensures in
    let few = answer_few c.args.operation (ids_of_views c.args.views.now) in
    let small : c.combine_all_count.result < 2 ^ 63 = omega arith in
    search rules

pub returns : goal.returns
returns c =
    let are = c.combine_all_count.ensures in
    let few = answer_few c.args.operation (ids_of_views c.args.views.now) in
    let small : c.combine_all_count.result < 2 ^ 63 = omega arith in
    search rules
