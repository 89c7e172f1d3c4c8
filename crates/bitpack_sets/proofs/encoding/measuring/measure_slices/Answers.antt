-- The slices are measured by what is counted.
use Rattle.std.proofs.Common.{arith}
use Rattle.bitpack_sets.proofs.lemmas.written.CountedRuns.{are_measured}
use Rattle.bitpack_sets.proofs.encoding.measuring.measure_slices.Goals as goal

pub overflow_sub-full : goal.overflow_sub-full
overflow_sub-full c =
    (are_measured c.args.ids.now c.count_within-count.result c.count_within-short.result c.count_within.result c.requires c.count_within-count.ensures c.count_within-short.ensures
    c.count_within.ensures).within

pub overflow_mul-result : goal.overflow_mul-result
overflow_mul-result c =
    let are = are_measured c.args.ids.now c.count_within-count.result c.count_within-short.result c.count_within.result c.requires c.count_within-count.ensures c.count_within-short.ensures
    c.count_within.ensures in
    let a = are.sized in
    let b = are.small in
    omega arith

pub overflow_sub-result : goal.overflow_sub-result
overflow_sub-result c =
    let are = are_measured c.args.ids.now c.count_within-count.result c.count_within-short.result c.count_within.result c.requires c.count_within-count.ensures c.count_within-short.ensures
    c.count_within.ensures in
    let a = are.sized in
    omega arith

pub returns-clause-count : goal.returns-clause-count
returns-clause-count c =
    (are_measured c.args.ids.now c.count_within-count.result c.count_within-short.result c.count_within.result c.requires c.count_within-count.ensures c.count_within-short.ensures
    c.count_within.ensures).counted

pub returns-clause-size : goal.returns-clause-size
returns-clause-size c =
    let are = are_measured c.args.ids.now c.count_within-count.result c.count_within-short.result c.count_within.result c.requires c.count_within-count.ensures c.count_within-short.ensures
    c.count_within.ensures in
    let a = are.sized in
    omega arith

pub returns-clause-few : goal.returns-clause-few
returns-clause-few c =
    (are_measured c.args.ids.now c.count_within-count.result c.count_within-short.result c.count_within.result c.requires c.count_within-count.ensures c.count_within-short.ensures
    c.count_within.ensures).few

pub returns-clause-small : goal.returns-clause-small
returns-clause-small c =
    let are = are_measured c.args.ids.now c.count_within-count.result c.count_within-short.result c.count_within.result c.requires c.count_within-count.ensures c.count_within-short.ensures
    c.count_within.ensures in
    let a = are.small in
    omega arith
