use Rattle.std.proofs.Common.{◌^◌, sym, arith}
use Rattle.bitpack_sets.specs.Opened.{ids}
use Rattle.bitpack_slices.specs.Bodies.{IsRising}
use Rattle.bitpack_slices.proofs.ForCallers.{rises_from}
use Rattle.bitpack_sets.proofs.ForCallers.{each_below, ids_are_read}
use Rattle.bitpack_queries.proofs.lemmas.two.UnitedLaws.{shared_few, union_count}
use Rattle.bitpack_queries.proofs.in_place.count_more.Goals as goal

own_rise : (c : goal.After-count_shared) → IsRising 0 (2 ^ 32) c.args.values.now
own_rise c = rises_from 0 (2 ^ 32) c.args.values.now (each_below (2 ^ 32) c.args.values.now (λ k. (c.type_inv.values k).fits)) (sym c.in-None.ensures.found)

set_rise : (c : goal.After-count_shared) → IsRising 0 (2 ^ 32) (ids c.args.set.now)
set_rise c = let set = c.args.set.now in (ids_are_read set.bytes.now set.are_bytes set.states.none).0.rising

pub overflow_sub-result : goal.overflow_sub-result
overflow_sub-result c =
    let few = shared_few (2 ^ 32) c.args.values.now (ids c.args.set.now) (own_rise c) (set_rise c) in
    let len = c.len.ensures in
    let count = c.count_shared.ensures in
    omega arith

pub returns-in-None-clause-increasing : goal.returns-in-None-clause-increasing
returns-in-None-clause-increasing c = own_rise c

pub returns-in-None-clause-more : goal.returns-in-None-clause-more
returns-in-None-clause-more c =
    let few = shared_few (2 ^ 32) c.args.values.now (ids c.args.set.now) (own_rise c) (set_rise c) in
    let all = union_count (2 ^ 32) c.args.values.now (ids c.args.set.now) (own_rise c) (set_rise c) in
    let len = c.len.ensures in
    let count = c.count_shared.ensures in
    omega arith
