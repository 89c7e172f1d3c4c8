-- The union has at most 2 ^ 32 ids.
use Rattle.std.proofs.Common.{◌+◌, ◌^◌, ◌≤◌, ◌||◌, ℕ, List, arith, take}
use Rattle.std.proofs.lemmas.List.{length-take-le}
use Rattle.bitpack_slices.proofs.ForCallers.{those_few}
use Rattle.bitpack_queries.proofs.in_place.add_to.Goals as goal
use Rattle.bitpack_sets.specs.Opened.{ids}
use Rattle.bitpack_slices.specs.Reads.{has}

pub overflow_add-len : goal.overflow_add-len
overflow_add-len c =
    let given : List ℕ = take c.args.count c.args.values.now in
    let long = length-take-le c.args.count c.args.values.now c.requires.within in
    let few = those_few (2 ^ 32) (λ x. has x given || has x (ids c.args.set.now)) in
    let small : c.args.count + c.in_ok-len.field-0 ≤ 2 ^ 32 = omega (arith, long, few, c.in_ok-len.ensures.more) in
    omega (arith, small)
