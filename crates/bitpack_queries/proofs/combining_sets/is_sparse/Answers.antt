-- Sets have at most 2^28 ids, and the product of two such numbers fits.
use Rattle.std.proofs.Common.{◌/◌, ◌^◌, arith}
use Rattle.std.proofs.Math.Nat.{div-le_self}
use Rattle.std.proofs.lemmas.Nat.{mul-le}
use Rattle.bitpack_queries.proofs.lemmas.two.CountLaws.{set_is}
use Rattle.bitpack_queries.proofs.combining_sets.is_sparse.Goals as goal

pub overflow_mul-result : goal.overflow_mul-result
overflow_mul-result c =
    let few = (set_is c.args.a.now).few in
    let few' = (set_is c.args.b.now).few in
    let part = div-le_self c.len.result c.max.result in
    let part' = div-le_self c.len-in-And.result c.max-in-And.result in
    let least = mul-le (c.len.result / c.max.result) (c.len-in-And.result / c.max-in-And.result) (2 ^ 28) (2 ^ 28) (omega (arith, c.len.ensures)) (omega (arith, c.len-in-And.ensures)) in
    record { fits = omega arith }
