-- Sets have no more places than ids.
use Rattle.std.proofs.Common.{arith}
use Rattle.bitpack_queries.proofs.combining_sets.room_len.Goals as goal

pub overflow_add-result : goal.overflow_add-result
overflow_add-result c =
    let a = c.places.ensures.few in
    let b = c.places-2.ensures.few in
    record { fits = omega arith }

pub overflow_mul-result : goal.overflow_mul-result
overflow_mul-result c =
    let a = c.places.ensures.few in
    let b = c.places-2.ensures.few in
    record { fits = omega arith }
