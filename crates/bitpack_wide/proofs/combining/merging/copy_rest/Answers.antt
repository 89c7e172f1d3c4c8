-- A set has few ids.
use Rattle.std.proofs.Common.{arith}
use Rattle.bitpack_wide.proofs.CombineLaws.{wide_is}
use Rattle.bitpack_wide.proofs.combining.merging.copy_rest.Goals as goal

pub overflow_add-end : goal.overflow_add-end
overflow_add-end c =
    let few = (wide_is c.args.set.now).few in
    record { fits = omega (arith, c.requires.start, c.len.ensures) }
