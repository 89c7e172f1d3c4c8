-- The values of a range are written at the start of the slice.
use Rattle.std.proofs.Common.{arith}
use Rattle.bitpack_wide.proofs.WideTables.{len_values}
use Rattle.bitpack_wide.proofs.wide_column.WideColumn.copy_range.Goals as goal

pub returns-then-from-self-clause-len : goal.returns-then-from-self-clause-len
returns-then-from-self-clause-len c =
    let self = c.args.self.now in
    omega (arith, c.if-from-self.true, len_values self.bytes.now self.count self.rest.now self.states)

pub returns-clause-len : goal.returns-clause-len
returns-clause-len c =
    let self = c.args.self.now in
    omega (arith, c.min-count.ensures, len_values self.bytes.now self.count self.rest.now self.states)
