-- No values are in order.
use Rattle.std.proofs.Common.{arith}
use Rattle.bitpack_columns.proofs.FallLaws.{empty_is}
use Rattle.bitpack_columns.proofs.column_builder.ColumnBuilder.new.Goals as goal

pub invariant_of-result : goal.invariant_of-result
invariant_of-result c = record { few = rw c.new.ensures.items (omega arith); ordered = rw c.new.ensures.items (empty_is c.args.kind 0) }
