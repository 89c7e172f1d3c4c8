-- The position is within the values, which are few.
use Rattle.std.proofs.Common.{arith}
use Rattle.bitpack_columns.proofs.OpenedLaws.{few_values}
use Rattle.bitpack_columns.proofs.column_cursor.ColumnCursor.position.Goals as goal

pub overflow_mul-result : goal.overflow_mul-result
overflow_mul-result c =
    let few = few_values c.args.self.now.column in
    let within = c.args.self.now.within in
    record { fits = omega arith }

pub overflow_add-result : goal.overflow_add-result
overflow_add-result c =
    let few = few_values c.args.self.now.column in
    let within = c.args.self.now.within in
    let inside = c.args.self.now.inside in
    let long = c.args.self.now.long in
    record { fits = omega arith }
