-- No value falls, wherever the first is.
use Rattle.std.proofs.Common.{ℕ, Option, ap}
use Rattle.std.specs.Option.{option_map}
use Rattle.bitpack_columns.proofs.FallLaws.{none_from}
use Rattle.bitpack_columns.proofs.encoding.order.test_falls.Goals as goal
use Rattle.bitpack_columns.specs.declared.column_error.ColumnError.TheVariants.{NotSorted}

pub returns-then-not-falls : goal.returns-then-not-falls
returns-then-not-falls c =
    ap (λ (o : Option ℕ). option_map NotSorted o) (none_from 0 c.args.position c.args.before c.args.values.now (c.falls.ensures c.if-not-falls.true))
