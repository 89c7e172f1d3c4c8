-- There are as many values as were counted.
use Rattle.std.proofs.Common.{◌∙◌, ◌<◌, Some, length, ap, sym, arith}
use Rattle.std.proofs.lemmas.Option.{slice_get-get_or, slice_get_past}
use Rattle.bitpack_columns.specs.Opened.{values}
use Rattle.bitpack_columns.proofs.OpenedLaws.{count_is}
use Rattle.bitpack_columns.proofs.column.Column.get.Goals as goal

pub returns-then-position-self : goal.returns-then-position-self
returns-then-position-self c = sym (slice_get_past (values c.args.self.now) c.args.position (omega (arith, count_is c.args.self.now)))

pub value_at-requires : goal.value_at-requires
value_at-requires c = omega (arith, count_is c.args.self.now)

pub returns : goal.returns
returns c =
    let lt : c.args.position < length (values c.args.self.now) = omega (arith, count_is c.args.self.now) in
    ap Some c.value_at.ensures.value ∙ sym (slice_get-get_or (values c.args.self.now) c.args.position 0 lt)
