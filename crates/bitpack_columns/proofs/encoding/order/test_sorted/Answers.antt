-- The blocks rise, so that only what is left may fall.
use Rattle.std.proofs.Common.{◌+◌, ◌*◌, ◌/◌, ℕ, List, length, Option, refl, ap, ◌∙◌, subst}
use Rattle.std.specs.Option.{option_map}
use Rattle.std.proofs.lemmas.List.{take_rest}
use Rattle.bitpack_columns.proofs.FallLaws.{left_falls}
use Rattle.bitpack_columns.proofs.encoding.order.test_sorted.Goals as goal
use Rattle.bitpack_columns.specs.Errors.{Finds}
use Rattle.bitpack_columns.specs.Faults.{first_below}
use Rattle.bitpack_columns.specs.declared.column_error.ColumnError.TheVariants.{NotSorted}

pub returns-then-measured : goal.returns-then-measured
returns-then-measured c =
    let values : List ℕ = c.args.values.now in
    let n : ℕ = 128 * (length values / 128) in
    subst (λ (o : Option ℕ). Finds c.test_falls.result (option_map NotSorted o))
    (ap (first_below (c.args.position + n) c.args.measured.last) (take_rest values n)
    ∙ left_falls c.args.position c.args.before c.args.measured.last values (c.requires.rises c.if-measured.true) (c.requires.measured.last_is refl))
    c.test_falls.ensures
