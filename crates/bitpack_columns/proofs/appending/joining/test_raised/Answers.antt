-- One value more is no word with the base, or is.
use Rattle.std.proofs.Common.{◌≡◌, ℕ, length, ap, sym, ◌∙◌, arith}
use Rattle.bitpack_columns.specs.declared.column_error.ColumnError.TheVariants.{Overflow}
use Rattle.bitpack_columns.specs.Faults.{first_of}
use Rattle.bitpack_columns.specs.Written.{overflow_at}
use Rattle.bitpack_columns.proofs.JoinLaws.{fits_at, large_at, no_overflow}
use Rattle.bitpack_columns.proofs.OpeningLaws.{first_found, first_more, first_start}
use Rattle.bitpack_columns.proofs.appending.joining.test_raised.Goals as goal

pub returns-then-greatest-most : goal.returns-then-greatest-most
returns-then-greatest-most c = no_overflow c.args.base c.args.values.now (omega (arith, c.bounds-greatest.ensures.greatest))

pub loop-index-init : goal.loop-index-init
loop-index-init c = first_start (overflow_at c.args.base c.args.values.now)

pub returns-then-values-index : goal.returns-then-values-index
returns-then-values-index c =
    let index : ℕ = c.loop-index.index in
    first_found (overflow_at c.args.base c.args.values.now) (length c.args.values.now) index (Overflow index) c.loop-index-test.true c.loop-index.invariant
    (large_at c.args.base c.args.values.now index (omega arith))

pub loop-index-preserved : goal.loop-index-preserved
loop-index-preserved c =
    let index : ℕ = c.loop-index.index in
    first_more (overflow_at c.args.base c.args.values.now) index c.loop-index.invariant (fits_at c.args.base c.args.values.now index (omega arith))

pub returns : goal.returns
returns c =
    let end : c.loop-index.index ≡ length c.args.values.now = omega arith in
    ap (first_of (overflow_at c.args.base c.args.values.now)) (sym end) ∙ c.loop-index.invariant
