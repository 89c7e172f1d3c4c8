-- One value more.
use Rattle.std.proofs.Common.{◌≡◌, ℕ, ◌+◌, drop, get_or, refl, arith, ◌∙◌, ap}
use Rattle.std.specs.Prelude.{max, min}
use Rattle.bitpack_columns.specs.Columns.{least}
use Rattle.bitpack_columns.proofs.MeasureLaws.{greatest_more, least_done, least_more, least_start}
use Rattle.bitpack_columns.proofs.encoding.measuring.bounds.Goals as goal

pub loop-index-init : goal.loop-index-init
loop-index-init c = record { small = omega arith; least = least_start c.args.values.now; greatest = refl }

pub loop-index-preserved : goal.loop-index-preserved
loop-index-preserved c =
    let i : ℕ = c.loop-index.index in
    let top : c.max-greatest.result ≡ max c.loop-index.greatest (get_or c.args.values.now i 0) = omega (arith, c.max-greatest.ensures) in
    record {
      small = c.min-least.type_inv;
      least = ap (λ (k : ℕ). min k (least (drop (i + 1) c.args.values.now))) c.min-least.ensures
          ∙ least_more c.loop-index.least i c.args.values.now c.loop-index-test.true c.loop-index.invariant.least;
      greatest = top ∙ greatest_more (λ k. get_or c.args.values.now k 0) c.loop-index.greatest i c.loop-index.invariant.greatest;
    }

pub returns-clause-least : goal.returns-clause-least
returns-clause-least c =
    least_done c.loop-index.least c.loop-index.index c.args.values.now c.loop-index-test.false c.loop-index.invariant.small c.loop-index.invariant.least
