-- The bounds of a block tell of its values.
use Rattle.std.proofs.Common.{◌<◌, ◌*◌, ◌+◌, ◌⊎◌, ℕ, get_or, sym, ap, ◌∙◌, inl, inr, arith}
use Rattle.bitpack_columns.specs.Opened.{values}
use Rattle.bitpack_columns.specs.Searches.{decided}
use Rattle.bitpack_columns.proofs.WithinLaws.{between_above, between_below, between_true, decided_false, decided_none, decided_true}
use Rattle.bitpack_columns.proofs.column.Column.decide.Goals as goal

pub returns-then-high-least-clause-block : goal.returns-then-high-least-clause-block
returns-then-high-least-clause-block c lt =
    let low : ℕ = c.args.low in
    let bounds = c.plain_bounds-least in
    let out : (bounds.result.1 < low) ⊎ (c.args.high < bounds.result.0) =
    elim c.if-high-least.either [
      | inl below ↦ inl below
      | inr above ↦ inr above.1
    ] in
    sym (decided_false low c.args.high bounds.result.0 bounds.result.1 out)
    ∙ ap (λ least. decided low c.args.high least bounds.result.1) bounds.ensures.least ∙ ap (decided low c.args.high _) bounds.ensures.greatest

pub returns-then-high-least-clause-none : goal.returns-then-high-least-clause-none
returns-then-high-least-clause-none c is k within =
    let bounds = c.plain_bounds-least in
    let are = bounds.ensures.bounds in
    let v : ℕ = get_or (values c.args.self.now) (128 * c.args.block + k) 0 in
    elim c.if-high-least.either [
      | inl below ↦ between_below c.args.low c.args.high v (omega (arith, below, are.high k within))
      | inr above ↦ between_above c.args.low c.args.high v (omega (arith, above.1, are.low k within))
    ]

pub returns-then-greatest-high-clause-block : goal.returns-then-greatest-high-clause-block
returns-then-greatest-high-clause-block c lt =
    let bounds = c.plain_bounds-least in
    sym (decided_true c.args.low c.args.high bounds.result.0 bounds.result.1 c.if-high-least.false.0 c.if-high-least.false.1 c.if-low-least.true c.if-greatest-high.true)
    ∙ ap (λ least. decided c.args.low c.args.high least bounds.result.1) bounds.ensures.least ∙ ap (decided c.args.low c.args.high _) bounds.ensures.greatest

pub returns-then-greatest-high-clause-all : goal.returns-then-greatest-high-clause-all
returns-then-greatest-high-clause-all c is k within =
    let bounds = c.plain_bounds-least in
    let are = bounds.ensures.bounds in
    let v : ℕ = get_or (values c.args.self.now) (128 * c.args.block + k) 0 in
    between_true c.args.low c.args.high v (omega (arith, c.if-low-least.true, are.low k within)) (omega (arith, c.if-greatest-high.true, are.high k within))

pub returns-else-low-least-clause-block : goal.returns-else-low-least-clause-block
returns-else-low-least-clause-block c lt =
    let bounds = c.plain_bounds-least in
    let cut : (bounds.result.0 < c.args.low) ⊎ (c.args.high < bounds.result.1) =
    elim c.else-low-least.either [
      | inl above ↦ inr above.1
      | inr below ↦ inl below
    ] in
    sym (decided_none c.args.low c.args.high bounds.result.0 bounds.result.1 c.if-high-least.false.0 c.if-high-least.false.1 cut)
    ∙ ap (λ least. decided c.args.low c.args.high least bounds.result.1) bounds.ensures.least ∙ ap (decided c.args.low c.args.high _) bounds.ensures.greatest
