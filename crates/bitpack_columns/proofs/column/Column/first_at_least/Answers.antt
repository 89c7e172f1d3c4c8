-- The value at the bound is the first that is at least the target.
use Rattle.std.proofs.Common.{◌≡◌, ◌+◌, ◌<◌, ℕ, get_or, Some, length, sym, ◌∙◌, ap, arith}
use Rattle.bitpack_columns.specs.Opened.{values}
use Rattle.bitpack_columns.proofs.SeekLaws.{first_at, first_none}
use Rattle.bitpack_columns.proofs.column.Column.first_at_least.Goals as goal

pub returns-then-position-len-clause-found : goal.returns-then-position-len-clause-found
returns-then-position-len-clause-found c =
    let bound = c.lower_bound-position.ensures in
    let position : ℕ = c.lower_bound-position.result in
    let lt : position < length (values c.args.self.now) = omega (arith, c.if-position-len.true, c.len.ensures) in
    let here : 0 + position ≡ position = omega arith in
    ap (λ value. Some (position, value)) (bound.value lt) ∙ ap (λ n. Some (n, get_or (values c.args.self.now) position 0)) (sym here)
    ∙ sym (first_at c.args.target 0 position (values c.args.self.now) lt bound.bound.below (bound.bound.others position (omega arith) lt))

pub returns-else-position-len-clause-found : goal.returns-else-position-len-clause-found
returns-else-position-len-clause-found c =
    let bound = c.lower_bound-position.ensures.bound in
    sym (first_none c.args.target 0 (values c.args.self.now) (λ k lt. bound.below k (omega (arith, lt, c.if-position-len.false, c.len.ensures))))
