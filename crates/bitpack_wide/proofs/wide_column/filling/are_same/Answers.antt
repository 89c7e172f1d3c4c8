-- One id more.
use Rattle.std.proofs.Common.{◌≡◌, ◌+◌, ◌-◌, ℕ, Bool, ◌&&◌, eqb, get_or, ap, arith, sym, ◌∙◌}
use Rattle.bitpack_wide.specs.WideColumnFaults.{each_below}
use Rattle.bitpack_wide.specs.inner.WideColumnSteps.{same_at}
use Rattle.bitpack_wide.proofs.WideSteps.{each_next, each_start}
use Rattle.bitpack_wide.proofs.wide_column.filling.are_same.Goals as goal

pub loop-index-init : goal.loop-index-init
loop-index-init c = λ number begin from is e last. sym (each_start (same_at number begin c.args.found.now 0))

pub loop-index-preserved : goal.loop-index-preserved
loop-index-preserved c = λ number begin from is e last.
    let i : ℕ = c.loop-index.index in
    let id : ℕ = get_or c.args.found.now i 0 in
    let low = c.requires.least i c.loop-index-test.true in
    let high = c.requires.most i c.loop-index-test.true in
    let at : ℕ = id - c.args.position in
    let here : get_or c.args.part.now at 0 ≡ number (id - begin) =
    is at (omega (arith, low, high)) ∙ ap number (let f : from + at ≡ id - begin = omega (arith, low, e) in f) in
    let before : c.before-in-loop-index.result ≡ number (id - begin - 1) =
    c.before-in-loop-index.ensures number from is last ∙ ap number (let f : from + at - 1 ≡ id - begin - 1 = omega (arith, low, e) in f) in
    ap (λ (b : Bool). b && eqb (get_or c.args.part.now at 0) c.before-in-loop-index.result) (c.loop-index.invariant number begin from is e last)
    ∙ ap (λ (n : ℕ). each_below (same_at number begin c.args.found.now 0) i && eqb n c.before-in-loop-index.result) here
    ∙ ap (λ (n : ℕ). each_below (same_at number begin c.args.found.now 0) i && eqb (number (id - begin)) n) before
    ∙ ap (λ (n : ℕ). each_below (same_at number begin c.args.found.now 0) i && eqb (number (get_or c.args.found.now n 0 - begin)) (number (get_or c.args.found.now n 0 - begin - 1)))
    (let z : i ≡ 0 + i = omega arith in z)
    ∙ sym (each_next (same_at number begin c.args.found.now 0) i)

pub returns : goal.returns
returns c = λ number begin from is e last.
    c.loop-index.invariant number begin from is e last
    ∙ ap (each_below (same_at number begin c.args.found.now 0)) (omega (arith, c.loop-index.auto.index-end, c.loop-index-test.false))
