-- The numbers of one step more are passed.
use Rattle.std.proofs.Common.{◌≡◌, ◌+◌, ◌-◌, ap, arith, drop, take, ◌∙◌, ℕ}
use Rattle.bitpack_slices.proofs.lemmas.numbers.SelectLaws.{numbers_none, numbers_step, slice_within}
use Rattle.bitpack_slices.proofs.chunk.search.step_of.Goals as goal
use Rattle.bitpack_slices.specs.Slices.{numbers_in}

pub loop-index-init : goal.loop-index-init
loop-index-init c =
    let none = numbers_none c.args.counts.now in
    record { within = slice_within c.args.counts.now 0 c.args.position c.args.position (omega arith) c.requires; passed = omega arith }

pub loop-index-preserved : goal.loop-index-preserved
loop-index-preserved c =
    let step = numbers_step c.args.counts.now c.loop-index.index 16 in
    let same : c.loop-index.index + 16 - c.loop-index.index ≡ 16 = omega arith in
    let numbers = c.count_numbers-numbers.ensures ∙ ap (λ (n : ℕ). numbers_in (take n (drop c.loop-index.index c.args.counts.now))) same in
    let passed = c.loop-index.invariant.passed in
    let next : numbers_in (take (c.loop-index.index + 16) c.args.counts.now) + (c.loop-index.left - c.count_numbers-numbers.result) ≡ c.args.position = omega (arith, c.if-left-numbers.false) in
    record { within = slice_within c.args.counts.now (c.loop-index.index + 16) _ c.args.position next c.requires; passed = next }
