-- The numbers of the lowest high byte that is left are counted.
use Rattle.std.proofs.Common.{ℕ, ◌+◌, ◌∙◌, ap, arith, eqb, length, sym, w64}
use Rattle.std.proofs.lemmas.Bool.{not-true}
use Rattle.std.specs.Int.{trailing_zeros}
use Rattle.bitpack_slices.proofs.lemmas.bits.BitmapLaws.{those_few}
use Rattle.bitpack_slices.proofs.lemmas.bits.FourLaws.{next_is}
use Rattle.bitpack_slices.proofs.lemmas.slices.SelectionLaws.{lows_combined, passes}
use Rattle.bitpack_slices.proofs.lemmas.bits.WordLaws.{highs_few, no_high_left, still_there, word_counted, word_numbers}
use Rattle.bitpack_slices.proofs.blocks.combining.count_word.Goals as goal
use Rattle.bitpack_slices.specs.Selections.{numbers_at, parts_numbers}

pub overflow_add-high : goal.overflow_add-high
overflow_add-high g c = let next = next_is c.loop-left.left (omega (arith, c.loop-left-test.true)) c.loop-left.auto.left-fits.fits in omega (arith, next.within, c.requires.within)

pub slice_of-x-requires-clause-within : goal.slice_of-x-requires-clause-within
slice_of-x-requires-clause-within g c = let next = next_is c.loop-left.left (omega (arith, c.loop-left-test.true)) c.loop-left.auto.left-fits.fits in omega (arith, next.within, c.requires.within)

pub slice_of-y-requires-clause-within : goal.slice_of-y-requires-clause-within
slice_of-y-requires-clause-within g c = let next = next_is c.loop-left.left (omega (arith, c.loop-left-test.true)) c.loop-left.auto.left-fits.fits in omega (arith, next.within, c.requires.within)

pub slice_of-x-requires-clause-occurs : goal.slice_of-x-requires-clause-occurs
slice_of-x-requires-clause-occurs g c = λ e. let next = next_is c.loop-left.left (omega (arith, c.loop-left-test.true)) c.loop-left.auto.left-fits.fits in
    c.requires.in_left (sym c.retains_right.ensures ∙ not-true _ e) (trailing_zeros w64 c.loop-left.left) next.within (c.loop-left.invariant.bits (trailing_zeros w64 c.loop-left.left) (ap (λ (n : ℕ). eqb n 1) next.one))

pub slice_of-y-requires-clause-occurs : goal.slice_of-y-requires-clause-occurs
slice_of-y-requires-clause-occurs g c = λ e. let next = next_is c.loop-left.left (omega (arith, c.loop-left-test.true)) c.loop-left.auto.left-fits.fits in
    c.requires.in_right (sym c.retains_left.ensures ∙ not-true _ e) (trailing_zeros w64 c.loop-left.left) next.within (c.loop-left.invariant.bits (trailing_zeros w64 c.loop-left.left) (ap (λ (n : ℕ). eqb n 1) next.one))

pub loop-left-smaller : goal.loop-left-smaller
loop-left-smaller g c = let next = next_is c.loop-left.left (omega (arith, c.loop-left-test.true)) c.loop-left.auto.left-fits.fits in next.less

pub loop-left-init : goal.loop-left-init
loop-left-init g c = record { bits = λ k e. e; count = omega arith }

pub overflow_add-count : goal.overflow_add-count
overflow_add-count g c =
    let a = c.args.a.now in
    let b = c.args.b.now in
    let P = passes c.args.operation a b in
    let left = c.loop-left.left in
    let first = c.args.first in
    let own = c.count_both-count.ensures ∙ ap length (lows_combined c.args.operation (first + trailing_zeros w64 left) (numbers_at c.slice_of-x.result) (numbers_at c.slice_of-y.result) (parts_numbers a) (parts_numbers b)
    c.slice_of-x.ensures c.slice_of-y.ensures) in
    let more = word_counted P first left (omega (arith, c.loop-left-test.true)) c.loop-left.auto.left-fits.fits in
    let few = highs_few P first c.args.word c.requires.within in
    let all = those_few 65536 P in
    omega (arith, c.loop-left.invariant.count)

pub loop-left-preserved : goal.loop-left-preserved
loop-left-preserved g c =
    let a = c.args.a.now in
    let b = c.args.b.now in
    let P = passes c.args.operation a b in
    let left = c.loop-left.left in
    let first = c.args.first in
    let own = c.count_both-count.ensures ∙ ap length (lows_combined c.args.operation (first + trailing_zeros w64 left) (numbers_at c.slice_of-x.result) (numbers_at c.slice_of-y.result) (parts_numbers a) (parts_numbers b)
    c.slice_of-x.ensures c.slice_of-y.ensures) in
    let more = word_counted P first left (omega (arith, c.loop-left-test.true)) c.loop-left.auto.left-fits.fits in
    record { bits = still_there left c.args.word c.loop-left.invariant.bits; count = omega (arith, c.loop-left.invariant.count) }

pub returns : goal.returns
returns g c =
    let P = passes c.args.operation c.args.a.now c.args.b.now in
    let none = ap length (no_high_left P c.args.first c.loop-left.left c.loop-left-test.false) in
    let all = ap length (word_numbers P c.args.first c.args.word c.requires.within) in
    omega (arith, c.loop-left.invariant.count)
