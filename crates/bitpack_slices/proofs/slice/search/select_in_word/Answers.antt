-- The lowest bit that is left is passed.
use Rattle.std.proofs.Common.{◌<◌, ◌∙◌, ℕ, ap, arith, get_or, length}
use Rattle.bitpack_slices.proofs.lemmas.bits.FourLaws.{next_is}
use Rattle.bitpack_slices.proofs.lemmas.numbers.SelectLaws.{first_left, next_left, some_left}
use Rattle.bitpack_slices.proofs.slice.search.select_in_word.Goals as goal
use Rattle.bitpack_slices.specs.Slices.{ones_from}

pub loop-preserved : goal.loop-preserved
loop-preserved c =
    let lt : c.loop.counter < length (ones_from c.args.word 0 64) = omega arith in
    let some = some_left c.loop.left c.loop.counter (ones_from c.args.word 0 64) c.loop.invariant lt in
    next_left _ c.loop.counter _ _ (ones_from c.args.word 0 64) c.loop.invariant lt (next_is c.loop.left some c.loop.auto.left-fits.fits).ones

pub returns : goal.returns
returns c =
    let lt : c.loop.counter < length (ones_from c.args.word 0 64) = omega (arith, c.loop.auto.counter-end) in
    let some = some_left c.loop.left c.loop.counter (ones_from c.args.word 0 64) c.loop.invariant lt in
    first_left _ c.loop.counter _ _ (ones_from c.args.word 0 64) c.loop.invariant lt (next_is c.loop.left some c.loop.auto.left-fits.fits).ones
    ∙ ap (λ (n : ℕ). get_or (ones_from c.args.word 0 64) n 0) (omega (arith, c.loop.auto.counter-end))
