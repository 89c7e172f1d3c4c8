-- One word more is counted.
use Rattle.std.proofs.Common.{◌*◌, ◌+◌, ◌≡◌, ◌∙◌, ap, arith, length, refl, ℕ}
use Rattle.bitpack_slices.proofs.lemmas.bits.BitmapLaws.{ones_counted_more, those_few}
use Rattle.bitpack_slices.proofs.bitmap.bodies.count_words.Goals as goal
use Rattle.bitpack_slices.specs.Bitmaps.{has_bit}
use Rattle.bitpack_slices.specs.Operations.{those}

pub loop-word-init : goal.loop-word-init
unfolding those
loop-word-init c = refl

pub overflow_add-count : goal.overflow_add-count
overflow_add-count c =
    let more = ones_counted_more c.args.words.now c.loop-word.word-index in
    let few = those_few (64 * (c.loop-word.word-index + 1)) (has_bit c.args.words.now) in
    omega (arith, c.ones_in-count.ensures.count)

pub loop-word-preserved : goal.loop-word-preserved
loop-word-preserved c =
    let more = ones_counted_more c.args.words.now c.loop-word.word-index in
    omega (arith, c.ones_in-count.ensures.count)

pub returns-clause-count : goal.returns-clause-count
returns-clause-count c =
    let all : 64 * c.loop-word.word-index ≡ 65536 = omega arith in
    c.loop-word.invariant ∙ ap (λ (n : ℕ). length (those n (has_bit c.args.words.now))) all

pub returns-clause-few : goal.returns-clause-few
returns-clause-few c =
    let few = those_few (64 * c.loop-word.word-index) (has_bit c.args.words.now) in
    omega arith
