-- The numbers of one word more are counted.
use Rattle.std.proofs.Common.{ℕ, ◌+◌, ◌*◌, ◌≡◌, ◌∙◌, ap, arith, get_or, length, length-append, sym}
use Rattle.bitpack_slices.proofs.lemmas.bits.BitmapLaws.{those_few}
use Rattle.bitpack_slices.proofs.lemmas.slices.SelectionLaws.{listed, passes}
use Rattle.bitpack_slices.proofs.lemmas.bits.UnpackLaws.{by_high}
use Rattle.bitpack_slices.proofs.lemmas.bits.WordLaws.{bit_in_word, word_numbers, words_few, words_more}
use Rattle.bitpack_slices.proofs.blocks.combining.count_each.Goals as goal
use Rattle.bitpack_slices.specs.Bitmaps.{has_bit}
use Rattle.bitpack_slices.specs.Operations.{those}
use Rattle.bitpack_slices.specs.Selections.{word_highs}

pub loop-word-init : goal.loop-word-init
unfolding those
loop-word-init g c = omega arith

pub count_word-count-requires-clause-in_left : goal.count_word-count-requires-clause-in_left
count_word-count-requires-clause-in_left g c = λ lacks i small is.
    c.possible_highs-occur.ensures.in_left lacks (64 * c.loop-word.word + i) (omega arith) (sym (bit_in_word c.possible_highs-occur.result c.loop-word.word i small) ∙ is)

pub count_word-count-requires-clause-in_right : goal.count_word-count-requires-clause-in_right
count_word-count-requires-clause-in_right g c = λ lacks i small is.
    c.possible_highs-occur.ensures.in_right lacks (64 * c.loop-word.word + i) (omega arith) (sym (bit_in_word c.possible_highs-occur.result c.loop-word.word i small) ∙ is)

pub overflow_add-count : goal.overflow_add-count
overflow_add-count g c =
    let P = passes c.args.operation c.args.a.now c.args.b.now in
    let occur = c.possible_highs-occur.result in
    let q = c.loop-word.word in
    let size = ap length (words_more P occur q) ∙ length-append (by_high P (those (64 * q) (has_bit occur))) (by_high P (word_highs (64 * q) (get_or occur q 0))) in
    let same = ap length (word_numbers P (64 * q) (get_or occur q 0) (omega arith)) in
    let few = words_few P occur (64 * (q + 1)) (omega arith) in
    let all = those_few 65536 P in
    omega (arith, c.loop-word.invariant, c.count_word-count.ensures)

pub loop-word-preserved : goal.loop-word-preserved
loop-word-preserved g c =
    let P = passes c.args.operation c.args.a.now c.args.b.now in
    let occur = c.possible_highs-occur.result in
    let q = c.loop-word.word in
    let size = ap length (words_more P occur q) ∙ length-append (by_high P (those (64 * q) (has_bit occur))) (by_high P (word_highs (64 * q) (get_or occur q 0))) in
    let same = ap length (word_numbers P (64 * q) (get_or occur q 0) (omega arith)) in
    omega (arith, c.loop-word.invariant, c.count_word-count.ensures)

pub returns : goal.returns
returns g c =
    let P = passes c.args.operation c.args.a.now c.args.b.now in
    let occur = c.possible_highs-occur in
    let end : 64 * c.loop-word.word ≡ 256 = omega arith in
    c.loop-word.invariant ∙ ap (λ (n : ℕ). length (by_high P (those n (has_bit occur.result)))) end
    ∙ ap length (sym (listed c.args.operation c.args.a.now c.args.b.now occur.result occur.ensures.both occur.ensures.left occur.ensures.right))
