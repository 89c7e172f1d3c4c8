-- The numbers of one slice more are counted.
use Rattle.std.proofs.Common.{◌≡◌, ◌+◌, ◌-◌, ◌*◌, ◌<◌, ◌∙◌, ℕ, Bool, List, ap, arith, drop, length, refl, take}
use Rattle.bitpack_slices.proofs.lemmas.bits.BitmapLaws.{those_few, those_on}
use Rattle.bitpack_slices.proofs.lemmas.bodies.SetLaws.{bits_own}
use Rattle.bitpack_slices.proofs.lemmas.numbers.AnswerLaws.{those_same}
use Rattle.bitpack_slices.proofs.chunk.parts.Parts.count_as_bits_each.Goals as goal
use Rattle.bitpack_slices.specs.Bitmaps.{has_bit}
use Rattle.bitpack_slices.specs.Operations.{apply, those}
use Rattle.bitpack_slices.specs.Parts.{numbers_in_parts}
use Rattle.bitpack_slices.specs.Reads.{has}
use Rattle.bitpack_slices.specs.Slices.{number_of, ones_from}
use Rattle.bitpack_slices.specs.declared.chunk.parts.Parts.{Parts}

-- the bits of a slice
own_bits : (high i : ℕ) (parts : Parts) (words : List ℕ) → length parts.slices.now ≡ 8192 → high < 256 → i < 256
    → has_bit words i ≡ has i (ones_from (number_of (take (32 * high + 32 - 32 * high) (drop (32 * high) parts.slices.now))) 0 256)
    → has_bit words i ≡ has (256 * high + i) (numbers_in_parts parts)
own_bits high i parts words size small within own =
    let whole : 32 * high + 32 - 32 * high ≡ 32 = omega arith in
    own ∙ ap (λ (k : ℕ). has i (ones_from (number_of (take k (drop (32 * high) parts.slices.now))) 0 256)) whole
    ∙ bits_own high i parts.highs.now parts.counts.now parts.slices.now parts.few parts.occur parts.are size small within

pub loop-high-init : goal.loop-high-init
unfolding those
loop-high-init c = refl

pub overflow_add-count : goal.overflow_add-count
overflow_add-count c =
    let few = those_few (256 * c.loop-high.high) (λ x. apply c.args.operation (has x (numbers_in_parts c.args.self)) (has x (numbers_in_parts c.args.other))) in
    let more = those_few 256 (has_bit c.combined_words.result) in
    omega (arith, c.loop-high.invariant, c.count_bits-count.ensures)

pub loop-high-preserved : goal.loop-high-preserved
loop-high-preserved c =
    let h : ℕ = c.loop-high.high in
    let P : ℕ → Bool = λ x. apply c.args.operation (has x (numbers_in_parts c.args.self)) (has x (numbers_in_parts c.args.other)) in
    let next : 256 * (h + 1) ≡ 256 * h + 256 = omega arith in
    let more = ap (λ (n : ℕ). length (those n P)) next ∙ those_on P (256 * h) 256 in
    let same = ap length (those_same 256 (has_bit c.combined_words.result) (λ i. P (256 * h + i)) (λ i small.
    c.combined_words.ensures i small
    ∙ ap (λ (b : Bool). apply c.args.operation b (has_bit c.words_of-b.result i))
    (own_bits h i c.args.self c.words_of-a.result c.requires.bits (omega arith) small (c.words_of-a.ensures i small))
    ∙ ap (apply c.args.operation (has (256 * h + i) (numbers_in_parts c.args.self)))
    (own_bits h i c.args.other c.words_of-b.result c.requires.other_bits (omega arith) small (c.words_of-b.ensures i small)))) in
    omega (arith, c.loop-high.invariant, c.count_bits-count.ensures)
