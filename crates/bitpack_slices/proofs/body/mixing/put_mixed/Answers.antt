-- The bits of a high byte, or none, are combined.
use Rattle.std.proofs.Common.{[], ◌+◌, ◌∙◌, ap, map, refl, sym}
use Rattle.bitpack_slices.proofs.lemmas.bytes.FollowLaws.{follow_as, follow_none}
use Rattle.bitpack_slices.proofs.lemmas.bodies.MixLaws.{none_given, none_mixed, some_mixed}
use Rattle.bitpack_slices.proofs.lemmas.slices.SelectionLaws.{only_left}
use Rattle.bitpack_slices.proofs.body.mixing.put_mixed.Goals as goal
use Rattle.bitpack_slices.specs.Selections.{numbers_at}

pub returns-then-test_bit : goal.returns-then-test_bit
returns-then-test_bit c =
    follow_as _ _ c.args.out.now c.put_bits.new.out c.args.at c.put_bits.result
    (ap (map (λ i. c.args.base + i)) (c.mix_bits-bits.ensures
    ∙ some_mixed c.args.operation c.args.others.now c.args.words.now (numbers_at c.args.slice) c.bits.result c.args.high (sym c.test_bit.ensures ∙ c.if-test_bit.true) c.bits.ensures))
    c.put_bits.ensures

pub returns-then-not-retains_left : goal.returns-then-not-retains_left
returns-then-not-retains_left c =
    follow_as [] _ c.args.out.now c.args.out.now c.args.at c.args.at
    (ap (map (λ i. c.args.base + i)) (sym (none_given c.args.operation c.args.others.now c.args.words.now (numbers_at c.args.slice) c.args.high (sym c.test_bit.ensures ∙ c.if-test_bit.false) (sym c.retains_left.ensures ∙ c.if-not-retains_left.true))))
    (follow_none c.args.out.now c.args.at)

pub returns : goal.returns
returns c =
    let own = numbers_at c.args.slice in
    follow_as _ _ c.args.out.now c.put_alone.new.out c.args.at c.put_alone.result
    (ap (map (λ i. c.args.base + i)) (only_left c.args.operation own [] c.args.slice.there.slice.rising refl (sym c.retains_left.ensures ∙ c.if-not-retains_left.false)
    ∙ none_mixed c.args.operation c.args.others.now c.args.words.now own [] c.args.high (sym c.test_bit.ensures ∙ c.if-test_bit.false) refl))
    c.put_alone.ensures
