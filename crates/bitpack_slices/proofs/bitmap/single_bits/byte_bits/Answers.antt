-- At first the bits of the last bytes, and then those of four bytes more.
use Rattle.std.proofs.Common.{Bool, ◌||◌, ◌*◌, ◌+◌, ◌-◌, ◌/◌, ◌≡◌, ◌∙◌, ap, arith, drop, length, take}
use Rattle.std.proofs.lemmas.List.{take_all}
use Rattle.bitpack_slices.proofs.lemmas.bits.BitmapLaws.{has_none}
use Rattle.bitpack_slices.proofs.lemmas.bytes.EqualLaws.{fours_done, fours_more, tail_whole}
use Rattle.bitpack_slices.proofs.bitmap.single_bits.byte_bits.Goals as goal
use Rattle.bitpack_slices.specs.Reads.{has}

pub loop-step-init : goal.loop-step-init
loop-step-init c = λ i small. c.set_four.ensures i small ∙ ap (λ (b : Bool). b || has i c.four_of.result) (has_none 4 i) ∙ c.four_of.ensures i
    ∙ ap (has i) (tail_whole (4 * ((length c.args.bytes.now - 1) / 4)) c.args.bytes.now)

pub loop-step-preserved : goal.loop-step-preserved
loop-step-preserved c = λ i small.
    let four : 4 * c.loop-step.step + 4 - 4 * c.loop-step.step ≡ 4 = omega arith in
    let more = take (4 * c.loop-step.step + 4 - 4 * c.loop-step.step) (drop (4 * c.loop-step.step) c.args.bytes.now) in
    c.set_four-in-loop-step.ensures i small ∙ ap (λ (b : Bool). b || has i more) (c.loop-step.invariant i small)
    ∙ fours_more i c.args.bytes.now c.loop-step.step _ _ four

pub returns : goal.returns
returns c = λ i small. c.loop-step.invariant i small ∙ fours_done i c.args.bytes.now c.loop-step.step _ (omega arith)

pub returns-then-bytes-eq0 : goal.returns-then-bytes-eq0
returns-then-bytes-eq0 c = λ i small. has_none 4 i ∙ ap (has i) (take_all 0 c.args.bytes.now (omega arith))
