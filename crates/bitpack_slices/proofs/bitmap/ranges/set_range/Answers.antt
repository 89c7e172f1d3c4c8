-- The range goes on in one word more.
use Rattle.std.proofs.Common.{◌≡◌, ◌+◌, ◌*◌, ◌/◌, ◌∙◌, ◌≤◌, ◌||◌, ◌&&◌, ap, arith, leb, length-set, ℕ, ltb}
use Rattle.std.proofs.Math.Nat.{le-min, min-le_left, min-le_right}
use Rattle.bitpack_slices.proofs.lemmas.bits.RangeBits.{range_more, range_none}
use Rattle.bitpack_slices.proofs.bitmap.ranges.set_range.Goals as goal
use Rattle.bitpack_slices.specs.Bitmaps.{has_bit}

pub loop-at-init : goal.loop-at-init
loop-at-init c = record { size = omega arith; from_on = omega arith; within = c.requires.order; bits = λ i. range_none c.args.from i (has_bit c.args.words.now i) }

pub loop-at-preserved : goal.loop-at-preserved
loop-at-preserved c =
    let before = c.loop-at.invariant.from_on in
    let size = c.loop-at.invariant.size in
    let less = c.loop-at-test.true in
    let end = c.min-end.ensures in
    let word = min-le_left (c.loop-at.at / 64 * 64 + 64) c.args.to in
    let last = min-le_right (c.loop-at.at / 64 * 64 + 64) c.args.to in
    let more : c.loop-at.at + 1 ≤ c.min-end.result = omega (arith, le-min {k = c.loop-at.at + 1} {a = c.loop-at.at / 64 * 64 + 64} {b = c.args.to} (omega arith) (omega arith)) in
    record {
      size = length-set c.loop-at.words _ _ ∙ size;
      from_on = omega arith;
      within = omega arith;
      bits = λ i. range_more c.loop-at.words c.args.from c.loop-at.at c.min-end.result c.ones.result i (has_bit c.args.words.now i) before (omega arith) (omega arith)
          (omega (arith, c.requires.within)) c.ones.ensures (c.loop-at.invariant.bits i);
    }

pub returns : goal.returns
returns c i =
    let within = c.loop-at.invariant.within in
    let same : c.loop-at.at ≡ c.args.to = omega (arith, c.loop-at-test.false) in
    c.loop-at.invariant.bits i ∙ ap (λ (k : ℕ). (leb c.args.from i && ltb i k) || has_bit c.args.words.now i) same
