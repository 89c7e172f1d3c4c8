-- The bits of one high byte more are clear.
use Rattle.std.proofs.Common.{◌≡◌, ◌*◌, ◌+◌, ◌-◌, ◌∙◌, ap, arith, false, get_or, length, replicate, sym, ℕ}
use Rattle.bitpack_groups.proofs.ForCallers.{length-written}
use Rattle.bitpack_slices.proofs.lemmas.bytes.DecodeLaws.{rising_top}
use Rattle.bitpack_slices.proofs.lemmas.bodies.LoadLaws.{bit_clear, four_words, high_written}
use Rattle.bitpack_slices.proofs.bitmap.loading.clear.Goals as goal

pub slice_bounds-fill-end : goal.slice_bounds-fill-end
slice_bounds-fill-end c = let few = rising_top 0 256 c.loop-high.high-index c.args.highs.now c.requires c.loop-high-test.true in omega arith

pub loop-high-preserved : goal.loop-high-preserved
loop-high-preserved c =
    let few = rising_top 0 256 c.loop-high.high-index c.args.highs.now c.requires c.loop-high-test.true in
    let size = c.loop-high.invariant.size in
    let from : ℕ = 4 * get_or c.args.highs.now c.loop-high.high-index 0 in
    let long : from + 4 - from ≡ 4 = omega arith in
    let zeros : c.fill.new.self ≡ replicate 4 0 = c.fill.ensures.after (λ y e. e) ∙ ap (λ (n : ℕ). replicate n 0) (four_words from c.loop-high.words (omega arith)) in
    let four : length c.fill.new.self ≡ 4 = ap length zeros in
    record {
      size = length-written from (from + 4 - from) c.loop-high.words c.fill.new.self (omega arith) (four ∙ sym long) (omega arith) ∙ size;
      clear = high_written (λ x. false) c.loop-high.high-index from (from + 4 - from) c.args.highs.now c.loop-high.words c.fill.new.self c.loop-high-test.true (omega arith) long four (omega arith)
          (λ y small. bit_clear y c.fill.new.self zeros small) c.loop-high.invariant.clear;
    }
