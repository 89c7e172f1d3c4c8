-- The high bytes of one run more are set.
use Rattle.std.proofs.Common.{◌∙◌, ◌+◌, ◌*◌, ◌||◌, Bool, List, ℕ, ap, arith, sym}
use Rattle.bitpack_slices.proofs.lemmas.bits.BitmapLaws.{has_none}
use Rattle.bitpack_slices.proofs.lemmas.bodies.RunLaws.{high_run, or_moved, runs_done}
use Rattle.bitpack_slices.proofs.lemmas.numbers.HalfLaws.{pairs_len}
use Rattle.std.proofs.Math.Bool.{or-false}
use Rattle.bitpack_slices.proofs.chunk.runs.Runs.high_bits.Goals as goal
use Rattle.bitpack_slices.specs.Bitmaps.{has_bit, has_high}
use Rattle.bitpack_slices.specs.Runs.{runs_from}
use Rattle.bitpack_slices.specs.Slices.{pairs_of}

pub loop-index-init : goal.loop-index-init
loop-index-init c h = sym (ap (λ (b : Bool). b || has_high h (runs_from 0 c.args.self.bounds.now)) (has_none 4 h))

pub loop-index-preserved : goal.loop-index-preserved
loop-index-preserved c h =
    c.loop-index.invariant h ∙ ap (λ (l : List ℕ). has_bit c.loop-index.highs h || has_high h l) c.run-begin.ensures.first
    ∙ ap (λ (b : Bool). has_bit c.loop-index.highs h || b) (high_run h _ _ _ c.run-begin.ensures.some)
    ∙ or_moved (has_bit c.loop-index.highs h) _ _ ∙ sym (ap (λ (b : Bool). b || has_high h (runs_from (c.loop-index.index + 1) c.args.self.bounds.now)) (c.set_range.ensures h))

pub returns : goal.returns
returns c h small =
    let size = pairs_len c.args.self.bounds.now in
    sym (c.loop-index.invariant h ∙ ap (λ (l : List ℕ). has_bit c.loop-index.highs h || has_high h l) (runs_done (2 * c.loop-index.index) (pairs_of c.args.self.bounds.now) (omega (arith, c.count-index-end.ensures.all, c.loop-index-test.false)))
    ∙ or-false (has_bit c.loop-index.highs h))
