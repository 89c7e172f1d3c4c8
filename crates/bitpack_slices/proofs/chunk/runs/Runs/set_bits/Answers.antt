-- The bits of one run more are set.
use Rattle.std.proofs.Common.{◌∙◌, ◌+◌, ◌*◌, ◌||◌, Bool, List, ℕ, ap, arith, sym}
use Rattle.std.proofs.Math.Bool.{or-false, or_comm}
use Rattle.bitpack_slices.proofs.lemmas.bodies.RunLaws.{has_run, or_moved, runs_done}
use Rattle.bitpack_slices.proofs.lemmas.numbers.HalfLaws.{pairs_len}
use Rattle.bitpack_slices.proofs.chunk.runs.Runs.set_bits.Goals as goal
use Rattle.bitpack_slices.specs.Bitmaps.{has_bit}
use Rattle.bitpack_slices.specs.Reads.{has}
use Rattle.bitpack_slices.specs.Runs.{runs_from}
use Rattle.bitpack_slices.specs.Slices.{pairs_of}

pub loop-index-init : goal.loop-index-init
loop-index-init c x = or_comm (has x (runs_from 0 c.args.self.bounds.now)) (has_bit c.args.words.now x)

pub loop-index-preserved : goal.loop-index-preserved
loop-index-preserved c x =
    c.loop-index.invariant x ∙ ap (λ (l : List ℕ). has_bit c.loop-index.words x || has x l) c.run-begin.ensures.first
    ∙ ap (λ (b : Bool). has_bit c.loop-index.words x || b) (has_run x _ _ _ c.run-begin.ensures.some)
    ∙ or_moved (has_bit c.loop-index.words x) _ _ ∙ sym (ap (λ (b : Bool). b || has x (runs_from (c.loop-index.index + 1) c.args.self.bounds.now)) (c.set_range.ensures x))

pub returns : goal.returns
returns c x small =
    let size = pairs_len c.args.self.bounds.now in
    sym (c.loop-index.invariant x ∙ ap (λ (l : List ℕ). has_bit c.loop-index.words x || has x l) (runs_done (2 * c.loop-index.index) (pairs_of c.args.self.bounds.now) (omega (arith, c.count-index-end.ensures.all, c.loop-index-test.false)))
    ∙ or-false (has_bit c.loop-index.words x))
