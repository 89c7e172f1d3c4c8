-- One run more is looked at.
use Rattle.std.proofs.Common.{◌∙◌, ◌*◌, ◌||◌, Bool, List, ℕ, ap, arith, sym}
use Rattle.bitpack_slices.proofs.lemmas.bodies.ReadLaws.{or_assoc}
use Rattle.bitpack_slices.proofs.lemmas.bodies.RunLaws.{has_run, runs_done}
use Rattle.bitpack_slices.proofs.lemmas.numbers.HalfLaws.{pairs_len}
use Rattle.std.proofs.Math.Bool.{or-false}
use Rattle.bitpack_slices.proofs.chunk.runs.Runs.contains.Goals as goal
use Rattle.bitpack_slices.specs.Reads.{has}
use Rattle.bitpack_slices.specs.Slices.{pairs_of}

pub loop-index-preserved : goal.loop-index-preserved
loop-index-preserved c =
    c.loop-index.invariant ∙ ap (λ (l : List ℕ). c.loop-index.found || has c.args.number l) c.run-begin.ensures.first
    ∙ ap (λ (b : Bool). c.loop-index.found || b) (has_run c.args.number _ _ _ c.run-begin.ensures.some)
    ∙ or_assoc c.loop-index.found _ _

pub returns : goal.returns
returns c =
    let size = pairs_len c.args.self.bounds.now in
    sym (c.loop-index.invariant ∙ ap (λ (l : List ℕ). c.loop-index.found || has c.args.number l) (runs_done (2 * c.loop-index.index) (pairs_of c.args.self.bounds.now) (omega (arith, c.count-index-end.ensures.all, c.loop-index-test.false)))
    ∙ or-false c.loop-index.found)
