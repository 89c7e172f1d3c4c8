-- One more block.
use Rattle.std.proofs.Common.{◌≡◌, ◌*◌, max, inl, inr, arith}
use Rattle.std.proofs.lemmas.Bool.{cases_lt}
use Rattle.bitpack_ranked.proofs.AddSteps.{greater}
use Rattle.bitpack_ranked.proofs.bounds.most_between.Goals as goal

pub loop-block-preserved : goal.loop-block-preserved
loop-block-preserved g c = λ k from upto within.
    let top : c.max-most.result ≡ max c.loop-block.most c.most_count.result = omega (arith, c.max-most.ensures, greater c.loop-block.most c.most_count.result) in
    elim (cases_lt k (128 * c.loop-block.block)) [
      | inl before ↦ omega (arith, c.loop-block.invariant k from before within, top)
      | inr here ↦ omega (arith, c.most_count.ensures k here upto within, top)
    ]
