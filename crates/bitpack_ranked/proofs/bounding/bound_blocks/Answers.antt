-- One block more has its bound.
use Rattle.std.proofs.Common.{inl, inr, arith}
use Rattle.std.proofs.lemmas.Bool.{cases_eq}
use Rattle.std.proofs.lemmas.List.{get_or-set_other, get_or-set_same}
use Rattle.bitpack_ranked.proofs.bounding.bound_blocks.Goals as goal

pub loop-block-preserved : goal.loop-block-preserved
loop-block-preserved g c = λ m upto.
    let b = c.loop-block.block in
    let bounds = c.loop-block.bounds in
    let most = c.greatest_in.result in
    elim (cases_eq m b) [
      | inl at ↦ rw (at, get_or-set_same bounds b most 0 (omega arith)) c.greatest_in.ensures
      | inr other ↦ rw (get_or-set_other bounds b m most 0 other) (c.loop-block.invariant m (omega (arith, upto, other)))
    ]
