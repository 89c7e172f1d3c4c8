-- One id more.
use Rattle.std.proofs.Common.{◌+◌, arith, refl, sym, ◌∙◌}
use Rattle.bitpack_sets.proofs.lemmas.faults.GapLaws.{over_done, over_found, over_next}
use Rattle.bitpack_sets.proofs.few.first_over.Goals as goal

pub loop-index-preserved : goal.loop-index-preserved
loop-index-preserved c = record {
  small = omega arith;
  so_far = c.loop-index.invariant.so_far ∙ over_next c.loop-index.index c.loop-index.id _ c.args.codes.now (omega arith) c.loop-index.invariant.small refl;
}

pub returns-then-id : goal.returns-then-id
returns-then-id c =
    sym (c.loop-index.invariant.so_far ∙ over_next c.loop-index.index c.loop-index.id _ c.args.codes.now (omega arith) c.loop-index.invariant.small refl ∙ over_found (c.loop-index.index + 1) _ _ (omega arith))

pub returns : goal.returns
returns c = sym (c.loop-index.invariant.so_far ∙ over_done c.loop-index.index c.loop-index.id c.args.codes.now (omega arith) c.loop-index.invariant.small)
