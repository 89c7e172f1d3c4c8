-- An id that is another is passed.
use Rattle.std.proofs.Common.{◌∙◌, sym}
use Rattle.bitpack_slices.proofs.ForCallers.{has_done, has_here, has_next}
use Rattle.bitpack_sets.proofs.few.is_member.Goals as goal

pub loop-other-preserved : goal.loop-other-preserved
loop-other-preserved c = c.loop-other.invariant ∙ has_next c.args.id c.args.ids.now c.loop-other.other-index c.loop-other-test.true c.if-other-id.false

pub returns-then-other-id : goal.returns-then-other-id
returns-then-other-id c = sym (c.loop-other.invariant ∙ has_here c.args.id c.args.ids.now c.loop-other.other-index c.loop-other-test.true c.if-other-id.true)

pub returns : goal.returns
returns c = sym (c.loop-other.invariant ∙ has_done c.args.id c.args.ids.now c.loop-other.other-index c.loop-other-test.false)
