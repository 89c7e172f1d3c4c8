-- One lane more is looked at.
use Rattle.bitpack_lists.proofs.lemmas.blocks.LooseLemmas.{any_step}
use Rattle.std.proofs.Common.{refl}
use Rattle.bitpack_lists.proofs.blocks.testing.has_bit.Goals as goal

pub loop-lane-preserved : goal.loop-lane-preserved
loop-lane-preserved c =
    any_step c.loop-lane.lane c.args.lanes c.args.bit c.loop-lane.bytes _ c.args.body.now refl c.loop-lane.invariant
