use Rattle.bitpack_queries.proofs.lemmas.two.RetainedLaws.{none_moved, one_moved}
use Rattle.bitpack_queries.proofs.in_place.move_below.Goals as goal

pub loop-moved-init : goal.loop-moved-init
loop-moved-init c = none_moved c.args.id c.args.written c.args.from c.args.values.now c.requires.1

pub loop-moved-preserved : goal.loop-moved-preserved
loop-moved-preserved c = one_moved c.args.id c.args.written c.args.from _ _ _ c.loop-moved.invariant c.requires.0 c.loop-moved-test.true c.if-values-from.true
