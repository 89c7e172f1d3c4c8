-- An id more, and the last end.
use Rattle.std.proofs.Common.{arith}
use Rattle.bitpack_sets.proofs.lemmas.written.EndsFilled.{ends_done, ends_more, ends_start, slot_room}
use Rattle.bitpack_sets.proofs.lemmas.written.RunLaws.{chunk_few}
use Rattle.bitpack_sets.proofs.encoding.bodies.fill_ends.Goals as goal

pub loop-index-init : goal.loop-index-init
loop-index-init c = ends_start c.args.ids.now c.args.ends.now c.requires.chunk c.requires.some c.requires.count

pub overflow_cast-ends : goal.overflow_cast-ends
overflow_cast-ends c = let few = chunk_few c.args.ids.now c.requires.chunk in omega arith

pub bounds-ends-slot : goal.bounds-ends-slot
bounds-ends-slot c = slot_room c.args.ids.now c.loop-index.ends c.loop-index.index c.loop-index.slot c.loop-index.invariant

pub loop-index-preserved : goal.loop-index-preserved
loop-index-preserved c = ends_more c.args.ids.now c.loop-index.ends c.loop-index.index c.loop-index.slot c.loop-index.invariant c.loop-index-test.true

pub overflow_cast-ends-2 : goal.overflow_cast-ends-2
overflow_cast-ends-2 c = let few = chunk_few c.args.ids.now c.requires.chunk in omega arith

pub bounds-ends-slot-2 : goal.bounds-ends-slot-2
bounds-ends-slot-2 c = slot_room c.args.ids.now c.loop-index.ends c.loop-index.index c.loop-index.slot c.loop-index.invariant

pub returns : goal.returns
returns c = ends_done c.args.ids.now c.loop-index.ends c.loop-index.index c.loop-index.slot c.loop-index.invariant c.loop-index-test.false
