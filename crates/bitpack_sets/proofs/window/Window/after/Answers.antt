-- The slice is of the chunks that the bytes state.
use Rattle.bitpack_sets.proofs.lemmas.reads.WindowLaws.{held_by}
use Rattle.bitpack_sets.proofs.window.Window.after.Goals as goal

pub from_place-requires-clause-holds : goal.from_place-requires-clause-holds
from_place-requires-clause-holds c =
    let set = c.args.set.now in
    let it = c.args.self.now in
    held_by set.bytes.now set.rest.now set.count set.chunks it.at it.end set.states c.requires.window.holds
