-- The ids that are unpacked are those from a position on.
use Rattle.bitpack_sets.specs.Reads.{ids_in}
use Rattle.bitpack_sets.proofs.lemmas.reads.IdsLaws.{unpacked_get}
use Rattle.bitpack_sets.proofs.window.Window.value.Goals as goal

pub returns : goal.returns
returns c = λ bytes window.
    let it = c.args.self.now in
    unpacked_get it.next it.begin it.end it.unpacked (ids_in bytes) it.after c.if-self.false window.within window.values
