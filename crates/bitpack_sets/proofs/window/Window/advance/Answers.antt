-- The id after the next one is unpacked.
use Rattle.std.proofs.Common.{◌+◌, arith}
use Rattle.bitpack_sets.specs.Opened.{ids}
use Rattle.bitpack_sets.proofs.lemmas.reads.IdsLaws.{unpacked_get}
use Rattle.bitpack_sets.proofs.window.Window.advance.Goals as goal

pub returns-then-self-gt1-clause-id : goal.returns-then-self-gt1-clause-id
returns-then-self-gt1-clause-id c =
    let it = c.args.self.now in
    let window = c.requires.window in
    unpacked_get (it.next + 1) it.begin it.end it.unpacked (ids c.args.set.now) (let after = it.after in omega arith) (omega (arith, c.if-self-gt1.true)) window.within window.values
