-- Four or two bytes are an id.
use Rattle.std.proofs.Common.{sym}
use Rattle.bitpack_slices.proofs.lemmas.numbers.ListLaws.{listed_short, listed_wide}
use Rattle.bitpack_slices.proofs.listed.Listed.len.Goals as goal

pub returns-then-self : goal.returns-then-self
returns-then-self c = let list = c.args.self.now in sym (listed_wide list.wide list.base list.bytes.now c.if-self.true)

pub returns-else-self : goal.returns-else-self
returns-else-self c = let list = c.args.self.now in sym (listed_short list.wide list.base list.bytes.now c.if-self.false)
