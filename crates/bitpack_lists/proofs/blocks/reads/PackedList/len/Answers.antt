-- The count of the header is the length of the values.
use Rattle.std.proofs.Common.{sym}
use Rattle.bitpack_lists.proofs.lemmas.opened.OpenedValues.{length-values}
use Rattle.bitpack_lists.proofs.blocks.reads.PackedList.len.Goals as goal

pub returns : goal.returns
returns g c = sym (length-values c.args.self.now)
