-- The count that the encoding states is that of its ids.
use Rattle.bitpack_wide.proofs.StatedLaws.{count_is}
use Rattle.bitpack_wide.proofs.wide_set.WideSet.len.Goals as goal

pub returns : goal.returns
returns c = count_is c.args.self.now
