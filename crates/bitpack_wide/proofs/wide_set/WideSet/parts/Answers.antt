-- The count that the encoding states is that of its ids.
use Rattle.bitpack_wide.proofs.StatedLaws.{count_is}
use Rattle.bitpack_wide.proofs.wide_set.WideSet.parts.Goals as goal

pub returns-clause-count : goal.returns-clause-count
returns-clause-count c = count_is c.args.self.now
