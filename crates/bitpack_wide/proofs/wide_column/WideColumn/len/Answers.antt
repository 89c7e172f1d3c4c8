-- There is a value for each position.
use Rattle.bitpack_wide.proofs.WideTables.{len_values}
use Rattle.bitpack_wide.proofs.wide_column.WideColumn.len.Goals as goal

pub returns : goal.returns
returns c = let self = c.args.self.now in len_values self.bytes.now self.count self.rest.now self.states
