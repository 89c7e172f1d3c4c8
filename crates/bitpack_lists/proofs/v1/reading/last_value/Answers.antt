-- The values of a slice are words.
use Rattle.bitpacking.proofs.ForCallers.{AreWords-from_slice}
use Rattle.bitpack_lists.proofs.v1.reading.last_value.Goals as goal

pub returns-clause-words : goal.returns-clause-words
returns-clause-words c = AreWords-from_slice c.args.block.now c.type_inv.block
