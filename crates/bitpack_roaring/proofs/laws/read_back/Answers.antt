-- There and back.
use Rattle.bitpack_roaring.proofs.BodyBack.{ids_back}
use Rattle.bitpack_roaring.proofs.FaultBack.{no_fault}
use Rattle.bitpack_roaring.proofs.laws.read_back.Goals as goal

pub returns-clause-fault : goal.returns-clause-fault
returns-clause-fault c = no_fault

pub returns-clause-ids : goal.returns-clause-ids
returns-clause-ids c = ids_back
