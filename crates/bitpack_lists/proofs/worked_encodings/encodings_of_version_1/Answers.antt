-- The worked lists, by computing.
use Rattle.bitpack_lists.proofs.lemmas.laws.WorkedProofs.{worked_encodings1, worked_faults1}
use Rattle.bitpack_lists.proofs.worked_encodings.encodings_of_version_1.Goals as goal

pub returns : goal.returns
returns c = record { encodings = worked_encodings1; faults = worked_faults1 }
