-- The worked lists, by computing.
use Rattle.bitpack_lists.proofs.lemmas.laws.WorkedProofs.{worked_encodings2, worked_faults2}
use Rattle.bitpack_lists.proofs.worked_encodings.encodings_of_version_2.Goals as goal

pub returns : goal.returns
returns c = record { encodings = worked_encodings2; faults = worked_faults2 }
