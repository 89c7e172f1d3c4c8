-- The worked sets, by computing.
use Rattle.bitpack_sets.proofs.lemmas.words.WorkedProofs.{worked_changes, worked_faults, worked_full, worked_long, worked_runs, worked_short}
use Rattle.bitpack_sets.proofs.worked_sets.worked_sets.Goals as goal

pub returns : goal.returns
returns c = record { short = worked_short; long = worked_long; full = worked_full; faults = worked_faults; changes = worked_changes; runs = worked_runs }
