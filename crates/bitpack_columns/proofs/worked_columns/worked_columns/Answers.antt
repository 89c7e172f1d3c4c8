-- The worked columns, by computing.
use Rattle.bitpack_columns.proofs.WorkedProofs.{worked_faults, worked_long, worked_reads, worked_short}
use Rattle.bitpack_columns.proofs.worked_columns.worked_columns.Goals as goal

pub returns : goal.returns
returns c = record { short = worked_short; long = worked_long; faults = worked_faults; reads = worked_reads }
