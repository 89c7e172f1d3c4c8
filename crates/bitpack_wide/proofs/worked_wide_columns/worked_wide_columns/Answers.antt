-- The worked wide columns, by computing.
use Rattle.bitpack_wide.proofs.WorkedWideProofs.{worked_directories, worked_high, worked_low, worked_parts}
use Rattle.bitpack_wide.proofs.worked_wide_columns.worked_wide_columns.Goals as goal

pub returns : goal.returns
returns c = record { low = worked_low; high = worked_high; directories = worked_directories; parts = worked_parts }
