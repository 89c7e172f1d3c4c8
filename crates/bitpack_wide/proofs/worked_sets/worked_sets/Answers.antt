-- The worked sets, by computing.
use Rattle.bitpack_wide.proofs.WorkedProofs.{worked_changes, worked_columns, worked_counts, worked_spread, worked_words}
use Rattle.bitpack_wide.proofs.worked_sets.worked_sets.Goals as goal

pub returns : goal.returns
returns c = record { spread = worked_spread; words = worked_words; counts = worked_counts; columns = worked_columns; changes = worked_changes }
