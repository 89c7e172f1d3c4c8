-- The boundaries are filled in, and written.
use Rattle.std.proofs.Common.{◌∙◌, ap}
use Rattle.bitpack_slices.proofs.chunk.writing.write_runs.Goals as goal
use Rattle.bitpack_slices.specs.Runs.{runs}

pub returns : goal.returns
returns c = c.write_bounds.ensures ∙ ap runs c.fill_bounds.ensures
