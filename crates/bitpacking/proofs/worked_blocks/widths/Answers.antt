-- The worked widths, by computing.
use Rattle.bitpacking.proofs.WorkedProofs.{fall_width, still_width, steps_width, no_steps_width, no_steps_from_last_width}
use Rattle.bitpacking.proofs.worked_blocks.widths.Goals as goal

pub returns-clause-fall : goal.returns-clause-fall
returns-clause-fall c = fall_width

pub returns-clause-still : goal.returns-clause-still
returns-clause-still c = still_width

pub returns-clause-steps : goal.returns-clause-steps
returns-clause-steps c = steps_width

pub returns-clause-no_steps : goal.returns-clause-no_steps
returns-clause-no_steps c = no_steps_width

pub returns-clause-no_steps_from_last : goal.returns-clause-no_steps_from_last
returns-clause-no_steps_from_last c = no_steps_from_last_width
