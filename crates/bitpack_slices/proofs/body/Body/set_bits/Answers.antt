-- Each body sets the bits of its numbers.
use Rattle.std.proofs.Common.{◌∙◌, ◌||◌, Bool, ap, subst}
use Rattle.std.proofs.Math.Bool.{or-false}
use Rattle.bitpack_slices.proofs.body.Body.set_bits.Goals as goal
use Rattle.bitpack_slices.specs.Lists.{IsBody}
use Rattle.bitpack_slices.specs.Reads.{has}
use Rattle.bitpack_slices.specs.Runs.{runs_from}

pub returns-in-Ids : goal.returns-in-Ids
returns-in-Ids c x small = rw c.in-Ids.is (c.set_bits.ensures.bits x)

pub new-requires : goal.new-requires
new-requires c = subst IsBody c.in-Blocks.is c.requires.body

pub returns-in-Blocks : goal.returns-in-Blocks
returns-in-Blocks c x small = rw c.in-Blocks.is (c.set_bits-in-Blocks.ensures x small ∙ ap (has x) c.new.ensures.numbers)

pub returns-in-Runs : goal.returns-in-Runs
returns-in-Runs c x small =
    rw c.in-Runs.is
    (c.set_bits-in-Runs.ensures x small ∙ ap (λ (b : Bool). has x (runs_from 0 c.in-Runs.runs.bounds.now) || b) (c.requires.clear x) ∙ or-false (has x (runs_from 0 c.in-Runs.runs.bounds.now)))
