-- The bits of these high bytes are clear before.
use Rattle.std.proofs.Common.{◌∙◌, ◌||◌, Bool, ap}
use Rattle.std.proofs.Math.Bool.{or-false}
use Rattle.bitpack_slices.proofs.chunk.runs.Runs.load.Goals as goal
use Rattle.bitpack_slices.specs.Reads.{has}
use Rattle.bitpack_slices.specs.Runs.{runs_from}

pub returns : goal.returns
returns c x small own =
    c.set_bits.ensures x small ∙ ap (λ (b : Bool). has x (runs_from 0 c.args.self.bounds.now) || b) (c.clear.ensures x small own)
    ∙ or-false (has x (runs_from 0 c.args.self.bounds.now))
