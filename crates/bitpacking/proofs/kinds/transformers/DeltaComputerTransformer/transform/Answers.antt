-- The differences of a register begin at the value before.
use Rattle.std.proofs.Common.{◌-◌, get_or}
use Rattle.bitpacking.proofs.Blocks.{differences-register}
use Rattle.bitpacking.proofs.kinds.transformers.DeltaComputerTransformer.transform.Goals as goal

pub returns : goal.returns
returns g c rest =
    rw c.delta-codes.ensures
    (differences-register (get_or (g.R.Register.words c.args.self.now.previous) (g.R.Register.LANES - 1) 0)
    g.R.Register.LANES (g.R.Register.words c.args.register) rest
    (g.met.R.Register.words_count c.args.register) g.met.R.Register.some_lanes)
