-- The running sums of a register go on from the value before.
use Rattle.std.proofs.Common.{◌-◌, ◌*◌, ◌++◌, get_or, take, ap, sym, ◌∙◌, append_assoc}
use Rattle.bitpacking_register.specs.Deltas.{running_sums}
use Rattle.bitpacking.proofs.Blocks.{running_sums-register}
use Rattle.bitpacking.proofs.kinds.sinks.DeltaIntegrateSink.put.Goals as goal

pub returns-clause-stored : goal.returns-clause-stored
returns-clause-stored g c rest =
    let lanes = g.R.Register.LANES in
    let before = get_or (g.R.Register.words c.args.self.now.previous) (lanes - 1) 0 in
    let values = g.R.Register.words c.integrate-self.result in
    let left = running_sums (get_or values (lanes - 1) 0) rest in
    let front = take (lanes * c.args.self.now.rows_stored) c.args.target.now.words.now in
    ap (λ xs. xs ++ left) c.store.ensures.stored
    ∙ append_assoc front values left
    ∙ ap (λ xs. front ++ xs) (sym (running_sums-register before lanes (g.R.Register.words c.args.codes) rest values
    (g.met.R.Register.words_count c.args.codes) g.met.R.Register.some_lanes c.integrate-self.ensures))
