-- The running sums of a register, each code one more, go on from the value before.
use Rattle.std.proofs.Common.{◌≡◌, ◌-◌, ◌*◌, ◌++◌, map, get_or, take, ap, sym, ◌∙◌, append_assoc}
use Rattle.std.proofs.lemmas.List.{map-append}
use Rattle.bitpacking_register.specs.Words.{wrapping_sum}
use Rattle.bitpacking_register.specs.Deltas.{running_sums}
use Rattle.bitpacking.specs.Codes.{one_more}
use Rattle.bitpacking.proofs.Blocks.{running_sums-register}
use Rattle.bitpacking.proofs.RegisterLemmas.{zip2-splat}
use Rattle.bitpacking.proofs.kinds.sinks.StrictDeltaIntegrateSink.put.Goals as goal

pub returns-clause-stored : goal.returns-clause-stored
returns-clause-stored g c rest =
    let lanes = g.R.Register.LANES in
    let count = g.met.R.Register.words_count in
    let codes = g.R.Register.words c.args.codes in
    let deltas = g.R.Register.words c.add.result in
    let before = get_or (g.R.Register.words c.args.self.now.previous) (lanes - 1) 0 in
    let values = g.R.Register.words c.integrate-self.result in
    let left = running_sums (get_or values (lanes - 1) 0) (map one_more rest) in
    let front = take (lanes * c.args.self.now.rows_stored) c.args.target.now.words.now in
    let more : deltas ≡ map one_more codes =
    zip2-splat wrapping_sum 1 lanes codes (g.R.Register.words c.splat.result) deltas (count c.args.codes) c.splat.ensures c.add.ensures in
    ap (λ xs. xs ++ left) c.store.ensures.stored
    ∙ append_assoc front values left
    ∙ ap (λ xs. front ++ xs) (sym (
    ap (running_sums before) (map-append one_more codes rest ∙ ap (λ xs. xs ++ map one_more rest) (sym more))
    ∙ running_sums-register before lanes deltas (map one_more rest) values
    (count c.add.result) g.met.R.Register.some_lanes c.integrate-self.ensures))
