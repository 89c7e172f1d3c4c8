-- The differences of a register, each one less, begin at the value before.
use Rattle.std.proofs.Common.{◌≡◌, ℕ, ◌-◌, ◌∙◌, ◌++◌, List, map, get_or, ap, sym}
use Rattle.std.proofs.lemmas.List.{map-append}
use Rattle.bitpacking_register.specs.Words.{wrapping_difference}
use Rattle.bitpacking_register.specs.Deltas.{differences}
use Rattle.bitpacking.specs.Codes.{one_less}
use Rattle.bitpacking.proofs.Blocks.{differences-register}
use Rattle.bitpacking.proofs.RegisterLemmas.{zip2-splat}
use Rattle.bitpacking.proofs.kinds.transformers.StrictDeltaComputerTransformer.transform.Goals as goal

pub returns : goal.returns
returns g c rest =
    let lanes = g.R.Register.LANES in
    let count = g.met.R.Register.words_count in
    let words : List ℕ = g.R.Register.words c.args.register in
    let before : ℕ = get_or (g.R.Register.words c.args.self.now.previous) (lanes - 1) 0 in
    let delta : List ℕ = g.R.Register.words c.delta.result in
    let codes : g.R.Register.words c.sub-codes.result ≡ map one_less delta =
    zip2-splat wrapping_difference 1 lanes delta (g.R.Register.words c.splat.result) (g.R.Register.words c.sub-codes.result)
    (count c.delta.result) c.splat.ensures c.sub-codes.ensures in
    ap (map one_less) (differences-register before lanes words rest (count c.args.register) g.met.R.Register.some_lanes)
    ∙ map-append one_less (differences before words) (differences (get_or words (lanes - 1) 0) rest)
    ∙ ap (λ xs. xs ++ map one_less (differences (get_or words (lanes - 1) 0) rest))
    (ap (map one_less) (sym c.delta.ensures) ∙ sym codes)
