-- A run is two integers.
use Rattle.std.proofs.Common.{◌+◌, ◌*◌, ◌∷◌, ◌∙◌, ℕ, List, ap, arith, drop, get_or, sym}
use Rattle.bitpack_slices.proofs.ForCallers.{pairs_len}
use Rattle.bitpack_slices.specs.Slices.{pairs_of}
use Rattle.bitpack_roaring.proofs.RunSteps.{bounds_more}
use Rattle.bitpack_roaring.specs.Roaring.{bounds_of}
use Rattle.bitpack_roaring.proofs.runs.run_at.Goals as goal

pub returns-clause-bounds : goal.returns-clause-bounds
returns-clause-bounds c =
    let xs : List ℕ = pairs_of c.args.runs.now in
    let i : ℕ = c.args.index in
    let long = pairs_len c.args.runs.now in
    let rest : List ℕ = bounds_of (drop (2 * (i + 1)) xs) in
    bounds_more i xs (omega (arith, c.requires))
    ∙ ap (λ (a : ℕ). a ∷ (a + get_or xs (2 * i + 1) 0 + 1) ∷ rest) (sym c.number_at-first.ensures)
    ∙ ap (λ (b : ℕ). c.number_at-first.result ∷ (c.number_at-first.result + b + 1) ∷ rest) (sym c.number_at-others.ensures)
