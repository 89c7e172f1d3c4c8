-- The parts are those that the body has.
use Rattle.std.proofs.Common.{◌∙◌, ap, List, ℕ}
use Rattle.bitpack_slices.proofs.lemmas.bodies.LoadLaws.{parts_count, parts_those}
use Rattle.bitpack_slices.proofs.blocks.Blocks.new.Goals as goal
use Rattle.bitpack_slices.specs.Bitmaps.{has_bit}
use Rattle.bitpack_slices.specs.Slices.{numbers_of}

pub invariant_of-result-clause-size : goal.invariant_of-result-clause-size
invariant_of-result-clause-size c = parts_count c.new-parts.result (has_bit c.high_bits-highs.result) c.high_bits-highs.ensures

pub returns : goal.returns
returns c =
    let parts = c.new-parts.result in
    ap (λ (l : List ℕ). numbers_of l parts.counts.now parts.slices.now) (parts_those parts (has_bit c.high_bits-highs.result) c.high_bits-highs.ensures)
    ∙ c.new-parts.ensures.numbers
