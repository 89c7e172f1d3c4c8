-- A high byte that does not occur has no numbers.
use Rattle.std.proofs.Common.{◌∙◌, sym}
use Rattle.bitpack_slices.proofs.lemmas.bodies.LoadLaws.{none_found, none_there}
use Rattle.bitpack_slices.proofs.blocks.Blocks.slice.Goals as goal
use Rattle.bitpack_slices.specs.Bitmaps.{has_bit}

pub invariant_of-result : goal.invariant_of-result
invariant_of-result c = record { there = none_found c.args.self.now.slices.now }

pub returns-then-not-test_bit : goal.returns-then-not-test_bit
returns-then-not-test_bit c = λ i small.
    let parts = c.args.self.now in
    sym (none_there (has_bit parts.highs) c.args.high i parts.counts.now parts.slices.now c.requires small (sym c.test_bit.ensures ∙ c.if-not-test_bit.true) parts.are)

pub slice_at-requires-clause-occurs : goal.slice_at-requires-clause-occurs
slice_at-requires-clause-occurs c = sym c.test_bit.ensures ∙ c.if-not-test_bit.false
