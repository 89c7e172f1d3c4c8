-- The runs of a full slice, or those that its bits begin.
use Rattle.std.proofs.Common.{◌∙◌, arith, not}
use Rattle.bitpack_slices.proofs.lemmas.bodies.BoundSlices.{bits_begin, full_begins}
use Rattle.bitpack_slices.proofs.lemmas.bodies.ReadLaws.{byte_is, full_numbers}
use Rattle.bitpack_slices.proofs.chunk.bounds.runs_in.Goals as goal
use Rattle.bitpack_slices.specs.Slices.{slice_numbers}

pub returns-then-count-eq256-clause-runs : goal.returns-then-count-eq256-clause-runs
returns-then-count-eq256-clause-runs c =
    byte_is (not c.args.joined)
    ∙ full_begins (slice_numbers c.args.count c.args.bytes.now) c.args.joined (full_numbers c.args.count c.args.bytes.now (omega (arith, c.if-count-eq256.true)))

pub returns-clause-runs : goal.returns-clause-runs
returns-clause-runs c =
    c.count_bits.ensures
    ∙ bits_begin c.slice_bits-bits.result c.begins.result (slice_numbers c.args.count c.args.bytes.now) c.args.joined c.slice_bits-bits.ensures c.begins.ensures.first c.begins.ensures.later
