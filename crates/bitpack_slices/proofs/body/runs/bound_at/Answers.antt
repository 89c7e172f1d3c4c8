-- A boundary that there is, or none.
use Rattle.std.proofs.Common.{◌∙◌, arith, sym}
use Rattle.bitpack_slices.proofs.lemmas.bodies.MergeRuns.{none_there, same_there}
use Rattle.bitpack_slices.proofs.lemmas.numbers.HalfLaws.{pairs_len}
use Rattle.bitpack_slices.proofs.body.runs.bound_at.Goals as goal
use Rattle.bitpack_slices.specs.Slices.{pairs_of}

pub returns-then-index-bounds : goal.returns-then-index-bounds
returns-then-index-bounds c =
    let size = pairs_len c.args.bounds.now in
    c.number_at.ensures ∙ same_there (pairs_of c.args.bounds.now) c.args.index 0 65536 (omega (arith, c.if-index-bounds.true))

pub returns-else-index-bounds : goal.returns-else-index-bounds
returns-else-index-bounds c =
    let size = pairs_len c.args.bounds.now in
    sym (none_there (pairs_of c.args.bounds.now) c.args.index 65536 (omega (arith, c.if-index-bounds.false)))
