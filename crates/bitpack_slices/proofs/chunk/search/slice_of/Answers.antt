-- The numbers of one slice more are passed.
use Rattle.std.proofs.Common.{◌≡◌, ◌+◌, ◌-◌, arith, get_or, take}
use Rattle.bitpack_slices.proofs.lemmas.numbers.SelectLaws.{numbers_more, slice_within}
use Rattle.bitpack_slices.proofs.chunk.search.slice_of.Goals as goal
use Rattle.bitpack_slices.specs.Slices.{numbers_in}

pub loop-index-preserved : goal.loop-index-preserved
loop-index-preserved c =
    let more = numbers_more c.args.counts.now c.loop-index.index c.loop-index.invariant.within in
    let passed = c.loop-index.invariant.passed in
    let next : numbers_in (take (c.loop-index.index + 1) c.args.counts.now) + (c.loop-index.left - (get_or c.args.counts.now c.loop-index.index 0 + 1)) ≡ c.args.position = omega (arith, c.loop-index-test.true) in
    record { within = slice_within c.args.counts.now (c.loop-index.index + 1) _ c.args.position next c.requires; passed = next }
