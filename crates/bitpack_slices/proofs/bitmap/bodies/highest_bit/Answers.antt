-- No bit is above it.
use Rattle.std.proofs.Common.{arith}
use Rattle.bitpack_slices.proofs.bitmap.bodies.highest_bit.Goals as goal

pub returns : goal.returns
returns c = let fits = c.ranges.word.fits in omega arith
