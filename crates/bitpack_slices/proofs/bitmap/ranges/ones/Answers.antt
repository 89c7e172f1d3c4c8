-- Ones that are moved up.
use Rattle.std.proofs.Common.{arith}
use Rattle.bitpack_slices.proofs.lemmas.bits.RangeBits.{ones_within}
use Rattle.bitpack_slices.proofs.bitmap.ranges.ones.Goals as goal

pub returns : goal.returns
returns c i small = ones_within c.args.count c.args.from i c.requires.some (omega (arith, c.requires.within)) small
