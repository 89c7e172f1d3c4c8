-- The row of the byte has its bit.
use Rattle.std.proofs.Common.{[]}
use Rattle.bitpack_slices.proofs.bitmap.ones.bit_of.Goals as goal

pub returns : goal.returns
returns c i small = c.rows.ensures.bits c.args.byte i [] c.ranges.byte.fits small
