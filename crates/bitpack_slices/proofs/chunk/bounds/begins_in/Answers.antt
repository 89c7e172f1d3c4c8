-- Bit by bit.
use Rattle.bitpack_slices.proofs.lemmas.bits.BeginLaws.{before_fits, begins_first, begins_later}
use Rattle.bitpack_slices.proofs.chunk.bounds.begins_in.Goals as goal

pub returns-clause-first : goal.returns-clause-first
returns-clause-first c = begins_first c.args.word c.args.before c.ranges.word.fits (before_fits c.args.word c.args.before)

pub returns-clause-later : goal.returns-clause-later
returns-clause-later c = λ i small. begins_later c.args.word i c.args.before small c.ranges.word.fits (before_fits c.args.word c.args.before)
