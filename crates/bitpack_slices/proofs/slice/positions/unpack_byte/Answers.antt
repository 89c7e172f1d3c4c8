-- The first of eight sums are the numbers.
use Rattle.std.proofs.Common.{ℕ, ◌+◌, ap, get_or, sym, rules}
use Rattle.bitpack_slices.proofs.lemmas.bits.CountLaws.{ones_counted}
use Rattle.bitpack_slices.proofs.lemmas.bits.OnesLaws.{ones_few}
use Rattle.bitpack_slices.proofs.lemmas.bits.RowLaws.{row_written}
use Rattle.bitpack_slices.proofs.slice.positions.unpack_byte.Goals as goal
use Rattle.bitpack_slices.specs.Slices.{ones_from}

pub returns-clause-end : goal.returns-clause-end
returns-clause-end c = ap (λ (n : ℕ). c.args.at + n) (sym (ones_counted c.args.byte 8 c.ranges.byte.fits))

pub returns-clause-values : goal.returns-clause-values
returns-clause-values c =
    row_written c.args.out.now c.positions_in.result c.args.base (ones_from c.args.byte 0 8) c.args.at (get_or c.args.base 0 0) 8 c.requires.base (search rules) c.requires.room c.requires.fits
    (ones_few c.args.byte 0 8) c.positions_in.ensures.small c.positions_in.ensures.positions _ (ones_counted c.args.byte 8 c.ranges.byte.fits)
