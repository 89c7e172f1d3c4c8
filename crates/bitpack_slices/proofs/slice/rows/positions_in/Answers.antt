-- Its row of the table.
use Rattle.bitpack_slices.proofs.slice.rows.positions_in.Goals as goal

pub returns : goal.returns
returns c = record {
  small = λ k lt. c.rows.ensures.small c.args.byte k _ c.ranges.byte.fits lt;
  positions = c.rows.ensures.positions c.args.byte _ c.ranges.byte.fits;
}
