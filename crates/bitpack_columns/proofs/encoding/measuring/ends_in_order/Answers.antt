-- Narrow codes wrap at most once.
use Rattle.std.proofs.lemmas.Bool.{leb-true}
use Rattle.bitpack_columns.proofs.FallLaws.{narrow_none}
use Rattle.bitpack_columns.proofs.encoding.measuring.ends_in_order.Goals as goal

pub returns-then-width-le25 : goal.returns-then-width-le25
returns-then-width-le25 c = λ above block long words is fits.
    narrow_none c.args.width c.args.before c.args.last block c.if-width-le25.true c.ranges.before.fits (leb-true _ _ above) long words is fits
