-- A width is loose exactly where no code has its highest bit.
use Rattle.std.proofs.Common.{sym, arith}
use Rattle.bitpack_lists.proofs.lemmas.blocks.LooseLemmas.{tight_at_0, tight_from_bit, loose_from_bits, rows_step}
use Rattle.bitpack_lists.proofs.blocks.testing.fits_smaller.Goals as goal

pub returns-then-width-eq0 : goal.returns-then-width-eq0
returns-then-width-eq0 c = sym (tight_at_0 c.args.lanes c.args.width c.args.body.now c.if-width-eq0.true)

pub returns-then-has_bit : goal.returns-then-has_bit
returns-then-has_bit c =
    let (lane, within, has) = c.has_bit.ensures.0 c.if-has_bit.true in
    sym (tight_from_bit c.args.lanes c.args.width c.args.body.now c.requires.lanes.0 (omega arith) c.requires.body c.loop-row.row lane
    c.loop-row-test.true within has)

pub loop-row-preserved : goal.loop-row-preserved
loop-row-preserved c =
    rows_step c.args.lanes c.args.width c.loop-row.row c.args.body.now c.has_bit.result c.has_bit.ensures c.if-has_bit.false c.loop-row.invariant

pub returns : goal.returns
returns c =
    sym (loose_from_bits c.args.lanes c.args.width c.args.body.now c.requires.lanes.0 (omega arith) c.requires.body (λ row lane lt within.
    c.loop-row.invariant row lane (omega arith) within))
