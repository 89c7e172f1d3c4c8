-- The bits of one high byte more are combined.
use Rattle.bitpack_slices.proofs.lemmas.bits.CombineLaws.{more_mixed, none_mixed}
use Rattle.bitpack_slices.proofs.lemmas.bytes.DecodeLaws.{rising_top}
use Rattle.bitpack_slices.proofs.bitmap.combining.combine.Goals as goal

pub loop-high-init : goal.loop-high-init
loop-high-init c = none_mixed c.args.operation c.args.words.now c.args.others.now

pub loop-high-preserved : goal.loop-high-preserved
loop-high-preserved c =
    more_mixed c.args.operation c.args.highs.now c.args.words.now c.loop-high.words c.combine_slice.new.words c.args.others.now c.loop-high.high-index
    c.requires c.loop-high-test.true c.combine_slice.ensures.own c.combine_slice.ensures.rest c.loop-high.invariant

pub combine_slice-requires : goal.combine_slice-requires
combine_slice-requires c = rising_top 0 256 c.loop-high.high-index c.args.highs.now c.requires c.loop-high-test.true
