-- The bit of one high byte more.
use Rattle.std.proofs.Common.{arith}
use Rattle.bitpack_slices.proofs.lemmas.bits.HighLaws.{highs_more, highs_start}
use Rattle.bitpack_slices.proofs.bitmap.writing.high_word.Goals as goal

pub loop-i-init : goal.loop-i-init
loop-i-init c = highs_start c.args.words.now c.args.first

pub loop-i-preserved : goal.loop-i-preserved
loop-i-preserved c = highs_more c.args.words.now c.args.first c.loop-i.i c.loop-i.bits (λ k. (c.type_inv.words k).fits) (omega arith) c.loop-i.invariant

pub returns : goal.returns
returns c = λ i small. c.loop-i.invariant.below i (omega arith)
