-- One word more is combined.
use Rattle.std.proofs.Common.{arith}
use Rattle.bitpack_slices.proofs.lemmas.bits.CombineLaws.{more_words, no_words}
use Rattle.bitpack_slices.proofs.body.bits.combine_words.Goals as goal

pub loop-index-init : goal.loop-index-init
loop-index-init c = no_words c.args.operation 0 c.args.words.now c.args.others.now

pub loop-index-preserved : goal.loop-index-preserved
loop-index-preserved c =
    more_words c.args.operation 0 c.loop-index.index c.combined_word.result c.args.words.now c.loop-index.words c.args.others.now (omega arith) (omega arith)
    c.combined_word.ensures c.loop-index.invariant

pub returns : goal.returns
returns c x small = c.loop-index.invariant.done x (omega arith) (omega arith)
