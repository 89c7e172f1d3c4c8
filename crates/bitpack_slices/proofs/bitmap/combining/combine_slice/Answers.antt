-- One word more is combined.
use Rattle.std.proofs.Common.{◌*◌, arith}
use Rattle.bitpack_slices.proofs.lemmas.bits.CombineLaws.{more_words, no_words}
use Rattle.bitpack_slices.proofs.bitmap.combining.combine_slice.Goals as goal

pub loop-i-init : goal.loop-i-init
loop-i-init c = no_words c.args.operation (4 * c.args.high) c.args.words.now c.args.others.now

pub loop-i-preserved : goal.loop-i-preserved
loop-i-preserved c =
    more_words c.args.operation (4 * c.args.high) c.loop-i.i c.combined_word.result c.args.words.now c.loop-i.words c.args.others.now (omega arith) (omega arith)
    c.combined_word.ensures c.loop-i.invariant
