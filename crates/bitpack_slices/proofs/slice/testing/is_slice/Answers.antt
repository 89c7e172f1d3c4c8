-- Each form of a slice has its test.
use Rattle.bitpack_slices.proofs.lemmas.bits.CountLaws.{decide_few, decide_full, decide_some}
use Rattle.bitpack_slices.proofs.slice.testing.is_slice.Goals as goal

pub returns-then-count-lt32 : goal.returns-then-count-lt32
returns-then-count-lt32 c =
    decide_few c.args.count c.args.bytes.now c.is_increasing.result c.if-count-lt32.true c.requires.size (λ k. (c.type_inv.bytes k).fits) c.is_increasing.ensures

pub returns-then-count-lt256 : goal.returns-then-count-lt256
returns-then-count-lt256 c =
    decide_some c.args.count c.count_in_words.result c.args.bytes.now c.if-count-lt32.false c.if-count-lt256.true c.requires.size (λ k. (c.type_inv.bytes k).fits) c.count_in_words.ensures

pub returns-else-count-lt256 : goal.returns-else-count-lt256
returns-else-count-lt256 c = decide_full c.args.count c.args.bytes.now c.if-count-lt256.false c.requires.count c.requires.size
