-- The measures of each form.
use Rattle.bitpack_sets.proofs.lemmas.encodings.EncodeLaws.{array_measured, chunks_measured, few_measured}
use Rattle.bitpack_sets.proofs.encoding.measure.Goals as goal

pub returns-then-count-le-MOST_FEW : goal.returns-then-count-le-MOST_FEW
returns-then-count-le-MOST_FEW c = few_measured c.args.ids.now c.few_len-len.result c.if-count-le-MOST_FEW.true c.few_len-len.ensures

pub returns-then-count-chunks : goal.returns-then-count-chunks
returns-then-count-chunks c =
    array_measured c.args.ids.now c.array_len-len.result c.count_chunks-chunks.result c.if-count-le-MOST_FEW.false c.count_chunks-chunks.ensures.count c.count_chunks-chunks.ensures.few
    c.if-count-chunks.true c.array_len-len.ensures

pub returns : goal.returns
returns c =
    chunks_measured c.args.ids.now c.chunks_len-len.result c.count_chunks-chunks.result c.measure_bodies-bodies.result c.if-count-le-MOST_FEW.false
    c.count_chunks-chunks.ensures.count c.measure_bodies-bodies.ensures.size c.count_chunks-chunks.ensures.few c.measure_bodies-bodies.ensures.small
    c.if-count-chunks.false c.chunks_len-len.ensures
