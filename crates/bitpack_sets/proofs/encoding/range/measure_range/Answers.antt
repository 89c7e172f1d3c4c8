-- A range is measured by its ids if they are few, or by its chunks.
use Rattle.std.proofs.Common.{sym, subst}
use Rattle.bitpack_sets.proofs.lemmas.written.RangeFilled.{ids_set, range_measured, room_filled}
use Rattle.bitpack_sets.proofs.encoding.range.measure_range.Goals as goal
use Rattle.bitpack_sets.specs.Sets.{IsSet}

pub measure-requires : goal.measure-requires
measure-requires c =
    let filled = room_filled c.args.first c.args.count _ c.fill_range.new.out c.if-count-le-MOST_FEW.true c.fill_range.ensures in
    subst IsSet (sym filled) (ids_set c.args.first c.args.count c.requires.few c.requires.fits)

pub returns-clause-measured : goal.returns-clause-measured
returns-clause-measured c =
    range_measured c.args.first c.args.count c.chunks_len-len.result c.measure_chunks-chunks.result.0 c.measure_chunks-chunks.result.1 c.if-count-le-MOST_FEW.false c.measure_chunks-chunks.ensures.chunks
    c.measure_chunks-chunks.ensures.bodies (c.measure_chunks-chunks.ensures.dense c.if-count-le-MOST_FEW.false) c.measure_chunks-chunks.ensures.small c.chunks_len-len.ensures
