-- A range is written from its ids if they are few, or by its chunks.
use Rattle.std.proofs.Common.{length, sym, ap, ◌∙◌, subst}
use Rattle.bitpack_sets.proofs.lemmas.written.RangeFilled.{ids_set, range_chunks, range_told, range_sized, room_filled}
use Rattle.bitpack_sets.proofs.encoding.range.write_range.Goals as goal
use Rattle.bitpack_sets.specs.Sets.{IsSet}

pub write_set-requires-clause-set : goal.write_set-requires-clause-set
write_set-requires-clause-set c =
    let filled = room_filled c.args.first c.args.count _ c.fill_range.new.out c.if-count-le-MOST_FEW.true c.fill_range.ensures in
    subst IsSet (sym filled) (ids_set c.args.first c.args.count c.requires.few c.requires.fits)

pub write_chunks-requires-clause-chunks : goal.write_chunks-requires-clause-chunks
write_chunks-requires-clause-chunks c = range_told c.args.first c.args.count c.args.measured.len c.args.measured.chunks c.args.measured.bodies c.if-count-le-MOST_FEW.false c.requires.measured

pub write_chunks-requires-clause-size : goal.write_chunks-requires-clause-size
write_chunks-requires-clause-size c =
    range_sized c.args.first c.args.count c.args.measured.len c.args.measured.chunks c.args.measured.bodies c.if-count-le-MOST_FEW.false (c.requires.dense c.if-count-le-MOST_FEW.false) c.requires.measured

pub write_chunks-requires-clause-room : goal.write_chunks-requires-clause-room
write_chunks-requires-clause-room c =
    c.requires.size
    ∙ ap length (range_chunks c.args.first c.args.count c.args.measured.len c.args.measured.chunks c.args.measured.bodies c.if-count-le-MOST_FEW.false (c.requires.dense c.if-count-le-MOST_FEW.false) c.requires.measured)

pub returns-else-count-le-MOST_FEW : goal.returns-else-count-le-MOST_FEW
returns-else-count-le-MOST_FEW c =
    c.write_chunks.ensures
    ∙ sym (range_chunks c.args.first c.args.count c.args.measured.len c.args.measured.chunks c.args.measured.bodies c.if-count-le-MOST_FEW.false (c.requires.dense c.if-count-le-MOST_FEW.false) c.requires.measured)
