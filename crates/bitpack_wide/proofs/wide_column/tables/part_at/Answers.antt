-- A part ends with the last one at most.
use Rattle.std.proofs.Common.{◌+◌, ◌*◌, arith}
use Rattle.bitpack_wide.specs.WideColumnReads.{end_at}
use Rattle.bitpack_wide.proofs.WideSteps.{ends_le}
use Rattle.bitpack_wide.proofs.wide_column.tables.part_at.Goals as goal

pub slice_bounds-result-end : goal.slice_bounds-result-end
slice_bounds-result-end c =
    let top = ends_le (end_at c.args.chunks c.args.rest.now) (2 * c.args.chunks + 1) c.requires.parts.rising c.args.part c.requires.within in
    omega (arith, top, c.requires.parts.whole, c.parts_start-start.ensures.start, c.end_at-end.ensures)
