-- A part is unpacked at its first position, or was before.
use Rattle.std.proofs.Common.{arith, length}
use Rattle.bitpack_columns.specs.Opened.{values}
use Rattle.bitpack_wide.proofs.OrderLaws.{part_copied}
use Rattle.bitpack_wide.proofs.spread.high_at.Goals as goal
use Rattle.bitpack_wide.proofs.spread.high_at.Goals.{then-position-eq0, else-position-eq0}

pub returns-clause-part : goal.returns-clause-part
returns-clause-part c = elim c.if-position-eq0.branch [
  | then-position-eq0 w ↦ rw w.highs-is (part_copied c.args.position (length c.args.highs.now) w.copy_range.result (values c.args.column) _ w.if-position-eq0.true c.requires.room w.copy_range.ensures.len w.copy_range.ensures.values)
  | else-position-eq0 w ↦ rw w.highs-is (c.requires.part (omega (arith, w.if-position-eq0.false)))
]
