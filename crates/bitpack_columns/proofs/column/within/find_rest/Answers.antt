-- The next position is written, and stays if its value is within the range.
use Rattle.std.proofs.Common.{◌<◌, length, sym, ◌∙◌, add-zero, arith}
use Rattle.bitpack_columns.proofs.FoundLaws.{found_one, found_same}
use Rattle.bitpack_columns.proofs.column.within.find_rest.Goals.{then-within, else-within}
use Rattle.bitpack_columns.proofs.column.within.find_rest.Goals as goal

pub loop-index-preserved : goal.loop-index-preserved
loop-index-preserved c =
    let here = c.loop-index in
    let room : here.next < length here.found = omega (arith, here.invariant.few, c.requires.few, c.loop-index-test.true) in
    elim c.if-within.branch [
      | then-within w ↦
          rw w.next-is
          (found_one c.args.low c.args.high c.args.values.now c.args.start here.index here.next here.found here.invariant room
          (sym c.within.ensures ∙ w.if-within.true))
      | else-within w ↦
          rw (w.next-is, add-zero)
          (found_same c.args.low c.args.high c.args.values.now c.args.start here.index here.next here.found here.invariant
          (sym c.within.ensures ∙ w.if-within.false))
    ]
