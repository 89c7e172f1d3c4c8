-- The blocks so far are measured.
use Rattle.bitpack_columns.proofs.MeasureLaws.{MeasuredTo}
use Rattle.bitpack_columns.proofs.encoding.measuring.measure_blocks.Given as goal

abbrev pub invariant-loop-index : goal.invariant-loop-index
invariant-loop-index l = MeasuredTo l.kind l.before l.values l.index l.total l.greatest l.last l.widths l.rises
