-- The numbers of the bits so far that are 1 are written.
use Rattle.bitpack_columns.proofs.FoundLaws.{ArePut}
use Rattle.bitpack_columns.proofs.column.within.put_ones.Given as goal

abbrev pub invariant-loop-bit : goal.invariant-loop-bit
invariant-loop-bit l = ArePut l.bits l.start l.at l.fn.found l.bit l.next l.found
