-- The positions so far are at the start.
use Rattle.bitpack_columns.specs.Searches.{HasFound}
use Rattle.bitpack_columns.proofs.column.within.find_rest.Given as goal

abbrev pub invariant-loop-index : goal.invariant-loop-index
invariant-loop-index l = HasFound l.low l.high l.values l.start l.index l.next l.found
