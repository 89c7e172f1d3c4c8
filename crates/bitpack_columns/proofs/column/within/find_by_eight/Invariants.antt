-- The positions of the groups so far are at the start.
use Rattle.std.proofs.Common.{◌*◌}
use Rattle.bitpack_columns.specs.Searches.{HasFound}
use Rattle.bitpack_columns.proofs.column.within.find_by_eight.Given as goal

abbrev pub invariant-loop-group : goal.invariant-loop-group
invariant-loop-group l = HasFound l.low l.high l.values l.start (8 * l.group) l.next l.found
