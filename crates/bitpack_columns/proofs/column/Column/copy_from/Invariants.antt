-- The values so far were written, and the rest of the slice is as it was.
use Rattle.std.proofs.Common.{◌≡◌, ◌-◌, ◌≤◌, length, take, drop}
use Rattle.bitpack_columns.specs.Opened.{values}
use Rattle.bitpack_columns.proofs.column.Column.copy_from.Given as goal

abbrev pub invariant-loop-done : goal.invariant-loop-done
invariant-loop-done l = record {
  within : l.done ≤ l.count;
  long : length l.out ≡ length l.fn.out;
  written : take l.done l.out ≡ take l.done (drop l.from (values l.self));
  rest : drop l.count l.out ≡ drop l.count l.fn.out;
}

abbrev pub decreases-loop-done : goal.decreases-loop-done
decreases-loop-done l = l.count - l.done
