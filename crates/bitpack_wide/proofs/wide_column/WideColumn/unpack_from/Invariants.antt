-- The values so far are written.
use Rattle.std.proofs.Common.{◌≡◌, ◌-◌, ◌≤◌, drop, length, take}
use Rattle.bitpack_wide.specs.WideOpened.{values, with_fill}
use Rattle.bitpack_wide.proofs.wide_column.WideColumn.unpack_from.Given as goal

abbrev pub invariant-loop-done : goal.invariant-loop-done
invariant-loop-done l = record {
  within : l.done ≤ length l.out;
  long : length l.out ≡ length l.fn.out;
  written : take l.done l.out ≡ take l.done (drop l.from (with_fill l.fill (values l.self)));
}

abbrev pub decreases-loop-done : goal.decreases-loop-done
decreases-loop-done l = length l.out - l.done
