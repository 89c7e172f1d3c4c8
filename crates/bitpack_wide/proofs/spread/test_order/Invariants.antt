-- The ids so far increase, and their high words are counted.
use Rattle.std.proofs.Common.{◌≡◌, ◌+◌, ◌-◌, ◌/◌, ◌^◌, ◌≤◌, drop, get_or}
use Rattle.bitpack_slices.specs.Slices.{first_fall, quads_of}
use Rattle.bitpack_sets.proofs.ForCallers.{Counted}
use Rattle.bitpack_columns.specs.Opened.{values}
use Rattle.bitpack_wide.specs.Reads.{paired}
use Rattle.bitpack_wide.specs.inner.Parts.{IsPart}
use Rattle.bitpack_wide.proofs.spread.test_order.Given as goal

abbrev pub invariant-loop-position : goal.invariant-loop-position
invariant-loop-position l = record {
  few : l.words ≤ l.position;
  falls : first_fall 0 (paired (values l.column) (quads_of l.lows)) ≡ first_fall (0 + (l.position - 1)) (drop (l.position - 1) (paired (values l.column) (quads_of l.lows)));
  counted : Counted (2 ^ 32) l.words l.position (paired (values l.column) (quads_of l.lows));
  last : l.last ≡ get_or (paired (values l.column) (quads_of l.lows)) (l.position - 1) 0;
  part : IsPart (values l.column) ((l.position - 1) / 1024) l.highs;
}
