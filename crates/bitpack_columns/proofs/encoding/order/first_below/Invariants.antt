-- No value so far falls.
use Rattle.std.proofs.Common.{◌≡◌, None, take}
use Rattle.bitpack_columns.proofs.FallLaws.{last_of}
use Rattle.bitpack_columns.proofs.encoding.order.first_below.Given as goal
use Rattle.bitpack_columns.specs.Faults.{first_below}

abbrev pub invariant-loop-index : goal.invariant-loop-index
invariant-loop-index l = record {
  none : first_below l.position l.before (take l.index l.values) ≡ None;
  last_is : l.last ≡ last_of l.before (take l.index l.values);
}
