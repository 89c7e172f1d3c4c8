-- No value so far is too great.
use Rattle.std.proofs.Common.{◌≡◌, None}
use Rattle.bitpack_columns.specs.Faults.{first_of}
use Rattle.bitpack_columns.specs.Written.{overflow_at}
use Rattle.bitpack_columns.proofs.appending.joining.test_raised.Given as goal

abbrev pub invariant-loop-index : goal.invariant-loop-index
invariant-loop-index l = first_of (overflow_at l.base l.values) l.index ≡ None
