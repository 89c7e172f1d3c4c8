-- No chunk before has a fault.
use Rattle.std.proofs.Common.{◌≡◌, None}
use Rattle.bitpack_sets.specs.Faults.{entry_fault, first_of}
use Rattle.bitpack_sets.proofs.directory.test_entries.Given as goal

abbrev pub invariant-loop-chunk : goal.invariant-loop-chunk
invariant-loop-chunk l = first_of (entry_fault l.count l.chunks l.rest) l.chunk ≡ None
