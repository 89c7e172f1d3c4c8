-- No high word before has a fault.
use Rattle.std.proofs.Common.{◌≡◌, None}
use Rattle.bitpack_wide.specs.Faults.{entry_fault, first_of}
use Rattle.bitpack_wide.proofs.directory.test_entries.Given as goal

abbrev pub invariant-loop-word : goal.invariant-loop-word
invariant-loop-word l = first_of (entry_fault l.count l.words l.rest) l.word ≡ None
