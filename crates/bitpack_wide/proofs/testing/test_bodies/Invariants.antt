-- No body before has a fault.
use Rattle.std.proofs.Common.{◌≡◌, None}
use Rattle.bitpack_wide.specs.Faults.{body_fault, first_of}
use Rattle.bitpack_wide.proofs.testing.test_bodies.Given as goal

abbrev pub invariant-loop-word : goal.invariant-loop-word
invariant-loop-word l = first_of (body_fault l.words l.rest) l.word ≡ None
