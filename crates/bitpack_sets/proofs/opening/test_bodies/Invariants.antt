-- No body before has a fault.
use Rattle.std.proofs.Common.{◌≡◌, None}
use Rattle.bitpack_sets.specs.Faults.{body_fault_at, first_of}
use Rattle.bitpack_sets.proofs.opening.test_bodies.Given as goal

abbrev pub invariant-loop-chunk : goal.invariant-loop-chunk
invariant-loop-chunk l = first_of (body_fault_at l.chunks l.rest) l.chunk ≡ None
