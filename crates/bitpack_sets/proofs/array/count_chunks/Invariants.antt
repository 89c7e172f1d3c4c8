-- The chunks so far.
use Rattle.std.proofs.Common.{◌≤◌}
use Rattle.bitpack_slices.specs.Slices.{quads_of}
use Rattle.bitpack_sets.proofs.lemmas.written.FallLaws.{Counted}
use Rattle.bitpack_sets.proofs.array.count_chunks.Given as goal

abbrev pub invariant-loop-position : goal.invariant-loop-position
invariant-loop-position l = record { few : l.chunks ≤ l.position; counted : Counted 65536 l.chunks l.position (quads_of l.ids) }
