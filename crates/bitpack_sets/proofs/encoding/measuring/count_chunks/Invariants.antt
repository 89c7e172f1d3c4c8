-- The chunks so far.
use Rattle.std.proofs.Common.{◌≤◌}
use Rattle.bitpack_sets.proofs.lemmas.written.FallLaws.{Counted}
use Rattle.bitpack_sets.proofs.encoding.measuring.count_chunks.Given as goal

abbrev pub invariant-loop-index : goal.invariant-loop-index
invariant-loop-index l = record { few : l.count ≤ l.index; counted : Counted 65536 l.count l.index l.ids }
