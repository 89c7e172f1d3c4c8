-- The bits so far are those of the lanes so far.
use Rattle.std.proofs.Common.{◌≡◌, ◌↔◌, ◌%◌}
use Rattle.std.specs.Int.{bit_at}
use Rattle.bitpack_lists.proofs.lemmas.blocks.LooseLemmas.{AnyLane}
use Rattle.bitpack_lists.proofs.blocks.testing.has_bit.Given as goal

abbrev pub invariant-loop-lane : goal.invariant-loop-lane
invariant-loop-lane l = (bit_at l.bytes (l.bit % 8) ≡ 1) ↔ AnyLane l.lane l.lanes l.bit l.body
