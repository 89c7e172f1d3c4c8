-- The boundaries are tested in turn.
use Rattle.std.proofs.Common.{◌∙◌, sym}
use Rattle.bitpack_slices.proofs.lemmas.bits.CountLaws.{bytes_are}
use Rattle.bitpack_slices.proofs.lemmas.bodies.RunLaws.{none_left, pairs_rise}
use Rattle.bitpack_slices.proofs.chunk.testing.are_runs.Goals as goal

pub invariant_of-len : goal.invariant_of-len
invariant_of-len c = record { rising = pairs_rise 0 c.args.bounds.now (bytes_are c.args.bounds.now (λ k. (c.type_inv.bounds k).fits)) (sym c.first_fall.ensures ∙ none_left c.first_fall.result c.in_default.not-Some) }
