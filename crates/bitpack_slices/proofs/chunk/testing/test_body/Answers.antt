-- A body of numbers increases if none falls.
use Rattle.std.proofs.Common.{◌∙◌, sym}
use Rattle.bitpack_slices.proofs.lemmas.bits.CountLaws.{bytes_are}
use Rattle.bitpack_slices.proofs.lemmas.bodies.RunLaws.{none_left, pairs_rise}
use Rattle.bitpack_slices.proofs.chunk.testing.test_body.Goals as goal
use Rattle.bitpack_slices.proofs.chunk.testing.test_body.Goals.{then-has_fall+in_default, else-has_fall}

pub count_in_numbers-requires-clause-rising : goal.count_in_numbers-requires-clause-rising
count_in_numbers-requires-clause-rising c =
    pairs_rise c.args.position c.args.body.now (bytes_are c.args.body.now (λ k. (c.type_inv.body k).fits))
    (elim c.if-has_fall.branch [
      | then-has_fall+in_default w ↦ sym w.first_fall.ensures ∙ none_left w.first_fall.result w.in_default.not-Some
      | else-has_fall w ↦ c.has_fall.ensures w.if-has_fall.false c.args.position
    ])
