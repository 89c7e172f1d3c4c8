-- What is at its position tells a number.
use Rattle.std.proofs.Common.{◌∙◌, ap, sym, arith, ℕ, eqb}
use Rattle.bitpack_slices.proofs.lemmas.numbers.HalfLaws.{has_at_rank, has_not, pairs_len}
use Rattle.bitpack_slices.proofs.chunk.search.in_numbers.Goals as goal
use Rattle.bitpack_slices.specs.Slices.{pairs_of}

pub returns-then-position-body : goal.returns-then-position-body
returns-then-position-body c =
    let size = pairs_len c.args.body.now in
    ap (λ (n : ℕ). eqb n c.args.number) c.number_at.ensures
    ∙ sym (has_at_rank c.args.number 0 65536 c.rank_in_numbers-position.result (pairs_of c.args.body.now) c.requires c.rank_in_numbers-position.ensures (omega arith))

pub returns-else-position-body : goal.returns-else-position-body
returns-else-position-body c =
    let size = pairs_len c.args.body.now in
    sym (has_not c.args.number c.rank_in_numbers-position.result (pairs_of c.args.body.now) c.rank_in_numbers-position.ensures (omega arith))
