-- What is at its position tells a number.
use Rattle.std.proofs.Common.{◌∙◌, ◌^◌, ap, sym, arith, ℕ, eqb}
use Rattle.bitpack_slices.proofs.ForCallers.{has_at_rank, has_not, quads_len}
use Rattle.bitpack_sets.proofs.array.in_array.Goals as goal
use Rattle.bitpack_slices.specs.Slices.{quads_of}

pub returns-then-position-rest : goal.returns-then-position-rest
returns-then-position-rest c =
    let size = quads_len c.args.rest.now in
    ap (λ (n : ℕ). eqb n c.args.id) c.id_at.ensures
    ∙ sym (has_at_rank c.args.id 0 (2 ^ 32) c.rank_in_array-position.result (quads_of c.args.rest.now) c.requires c.rank_in_array-position.ensures (omega arith))

pub returns-else-position-rest : goal.returns-else-position-rest
returns-else-position-rest c =
    let size = quads_len c.args.rest.now in
    sym (has_not c.args.id c.rank_in_array-position.result (quads_of c.args.rest.now) c.rank_in_array-position.ensures (omega arith))
