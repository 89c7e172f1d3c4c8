-- The id at the rank is the first that is not below.
use Rattle.std.proofs.Common.{◌∙◌, ap, sym, arith, ℕ, Some}
use Rattle.std.proofs.lemmas.Option.{slice_get-get_or, slice_get_past}
use Rattle.bitpack_slices.proofs.ForCallers.{quads_len}
use Rattle.bitpack_sets.proofs.array.seek_in_array.Goals as goal
use Rattle.bitpack_slices.specs.Slices.{quads_of}

pub returns-then-position-rest-clause-first : goal.returns-then-position-rest-clause-first
returns-then-position-rest-clause-first c =
    let size = quads_len c.args.rest.now in
    ap (λ (n : ℕ). Some n) c.id_at.ensures ∙ sym (slice_get-get_or (quads_of c.args.rest.now) c.rank_in_array-position.result 0 (omega arith))

pub returns-else-position-rest-clause-first : goal.returns-else-position-rest-clause-first
returns-else-position-rest-clause-first c =
    let size = quads_len c.args.rest.now in
    sym (slice_get_past (quads_of c.args.rest.now) c.rank_in_array-position.result (omega arith))
