-- The number at the rank is the first that is not below.
use Rattle.std.proofs.Common.{◌∙◌, ap, sym, arith, ℕ, Some}
use Rattle.std.proofs.lemmas.Option.{slice_get-get_or, slice_get_past}
use Rattle.bitpack_slices.proofs.lemmas.numbers.HalfLaws.{pairs_len}
use Rattle.bitpack_slices.proofs.chunk.search.seek_in_numbers.Goals as goal
use Rattle.bitpack_slices.specs.Slices.{pairs_of}

pub returns-then-position-body-clause-first : goal.returns-then-position-body-clause-first
returns-then-position-body-clause-first c =
    let size = pairs_len c.args.body.now in
    ap (λ (n : ℕ). Some n) c.number_at.ensures ∙ sym (slice_get-get_or (pairs_of c.args.body.now) c.rank_in_numbers-position.result 0 (omega arith))

pub returns-else-position-body-clause-first : goal.returns-else-position-body-clause-first
returns-else-position-body-clause-first c =
    let size = pairs_len c.args.body.now in
    sym (slice_get_past (pairs_of c.args.body.now) c.rank_in_numbers-position.result (omega arith))
