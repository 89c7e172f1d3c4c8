-- The slice begins where those before it end.
use Rattle.std.proofs.Common.{ℕ, ◌+◌, ◌∙◌, ap, drop, get_or, take}
use Rattle.bitpack_slices.proofs.chunk.parts.Parts.slice_at.Goals as goal
use Rattle.bitpack_slices.specs.Slices.{slice_len, slice_numbers}

pub returns-clause-numbers : goal.returns-clause-numbers
returns-clause-numbers c =
    let count : ℕ = get_or c.args.self.counts.now c.args.index 0 + 1 in
    c.slice_from.ensures.numbers ∙ ap (λ (n : ℕ). slice_numbers count (take (slice_len count) (drop n c.args.self.slices.now))) c.offset_of.ensures
