-- The bounds and the columns are those of the chunk.
use Rattle.std.proofs.Common.{◌≡◌, ◌+◌, ◌-◌, ◌*◌, ℕ, List, ap, ◌∙◌}
use Rattle.bitpack_wide.specs.WideColumnReads.{is_high, least_at, part_at}
use Rattle.bitpack_wide.specs.WideColumns.{chunks_of, has_high}
use Rattle.bitpack_wide.proofs.wide_column.chunks.open_chunk.Goals as goal

pub returns-clause-chunk : goal.returns-clause-chunk
returns-clause-chunk c =
    let rest : List ℕ = c.args.rest.now in
    let index : ℕ = c.args.index in
    let needed : c.has_high.result ≡ is_high rest index =
    c.has_high.ensures ∙ ap (λ (x : ℕ). has_high (c.bound_at-greatest.result - x)) c.bound_at-least.ensures
    ∙ ap (λ (x : ℕ). has_high (x - least_at rest index)) c.bound_at-greatest.ensures in
    let part : c.part_at-part.result.now ≡ part_at (chunks_of c.args.count) rest (2 * index + 2) =
    c.part_at-part.ensures ∙ ap (λ (n : ℕ). part_at n rest (2 * index + 2)) c.chunks_of-chunks.ensures.chunks in
    record {
      least_is = c.bound_at-least.ensures;
      greatest_is = c.bound_at-greatest.ensures;
      len_is = c.min-len.ensures;
      low_is = c.in_ok-low.ensures.bytes ∙ c.part_at.ensures ∙ ap (λ (n : ℕ). part_at n rest (2 * index + 1)) c.chunks_of-chunks.ensures.chunks;
      high_is = λ is. let found = c.in_ok-high.ensures.some (needed ∙ is) in (found.0, found.1, found.2 ∙ part);
      none_is = λ is. c.in_ok-high.ensures.none (needed ∙ is);
    }
