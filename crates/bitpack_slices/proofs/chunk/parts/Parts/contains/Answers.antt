-- The rank of the high byte is the position of its slice.
use Rattle.std.proofs.Common.{ℕ, List, ◌≡◌, ◌∙◌, ◌/◌, ◌%◌, ap, arith, length, sym}
use Rattle.bitpack_slices.proofs.lemmas.bodies.ReadLaws.{in_numbers, not_in, rank_less}
use Rattle.bitpack_slices.proofs.chunk.parts.Parts.contains.Goals as goal
use Rattle.bitpack_slices.specs.Reads.{has}
use Rattle.bitpack_slices.specs.Slices.{slice_numbers}

pub returns-then-not-in_slice : goal.returns-then-not-in_slice
returns-then-not-in_slice c = sym (not_in c.args.number (slice_numbers (length c.args.self.counts.now) c.args.self.highs.now) c.args.self.counts.now c.args.self.slices.now c.args.self.are
    (sym c.in_slice.ensures ∙ c.if-not-in_slice.true))

pub slice_at-requires : goal.slice_at-requires
slice_at-requires c =
    let few = rank_less (c.args.number / 256) (slice_numbers (length c.args.self.counts.now) c.args.self.highs.now) (sym c.in_slice.ensures ∙ c.if-not-in_slice.false) in
    let size = c.args.self.occur.count_is in
    omega arith

pub returns : goal.returns
returns c =
    let size : length (slice_numbers (length c.args.self.counts.now) c.args.self.highs.now) ≡ length c.args.self.counts.now = c.args.self.occur.count_is in
    let found = in_numbers c.args.number 0 c.rank_in_slice-index.result (slice_numbers (length c.args.self.counts.now) c.args.self.highs.now) c.args.self.counts.now c.args.self.slices.now
    c.rank_in_slice-index.ensures size c.args.self.occur.rising c.args.self.are (sym c.in_slice.ensures ∙ c.if-not-in_slice.false) in
    c.contains.ensures ∙ ap (λ (l : List ℕ). has (c.args.number % 256) l) c.slice_at.ensures.numbers ∙ sym found
