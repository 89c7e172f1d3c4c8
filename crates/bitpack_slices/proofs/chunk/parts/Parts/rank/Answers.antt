-- The numbers of the slices before that of the high byte, and those of its own.
use Rattle.std.proofs.Common.{◌∙◌, ◌/◌, ◌%◌, ℕ, List, ap, sym, arith, length, take}
use Rattle.std.proofs.lemmas.List.{length-take-le}
use Rattle.bitpack_slices.proofs.lemmas.bodies.BlockReads.{at_most, below_counts, numbers_few, rank_not_there, ranked}
use Rattle.bitpack_slices.proofs.lemmas.bits.CountLaws.{bytes_are}
use Rattle.bitpack_slices.proofs.lemmas.bodies.ReadLaws.{rank_le}
use Rattle.bitpack_slices.proofs.lemmas.bodies.TestLaws.{bytes_taken}
use Rattle.bitpack_slices.proofs.chunk.parts.Parts.rank.Goals as goal
use Rattle.bitpack_slices.specs.Reads.{rank}
use Rattle.bitpack_slices.specs.Selections.{numbers_at}
use Rattle.bitpack_slices.specs.Slices.{slice_numbers}

pub slice_bounds-count_numbers-end : goal.slice_bounds-count_numbers-end
slice_bounds-count_numbers-end c =
    let hs : List ℕ = slice_numbers (length c.args.self.counts.now) c.args.self.highs.now in
    sym (length-take-le c.rank_in_slice-index.result c.args.self.counts.now (at_most c.rank_in_slice-index.result (c.args.number / 256) hs c.args.self.counts.now c.rank_in_slice-index.ensures c.args.self.occur.count_is))

pub returns-then-not-in_slice : goal.returns-then-not-in_slice
returns-then-not-in_slice c =
    let hs : List ℕ = slice_numbers (length c.args.self.counts.now) c.args.self.highs.now in
    c.count_numbers-before.ensures
    ∙ sym (rank_not_there c.args.number c.rank_in_slice-index.result hs c.args.self.counts.now c.args.self.slices.now c.args.self.occur.count_is c.args.self.occur.rising c.args.self.are c.rank_in_slice-index.ensures
    (sym c.in_slice.ensures ∙ c.if-not-in_slice.true))

pub slice_at-slice-requires : goal.slice_at-slice-requires
slice_at-slice-requires c =
    below_counts c.rank_in_slice-index.result (c.args.number / 256) (slice_numbers (length c.args.self.counts.now) c.args.self.highs.now) c.args.self.counts.now c.rank_in_slice-index.ensures
    (sym c.in_slice.ensures ∙ c.if-not-in_slice.false) c.args.self.occur.count_is

pub overflow_add-result : goal.overflow_add-result
overflow_add-result c =
    let index : ℕ = c.rank_in_slice-index.result in
    let counts : List ℕ = c.args.self.counts.now in
    let are = bytes_taken index counts (bytes_are counts c.args.self.are_bytes) in
    let most = at_most index (c.args.number / 256) (slice_numbers (length counts) c.args.self.highs.now) counts c.rank_in_slice-index.ensures c.args.self.occur.count_is in
    let few = numbers_few (take index counts) are in
    let long = length-take-le index counts most in
    let slice = c.slice_at-slice.result in
    let less = rank_le (c.args.number % 256) (numbers_at slice) in
    let own = slice.there.slice.count_is in
    omega (arith, c.count_numbers-before.ensures, c.rank.ensures, slice.there.few)

pub returns : goal.returns
returns c =
    ranked c.args.number c.rank_in_slice-index.result c.count_numbers-before.result c.rank.result (slice_numbers (length c.args.self.counts.now) c.args.self.highs.now) c.args.self.counts.now c.args.self.slices.now
    c.args.self.occur.count_is c.args.self.occur.rising c.args.self.are c.rank_in_slice-index.ensures (sym c.in_slice.ensures ∙ c.if-not-in_slice.false) c.count_numbers-before.ensures
    (c.rank.ensures ∙ ap (rank (c.args.number % 256)) c.slice_at-slice.ensures.numbers)
