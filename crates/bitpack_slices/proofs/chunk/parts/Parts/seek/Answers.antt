-- The numbers of the slices before that of the high byte, and those of its own; then the number there, or the first of the next slice.
use Rattle.std.proofs.Common.{◌≡◌, ◌∙◌, ◌+◌, ◌*◌, ◌/◌, ◌%◌, ℕ, List, slice_get, ap, sym, arith, drop, get_or, length, take}
use Rattle.std.proofs.lemmas.List.{length-take-le}
use Rattle.bitpack_slices.proofs.lemmas.bodies.BlockReads.{at_most, below_counts, numbers_few, rank_not_there, ranked}
use Rattle.bitpack_slices.proofs.lemmas.bodies.CutLaws.{lens_more}
use Rattle.bitpack_slices.proofs.lemmas.bits.CountLaws.{bytes_are}
use Rattle.bitpack_slices.proofs.lemmas.bodies.ReadLaws.{slice_at}
use Rattle.bitpack_slices.proofs.lemmas.bodies.TestLaws.{bytes_taken}
use Rattle.bitpack_slices.proofs.lemmas.numbers.SelectLaws.{numbers_more, slice_found}
use Rattle.bitpack_slices.proofs.lemmas.slices.RankLaws.{own_few, rank_next, there_is}
use Rattle.bitpack_slices.proofs.chunk.parts.Parts.seek.Goals as goal
use Rattle.bitpack_slices.specs.Reads.{rank}
use Rattle.bitpack_slices.specs.Slices.{numbers_in, slice_len, slice_numbers, slices_len}
use Rattle.bitpack_slices.specs.Parts.{numbers_in_parts}

-- its numbers, as its index tells
own_numbers : (index offset : ℕ) (numbers counts slices : List ℕ)
    → numbers ≡ slice_numbers (get_or counts index 0 + 1) (take (slice_len (get_or counts index 0 + 1)) (drop offset slices)) → offset ≡ slices_len (take index counts)
    → numbers ≡ slice_numbers (get_or counts index 0 + 1) (take (slice_len (get_or counts index 0 + 1)) (drop (slices_len (take index counts)) slices))
own_numbers index offset numbers counts slices are e =
    are ∙ ap (λ (n : ℕ). slice_numbers (get_or counts index 0 + 1) (take (slice_len (get_or counts index 0 + 1)) (drop n slices))) e

pub slice_bounds-count_numbers-end : goal.slice_bounds-count_numbers-end
slice_bounds-count_numbers-end c =
    let hs : List ℕ = slice_numbers (length c.args.self.counts.now) c.args.self.highs.now in
    sym (length-take-le c.rank_in_slice-index.result c.args.self.counts.now (at_most c.rank_in_slice-index.result (c.args.number / 256) hs c.args.self.counts.now c.rank_in_slice-index.ensures c.args.self.occur.count_is))

pub offset_of-offset-requires : goal.offset_of-offset-requires
offset_of-offset-requires c = at_most c.rank_in_slice-index.result (c.args.number / 256) (slice_numbers (length c.args.self.counts.now) c.args.self.highs.now) c.args.self.counts.now c.rank_in_slice-index.ensures c.args.self.occur.count_is

pub first_from-requires-clause-within : goal.first_from-requires-clause-within
first_from-requires-clause-within c = at_most c.rank_in_slice-index.result (c.args.number / 256) (slice_numbers (length c.args.self.counts.now) c.args.self.highs.now) c.args.self.counts.now c.rank_in_slice-index.ensures c.args.self.occur.count_is

pub returns-then-not-in_slice-clause-rank : goal.returns-then-not-in_slice-clause-rank
returns-then-not-in_slice-clause-rank c =
    c.count_numbers-before.ensures
    ∙ sym (rank_not_there c.args.number c.rank_in_slice-index.result (slice_numbers (length c.args.self.counts.now) c.args.self.highs.now) c.args.self.counts.now c.args.self.slices.now c.args.self.occur.count_is c.args.self.occur.rising c.args.self.are c.rank_in_slice-index.ensures
    (sym c.in_slice.ensures ∙ c.if-not-in_slice.true))

pub slice_from-slice-requires-clause-within : goal.slice_from-slice-requires-clause-within
slice_from-slice-requires-clause-within c =
    below_counts c.rank_in_slice-index.result (c.args.number / 256) (slice_numbers (length c.args.self.counts.now) c.args.self.highs.now) c.args.self.counts.now c.rank_in_slice-index.ensures
    (sym c.in_slice.ensures ∙ c.if-not-in_slice.false) c.args.self.occur.count_is

pub overflow_add-result : goal.overflow_add-result
overflow_add-result c =
    let index : ℕ = c.rank_in_slice-index.result in
    let counts : List ℕ = c.args.self.counts.now in
    let few = numbers_few (take index counts) (bytes_taken index counts (bytes_are counts c.args.self.are_bytes)) in
    let most = at_most index (c.args.number / 256) (slice_numbers (length counts) c.args.self.highs.now) counts c.rank_in_slice-index.ensures c.args.self.occur.count_is in
    let long = length-take-le index counts most in
    let less = own_few c.rank-left.result (c.args.number % 256) c.slice_from-slice.result c.rank-left.ensures in
    omega (arith, c.count_numbers-before.ensures)

pub overflow_add-result-2 : goal.overflow_add-result-2
overflow_add-result-2 c =
    let index : ℕ = c.rank_in_slice-index.result in
    let counts : List ℕ = c.args.self.counts.now in
    let few = numbers_few (take index counts) (bytes_taken index counts (bytes_are counts c.args.self.are_bytes)) in
    let most = at_most index (c.args.number / 256) (slice_numbers (length counts) c.args.self.highs.now) counts c.rank_in_slice-index.ensures c.args.self.occur.count_is in
    let long = length-take-le index counts most in
    omega (arith, c.count_numbers-before.ensures, c.slice_from-slice.result.there.few, c.if-left-slice.false)

pub overflow_add-index : goal.overflow_add-index
overflow_add-index c =
    let less = below_counts c.rank_in_slice-index.result (c.args.number / 256) (slice_numbers (length c.args.self.counts.now) c.args.self.highs.now) c.args.self.counts.now c.rank_in_slice-index.ensures
    (sym c.in_slice.ensures ∙ c.if-not-in_slice.false) c.args.self.occur.count_is in
    omega (arith, c.args.self.few)

pub first_from-requires-then-left-slice-clause-within : goal.first_from-requires-then-left-slice-clause-within
first_from-requires-then-left-slice-clause-within c =
    let less = below_counts c.rank_in_slice-index.result (c.args.number / 256) (slice_numbers (length c.args.self.counts.now) c.args.self.highs.now) c.args.self.counts.now c.rank_in_slice-index.ensures
    (sym c.in_slice.ensures ∙ c.if-not-in_slice.false) c.args.self.occur.count_is in
    omega arith

pub first_from-requires-then-left-slice-clause-high : goal.first_from-requires-then-left-slice-clause-high
first_from-requires-then-left-slice-clause-high c =
    rank_next (c.args.number / 256) 0 256 c.rank_in_slice-index.result (slice_numbers (length c.args.self.counts.now) c.args.self.highs.now) c.args.self.occur.rising c.rank_in_slice-index.ensures (sym c.in_slice.ensures ∙ c.if-not-in_slice.false)

pub first_from-requires-then-left-slice-clause-offset : goal.first_from-requires-then-left-slice-clause-offset
first_from-requires-then-left-slice-clause-offset c =
    let index : ℕ = c.rank_in_slice-index.result in
    let counts : List ℕ = c.args.self.counts.now in
    let less = below_counts index (c.args.number / 256) (slice_numbers (length counts) c.args.self.highs.now) counts c.rank_in_slice-index.ensures (sym c.in_slice.ensures ∙ c.if-not-in_slice.false) c.args.self.occur.count_is in
    let size = c.byte_len.ensures ∙ ap slice_len c.slice_from-slice.ensures.count in
    omega (arith, lens_more counts index less, c.slice_from-slice.ensures.start, c.offset_of-offset.ensures)

-- the rank of a number whose high byte occurs
pub returns-then-left-slice-clause-rank : goal.returns-then-left-slice-clause-rank
returns-then-left-slice-clause-rank c =
    let hs : List ℕ = slice_numbers (length c.args.self.counts.now) c.args.self.highs.now in
    ranked c.args.number c.rank_in_slice-index.result c.count_numbers-before.result c.rank-left.result hs c.args.self.counts.now c.args.self.slices.now c.args.self.occur.count_is c.args.self.occur.rising c.args.self.are
    c.rank_in_slice-index.ensures (sym c.in_slice.ensures ∙ c.if-not-in_slice.false) c.count_numbers-before.ensures
    (c.rank-left.ensures ∙ ap (rank (c.args.number % 256)) (own_numbers c.rank_in_slice-index.result c.offset_of-offset.result _ c.args.self.counts.now c.args.self.slices.now c.slice_from-slice.ensures.numbers c.offset_of-offset.ensures))

pub returns-clause-rank : goal.returns-clause-rank
returns-clause-rank c =
    let hs : List ℕ = slice_numbers (length c.args.self.counts.now) c.args.self.highs.now in
    ranked c.args.number c.rank_in_slice-index.result c.count_numbers-before.result c.rank-left.result hs c.args.self.counts.now c.args.self.slices.now c.args.self.occur.count_is c.args.self.occur.rising c.args.self.are
    c.rank_in_slice-index.ensures (sym c.in_slice.ensures ∙ c.if-not-in_slice.false) c.count_numbers-before.ensures
    (c.rank-left.ensures ∙ ap (rank (c.args.number % 256)) (own_numbers c.rank_in_slice-index.result c.offset_of-offset.result _ c.args.self.counts.now c.args.self.slices.now c.slice_from-slice.ensures.numbers c.offset_of-offset.ensures))

-- the slice has no number that large
pub returns-then-left-slice-clause-first : goal.returns-then-left-slice-clause-first
returns-then-left-slice-clause-first c =
    let index : ℕ = c.rank_in_slice-index.result in
    let counts : List ℕ = c.args.self.counts.now in
    let less = below_counts index (c.args.number / 256) (slice_numbers (length counts) c.args.self.highs.now) counts c.rank_in_slice-index.ensures (sym c.in_slice.ensures ∙ c.if-not-in_slice.false) c.args.self.occur.count_is in
    let few = own_few c.rank-left.result (c.args.number % 256) c.slice_from-slice.result c.rank-left.ensures in
    let past : numbers_in (take (index + 1) counts) ≡ c.count_numbers-before.result + c.rank-left.result =
    omega (arith, numbers_more counts index less, c.count_numbers-before.ensures, c.slice_from-slice.ensures.count, c.if-left-slice.true) in
    c.first_from-then-left-slice.ensures ∙ ap (slice_get (numbers_in_parts c.args.self)) past

pub returns-clause-first : goal.returns-clause-first
returns-clause-first c =
    let index : ℕ = c.rank_in_slice-index.result in
    let left : ℕ = c.rank-left.result in
    let counts : List ℕ = c.args.self.counts.now in
    let hs : List ℕ = slice_numbers (length counts) c.args.self.highs.now in
    let found = sym c.in_slice.ensures ∙ c.if-not-in_slice.false in
    let less = below_counts index (c.args.number / 256) hs counts c.rank_in_slice-index.ensures found c.args.self.occur.count_is in
    let high : get_or hs index 0 ≡ c.args.number / 256 = there_is (c.args.number / 256) 0 256 index hs c.args.self.occur.rising c.rank_in_slice-index.ensures found in
    let low = c.next-first.ensures ∙ ap (λ (l : List ℕ). get_or l left 0) (own_numbers c.rank_in_slice-index.result c.offset_of-offset.result _ c.args.self.counts.now c.args.self.slices.now c.slice_from-slice.ensures.numbers c.offset_of-offset.ensures) in
    slice_found _ index left (c.count_numbers-before.result + left) hs counts c.args.self.slices.now c.args.self.occur.count_is c.args.self.are less
    (omega (arith, c.slice_from-slice.ensures.count, c.if-left-slice.false)) (ap (λ (n : ℕ). n + left) (sym c.count_numbers-before.ensures))
    (ap (λ (n : ℕ). 256 * (c.args.number / 256) + n) low ∙ ap (λ (n : ℕ). 256 * n + get_or (slice_at index counts c.args.self.slices.now) left 0) (sym high))
