-- The numbers of the slices before that of the high byte, and those of its own, if the place is not after it; then the number there, or the first of the next slice.
use Rattle.std.proofs.Common.{◌≡◌, ◌∙◌, ◌+◌, ◌*◌, ◌/◌, ◌%◌, ◌<◌, ◌≤◌, ℕ, List, drop, slice_get, true, ap, sym, arith, get_or, length, max, take}
use Rattle.std.proofs.Math.Nat.{max-eq_left, max-eq_right}
use Rattle.bitpack_slices.proofs.lemmas.bodies.BlockReads.{at_most, below_counts, rank_not_there, ranked}
use Rattle.bitpack_slices.proofs.lemmas.bits.CountLaws.{bytes_are}
use Rattle.bitpack_slices.proofs.lemmas.bodies.CutLaws.{lens_more}
use Rattle.bitpack_slices.proofs.lemmas.bodies.ReadLaws.{slice_at}
use Rattle.bitpack_slices.proofs.lemmas.numbers.SelectLaws.{numbers_more, numbers_to, slice_found}
use Rattle.bitpack_slices.proofs.lemmas.slices.PlaceLaws.{numbers_few_to, numbers_left, numbers_passed, rank_before}
use Rattle.bitpack_slices.proofs.lemmas.slices.RankLaws.{own_few, rank_next, there_is}
use Rattle.bitpack_slices.proofs.chunk.parts.Parts.seek_at.Goals as goal
use Rattle.bitpack_slices.specs.Reads.{has, rank}
use Rattle.bitpack_slices.specs.Parts.{numbers_in_parts}
use Rattle.bitpack_slices.specs.Places.{IsPlace}
use Rattle.bitpack_slices.specs.Selections.{numbers_at}
use Rattle.bitpack_slices.specs.Slices.{numbers_in, slice_len, slice_numbers, slices_len}
use Rattle.bitpack_slices.specs.declared.chunk.parts.Parts.{Parts}
use Rattle.bitpack_slices.specs.declared.chunk.place.Place.{Place}
use Rattle.bitpack_slices.specs.declared.slice.Slice.{Slice}

abbrev highs_of : Parts → List ℕ
highs_of parts = slice_numbers (length parts.counts.now) parts.highs.now

-- as many numbers are before the slice with an index
before_is : (counts : List ℕ) (i : ℕ) (here : Place) → IsPlace counts here → here.index ≡ i → here.before ≡ numbers_in (take i counts)
before_is counts i here is e = is.before_is ∙ ap (λ (n : ℕ). numbers_in (take n counts)) e

offset_is : (counts : List ℕ) (i : ℕ) (here : Place) → IsPlace counts here → here.index ≡ i → here.offset ≡ slices_len (take i counts)
offset_is counts i here is e = is.offset_is ∙ ap (λ (n : ℕ). slices_len (take n counts)) e

-- the place is not after the slice
not_after : (counts : List ℕ) (i : ℕ) (place : Place) → IsPlace counts place → place.index ≤ i → place.before ≤ numbers_in (take i counts)
not_after counts i place is le = let passed = numbers_passed counts place.index i le in let e = is.before_is in omega arith

-- the rank of a number whose high byte occurs, from the place of its slice on
rank_is : (parts : Parts) (x i before left : ℕ) (slice : Slice) (place : Place) → IsPlace parts.counts.now place → place.index ≤ i → i ≡ rank (x / 256) (highs_of parts)
    → has (x / 256) (highs_of parts) ≡ true → before ≡ numbers_in (take i parts.counts.now) → left ≡ rank (x % 256) (numbers_at slice)
    → numbers_at slice ≡ slice_at i parts.counts.now parts.slices.now → before + left ≡ max place.before (rank x (numbers_in_parts parts))
rank_is parts x i before left slice place is le e h b l n =
    let whole = ranked x i before left (highs_of parts) parts.counts.now parts.slices.now parts.occur.count_is parts.occur.rising parts.are e h b (l ∙ ap (rank (x % 256)) n) in
    let some = not_after parts.counts.now i place is le in
    whole ∙ sym (max-eq_right {n = place.before} {m = rank x (numbers_in_parts parts)} (omega arith))

pub returns-then-index-place-clause-rank : goal.returns-then-index-place-clause-rank
returns-then-index-place-clause-rank c =
    let parts = c.args.self in
    let most = rank_before c.args.number c.rank_in_slice-index.result c.args.place.index (highs_of parts) parts.counts.now parts.slices.now parts.occur.count_is parts.occur.rising parts.are c.rank_in_slice-index.ensures c.if-index-place.true c.requires.place.within in
    let before = c.requires.place.before_is in
    sym (max-eq_left {n = c.args.place.before} {m = rank c.args.number (numbers_in_parts parts)} (omega arith))

pub returns-then-index-place-clause-first : goal.returns-then-index-place-clause-first
returns-then-index-place-clause-first c = c.first_at.ensures ∙ ap (slice_get (numbers_in_parts c.args.self)) (sym c.requires.place.before_is)

pub place_of-here-requires-clause-within : goal.place_of-here-requires-clause-within
place_of-here-requires-clause-within c = at_most c.rank_in_slice-index.result (c.args.number / 256) (highs_of c.args.self) c.args.self.counts.now c.rank_in_slice-index.ensures c.args.self.occur.count_is

pub returns-then-not-in_slice-clause-rank : goal.returns-then-not-in_slice-clause-rank
returns-then-not-in_slice-clause-rank c =
    let parts = c.args.self in
    let i : ℕ = c.rank_in_slice-index.result in
    let here = before_is parts.counts.now i c.place_of-here.result c.place_of-here.ensures.place c.place_of-here.ensures.index in
    let none = rank_not_there c.args.number i (highs_of parts) parts.counts.now parts.slices.now parts.occur.count_is parts.occur.rising parts.are c.rank_in_slice-index.ensures (sym c.in_slice.ensures ∙ c.if-not-in_slice.true) in
    let some = not_after parts.counts.now i c.args.place c.requires.place (omega (arith, c.if-index-place.false)) in
    here ∙ sym none ∙ sym (max-eq_right {n = c.args.place.before} {m = rank c.args.number (numbers_in_parts parts)} (omega arith))

pub first_from-requires-clause-within : goal.first_from-requires-clause-within
first_from-requires-clause-within c = at_most c.rank_in_slice-index.result (c.args.number / 256) (highs_of c.args.self) c.args.self.counts.now c.rank_in_slice-index.ensures c.args.self.occur.count_is

pub first_from-requires-clause-offset : goal.first_from-requires-clause-offset
first_from-requires-clause-offset c = offset_is c.args.self.counts.now c.rank_in_slice-index.result c.place_of-here.result c.place_of-here.ensures.place c.place_of-here.ensures.index

pub returns-then-not-in_slice-clause-first : goal.returns-then-not-in_slice-clause-first
returns-then-not-in_slice-clause-first c =
    let here = before_is c.args.self.counts.now c.rank_in_slice-index.result c.place_of-here.result c.place_of-here.ensures.place c.place_of-here.ensures.index in
    c.first_from.ensures ∙ ap (slice_get (numbers_in_parts c.args.self)) (sym here)

pub slice_from-slice-requires-clause-within : goal.slice_from-slice-requires-clause-within
slice_from-slice-requires-clause-within c =
    below_counts c.rank_in_slice-index.result (c.args.number / 256) (highs_of c.args.self) c.args.self.counts.now c.rank_in_slice-index.ensures
    (sym c.in_slice.ensures ∙ c.if-not-in_slice.false) c.args.self.occur.count_is

pub slice_from-slice-requires-clause-offset : goal.slice_from-slice-requires-clause-offset
slice_from-slice-requires-clause-offset c = offset_is c.args.self.counts.now c.rank_in_slice-index.result c.place_of-here.result c.place_of-here.ensures.place c.place_of-here.ensures.index

pub overflow_add-result : goal.overflow_add-result
overflow_add-result c =
    let parts = c.args.self in
    let i : ℕ = c.rank_in_slice-index.result in
    let here = before_is parts.counts.now i c.place_of-here.result c.place_of-here.ensures.place c.place_of-here.ensures.index in
    let most = numbers_few_to parts.counts.now i (bytes_are parts.counts.now parts.are_bytes) (at_most i (c.args.number / 256) (highs_of parts) parts.counts.now c.rank_in_slice-index.ensures parts.occur.count_is) parts.few in
    let less = own_few c.rank-left.result (c.args.number % 256) c.slice_from-slice.result c.rank-left.ensures in
    omega arith

pub overflow_add-result-2 : goal.overflow_add-result-2
overflow_add-result-2 c =
    let parts = c.args.self in
    let i : ℕ = c.rank_in_slice-index.result in
    let here = before_is parts.counts.now i c.place_of-here.result c.place_of-here.ensures.place c.place_of-here.ensures.index in
    let most = numbers_few_to parts.counts.now i (bytes_are parts.counts.now parts.are_bytes) (at_most i (c.args.number / 256) (highs_of parts) parts.counts.now c.rank_in_slice-index.ensures parts.occur.count_is) parts.few in
    omega (arith, c.slice_from-slice.result.there.few, c.if-left-slice.false)

pub overflow_add-index : goal.overflow_add-index
overflow_add-index c =
    let less = below_counts c.rank_in_slice-index.result (c.args.number / 256) (highs_of c.args.self) c.args.self.counts.now c.rank_in_slice-index.ensures
    (sym c.in_slice.ensures ∙ c.if-not-in_slice.false) c.args.self.occur.count_is in
    omega (arith, c.args.self.few)

pub first_from-requires-then-left-slice-clause-within : goal.first_from-requires-then-left-slice-clause-within
first_from-requires-then-left-slice-clause-within c =
    let less = below_counts c.rank_in_slice-index.result (c.args.number / 256) (highs_of c.args.self) c.args.self.counts.now c.rank_in_slice-index.ensures
    (sym c.in_slice.ensures ∙ c.if-not-in_slice.false) c.args.self.occur.count_is in
    omega arith

pub first_from-requires-then-left-slice-clause-high : goal.first_from-requires-then-left-slice-clause-high
first_from-requires-then-left-slice-clause-high c =
    rank_next (c.args.number / 256) 0 256 c.rank_in_slice-index.result (highs_of c.args.self) c.args.self.occur.rising c.rank_in_slice-index.ensures (sym c.in_slice.ensures ∙ c.if-not-in_slice.false)

pub first_from-requires-then-left-slice-clause-offset : goal.first_from-requires-then-left-slice-clause-offset
first_from-requires-then-left-slice-clause-offset c =
    let i : ℕ = c.rank_in_slice-index.result in
    let counts : List ℕ = c.args.self.counts.now in
    let less = below_counts i (c.args.number / 256) (highs_of c.args.self) counts c.rank_in_slice-index.ensures (sym c.in_slice.ensures ∙ c.if-not-in_slice.false) c.args.self.occur.count_is in
    let size = c.byte_len.ensures ∙ ap slice_len c.slice_from-slice.ensures.count in
    let here = offset_is counts i c.place_of-here.result c.place_of-here.ensures.place c.place_of-here.ensures.index in
    omega (arith, lens_more counts i less, c.slice_from-slice.ensures.start)

-- the slice of the high byte
slice_is : (counts slices : List ℕ) (i : ℕ) (here : Place) (slice : Slice) → IsPlace counts here → here.index ≡ i
    → numbers_at slice ≡ slice_numbers (get_or counts i 0 + 1) (take (slice_len (get_or counts i 0 + 1)) (drop here.offset slices)) → numbers_at slice ≡ slice_at i counts slices
slice_is counts slices i here slice is e n =
    let count : ℕ = get_or counts i 0 + 1 in
    n ∙ ap (λ (o : ℕ). slice_numbers count (take (slice_len count) (drop o slices))) (offset_is counts i here is e)

pub returns-then-left-slice-clause-rank : goal.returns-then-left-slice-clause-rank
returns-then-left-slice-clause-rank c =
    let parts = c.args.self in
    let i : ℕ = c.rank_in_slice-index.result in
    let here = before_is parts.counts.now i c.place_of-here.result c.place_of-here.ensures.place c.place_of-here.ensures.index in
    let own = slice_is parts.counts.now parts.slices.now i c.place_of-here.result c.slice_from-slice.result c.place_of-here.ensures.place c.place_of-here.ensures.index c.slice_from-slice.ensures.numbers in
    rank_is parts c.args.number i c.place_of-here.result.before c.rank-left.result c.slice_from-slice.result c.args.place c.requires.place (omega (arith, c.if-index-place.false)) c.rank_in_slice-index.ensures
    (sym c.in_slice.ensures ∙ c.if-not-in_slice.false) here c.rank-left.ensures own

pub returns-clause-rank : goal.returns-clause-rank
returns-clause-rank c =
    let parts = c.args.self in
    let i : ℕ = c.rank_in_slice-index.result in
    let here = before_is parts.counts.now i c.place_of-here.result c.place_of-here.ensures.place c.place_of-here.ensures.index in
    let own = slice_is parts.counts.now parts.slices.now i c.place_of-here.result c.slice_from-slice.result c.place_of-here.ensures.place c.place_of-here.ensures.index c.slice_from-slice.ensures.numbers in
    rank_is parts c.args.number i c.place_of-here.result.before c.rank-left.result c.slice_from-slice.result c.args.place c.requires.place (omega (arith, c.if-index-place.false)) c.rank_in_slice-index.ensures
    (sym c.in_slice.ensures ∙ c.if-not-in_slice.false) here c.rank-left.ensures own

-- the slice has no number that large
pub returns-then-left-slice-clause-first : goal.returns-then-left-slice-clause-first
returns-then-left-slice-clause-first c =
    let i : ℕ = c.rank_in_slice-index.result in
    let counts : List ℕ = c.args.self.counts.now in
    let less = below_counts i (c.args.number / 256) (highs_of c.args.self) counts c.rank_in_slice-index.ensures (sym c.in_slice.ensures ∙ c.if-not-in_slice.false) c.args.self.occur.count_is in
    let few = own_few c.rank-left.result (c.args.number % 256) c.slice_from-slice.result c.rank-left.ensures in
    let here = before_is counts i c.place_of-here.result c.place_of-here.ensures.place c.place_of-here.ensures.index in
    let past : numbers_in (take (i + 1) counts) ≡ c.place_of-here.result.before + c.rank-left.result =
    omega (arith, numbers_more counts i less, c.slice_from-slice.ensures.count, c.if-left-slice.true) in
    c.first_from-then-left-slice.ensures ∙ ap (slice_get (numbers_in_parts c.args.self)) past

pub returns-clause-first : goal.returns-clause-first
returns-clause-first c =
    let parts = c.args.self in
    let i : ℕ = c.rank_in_slice-index.result in
    let left : ℕ = c.rank-left.result in
    let counts : List ℕ = parts.counts.now in
    let hs : List ℕ = highs_of parts in
    let found = sym c.in_slice.ensures ∙ c.if-not-in_slice.false in
    let less = below_counts i (c.args.number / 256) hs counts c.rank_in_slice-index.ensures found parts.occur.count_is in
    let high : get_or hs i 0 ≡ c.args.number / 256 = there_is (c.args.number / 256) 0 256 i hs parts.occur.rising c.rank_in_slice-index.ensures found in
    let here = before_is counts i c.place_of-here.result c.place_of-here.ensures.place c.place_of-here.ensures.index in
    let own = slice_is counts parts.slices.now i c.place_of-here.result c.slice_from-slice.result c.place_of-here.ensures.place c.place_of-here.ensures.index c.slice_from-slice.ensures.numbers in
    let low = c.next-first.ensures ∙ ap (λ (l : List ℕ). get_or l left 0) own in
    slice_found _ i left (c.place_of-here.result.before + left) hs counts parts.slices.now parts.occur.count_is parts.are less
    (omega (arith, c.slice_from-slice.ensures.count, c.if-left-slice.false)) (ap (λ (n : ℕ). n + left) (sym here))
    (ap (λ (n : ℕ). 256 * (c.args.number / 256) + n) low ∙ ap (λ (n : ℕ). 256 * n + get_or (slice_at i counts parts.slices.now) left 0) (sym high))

pub returns-then-index-place-clause-within : goal.returns-then-index-place-clause-within
returns-then-index-place-clause-within c =
    let left = numbers_left c.args.self.counts.now c.args.place.index c.requires.place.within in
    omega (arith, c.requires.place.before_is)

pub returns-then-not-in_slice-clause-within : goal.returns-then-not-in_slice-clause-within
returns-then-not-in_slice-clause-within c =
    let here = c.place_of-here.ensures.place in
    let left = numbers_left c.args.self.counts.now c.place_of-here.result.index here.within in
    omega (arith, here.before_is)

-- the numbers of a slice are among all
among : (counts : List ℕ) (i before left count : ℕ) → i < length counts → before ≡ numbers_in (take i counts) → left ≤ count → count ≡ get_or counts i 0 + 1 → before + left ≤ numbers_in counts
among counts i before left count lt b l e = let to = numbers_to counts i lt in omega arith

pub returns-then-left-slice-clause-within : goal.returns-then-left-slice-clause-within
returns-then-left-slice-clause-within c =
    let i : ℕ = c.rank_in_slice-index.result in
    let counts : List ℕ = c.args.self.counts.now in
    let less = below_counts i (c.args.number / 256) (highs_of c.args.self) counts c.rank_in_slice-index.ensures (sym c.in_slice.ensures ∙ c.if-not-in_slice.false) c.args.self.occur.count_is in
    let few = own_few c.rank-left.result (c.args.number % 256) c.slice_from-slice.result c.rank-left.ensures in
    among counts i c.place_of-here.result.before c.rank-left.result c.slice_from-slice.result.count less
    (before_is counts i c.place_of-here.result c.place_of-here.ensures.place c.place_of-here.ensures.index) few.0 c.slice_from-slice.ensures.count

pub returns-clause-within : goal.returns-clause-within
returns-clause-within c =
    let i : ℕ = c.rank_in_slice-index.result in
    let counts : List ℕ = c.args.self.counts.now in
    let less = below_counts i (c.args.number / 256) (highs_of c.args.self) counts c.rank_in_slice-index.ensures (sym c.in_slice.ensures ∙ c.if-not-in_slice.false) c.args.self.occur.count_is in
    let few = own_few c.rank-left.result (c.args.number % 256) c.slice_from-slice.result c.rank-left.ensures in
    among counts i c.place_of-here.result.before c.rank-left.result c.slice_from-slice.result.count less
    (before_is counts i c.place_of-here.result c.place_of-here.ensures.place c.place_of-here.ensures.index) few.0 c.slice_from-slice.ensures.count
