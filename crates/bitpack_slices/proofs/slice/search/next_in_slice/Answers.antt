-- The first bit from a number on is that of the next number, and a full slice has each number at its own place.
use Rattle.std.proofs.Common.{◌∙◌, ◌<◌, ℕ, List, ap, arith, get_or, length, sym}
use Rattle.bitpack_slices.proofs.lemmas.bits.CountLaws.{some_numbers}
use Rattle.bitpack_slices.proofs.lemmas.bodies.ReadLaws.{full_numbers}
use Rattle.bitpack_slices.proofs.lemmas.bytes.DecodeLaws.{range_at, rising_top}
use Rattle.bitpack_slices.proofs.lemmas.slices.RankLaws.{first_bit_is, not_below}
use Rattle.bitpack_slices.proofs.slice.search.next_in_slice.Goals as goal
use Rattle.bitpack_slices.specs.Reads.{has}
use Rattle.bitpack_slices.specs.Slices.{IsSlice, slice_numbers}

-- the position is within, and its number below 256
own_top : (count p : ℕ) (bytes : List ℕ) → IsSlice count bytes → p < count → (p < length (slice_numbers count bytes)) × (get_or (slice_numbers count bytes) p 0 < 256)
own_top count p bytes is lt =
    let within : p < length (slice_numbers count bytes) = omega (arith, is.count_is) in
    (within, rising_top 0 256 p (slice_numbers count bytes) is.rising within)

pub first_bit-requires-clause-within : goal.first_bit-requires-clause-within
first_bit-requires-clause-within c =
    let own = own_top c.args.count c.args.position c.args.bytes.now c.requires.slice c.requires.within in
    let least = not_below c.args.number 0 256 c.args.position (slice_numbers c.args.count c.args.bytes.now) c.requires.slice.rising c.requires.position own.0 in
    omega (arith, own.1)

pub returns-then-count-lt256 : goal.returns-then-count-lt256
returns-then-count-lt256 c =
    let xs : List ℕ = slice_numbers c.args.count c.args.bytes.now in
    let own = own_top c.args.count c.args.position c.args.bytes.now c.requires.slice c.requires.within in
    let numbers = some_numbers c.args.count c.args.bytes.now (omega (arith, c.if-count-lt32.false)) (omega (arith, c.if-count-lt256.true)) in
    first_bit_is c.args.number c.args.position c.first_bit.result xs c.words_of.result c.requires.slice.rising c.requires.position own.0
    (λ i small. c.words_of.ensures i small ∙ ap (has i) (sym numbers)) c.first_bit.ensures.later c.first_bit.ensures.within c.first_bit.ensures.none c.first_bit.ensures.one

pub overflow_cast-result : goal.overflow_cast-result
overflow_cast-result c =
    let xs : List ℕ = slice_numbers c.args.count c.args.bytes.now in
    let own = own_top c.args.count c.args.position c.args.bytes.now c.requires.slice c.requires.within in
    let numbers = some_numbers c.args.count c.args.bytes.now (omega (arith, c.if-count-lt32.false)) (omega (arith, c.if-count-lt256.true)) in
    let is = first_bit_is c.args.number c.args.position c.first_bit.result xs c.words_of.result c.requires.slice.rising c.requires.position own.0
    (λ i small. c.words_of.ensures i small ∙ ap (has i) (sym numbers)) c.first_bit.ensures.later c.first_bit.ensures.within c.first_bit.ensures.none c.first_bit.ensures.one in
    record { fits = omega (arith, own.1) }

pub returns-else-count-lt256 : goal.returns-else-count-lt256
returns-else-count-lt256 c =
    let at = range_at 0 256 c.args.position (omega arith) in
    let same = ap (λ (l : List ℕ). get_or l c.args.position 0) (full_numbers c.args.count c.args.bytes.now c.if-count-lt256.false) in
    omega arith
