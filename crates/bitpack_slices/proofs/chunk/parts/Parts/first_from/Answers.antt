-- The number at position 0 of the slice.
use Rattle.std.proofs.Common.{◌+◌, ◌*◌, ◌∙◌, ℕ, List, ap, arith, drop, get_or, length, sym, take}
use Rattle.bitpack_slices.proofs.lemmas.bodies.ReadLaws.{rank_below}
use Rattle.bitpack_slices.proofs.lemmas.numbers.SelectLaws.{none_found, slice_found}
use Rattle.bitpack_slices.proofs.chunk.parts.Parts.first_from.Goals as goal
use Rattle.bitpack_slices.specs.Selections.{numbers_at}
use Rattle.bitpack_slices.specs.Slices.{numbers_in, slice_len, slice_numbers}

pub returns-then-index-self : goal.returns-then-index-self
returns-then-index-self c =
    let counts : List ℕ = c.args.self.counts.now in
    none_found c.args.index (slice_numbers (length counts) c.args.self.highs.now) counts c.args.self.slices.now c.args.self.occur.count_is c.args.self.are c.if-index-self.true

pub next-requires-clause-position : goal.next-requires-clause-position
next-requires-clause-position c = let slice = c.slice_from-slice.result in sym (rank_below 0 0 256 (numbers_at slice) slice.there.slice.rising (omega arith))

pub returns : goal.returns
returns c =
    let index : ℕ = c.args.index in
    let counts : List ℕ = c.args.self.counts.now in
    let slices : List ℕ = c.args.self.slices.now in
    let hs : List ℕ = slice_numbers (length counts) c.args.self.highs.now in
    let count : ℕ = get_or counts index 0 + 1 in
    let first = c.next.ensures ∙ ap (λ (l : List ℕ). get_or l 0 0) c.slice_from-slice.ensures.numbers
    ∙ ap (λ (n : ℕ). get_or (slice_numbers count (take (slice_len count) (drop n slices))) 0 0) c.requires.offset in
    slice_found _ index 0 (numbers_in (take index counts)) hs counts slices c.args.self.occur.count_is c.args.self.are (omega (arith, c.if-index-self.false)) (omega arith) (omega arith)
    (ap (λ (n : ℕ). 256 * n + c.next.result) c.next_in_slice-first.ensures ∙ ap (λ (n : ℕ). 256 * get_or hs index 0 + n) first)
