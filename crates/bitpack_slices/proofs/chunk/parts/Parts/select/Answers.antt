-- The number is that of its slice.
use Rattle.std.proofs.Common.{◌+◌, ◌*◌, ◌∙◌, ℕ, List, ap, get_or, length, subst, sym}
use Rattle.bitpack_slices.proofs.lemmas.numbers.SelectLaws.{slice_select}
use Rattle.bitpack_slices.proofs.chunk.parts.Parts.select.Goals as goal
use Rattle.bitpack_slices.specs.Slices.{IsSlice, slice_numbers}

pub select_in_slice-requires-clause-slice : goal.select_in_slice-requires-clause-slice
select_in_slice-requires-clause-slice c = subst (IsSlice c.slice_at-slice.result.count) (sym c.bytes.ensures) c.slice_at-slice.result.there.slice

pub returns : goal.returns
returns c =
    let index : ℕ = c.slice_of-index.result.0 in
    let left : ℕ = c.slice_of-index.result.1 in
    let counts : List ℕ = c.args.self.counts.now in
    let hs : List ℕ = slice_numbers (length counts) c.args.self.highs.now in
    let own = ap (λ (l : List ℕ). get_or (slice_numbers c.slice_at-slice.result.count l) left 0) c.bytes.ensures ∙ ap (λ (l : List ℕ). get_or l left 0) c.slice_at-slice.ensures.numbers in
    ap (λ (n : ℕ). 256 * n + c.select_in_slice.result) c.select_in_slice-high.ensures
    ∙ ap (λ (n : ℕ). 256 * get_or hs index 0 + n) (c.select_in_slice.ensures ∙ own)
    ∙ sym (slice_select index left c.args.position hs counts c.args.self.slices.now c.args.self.occur.count_is c.args.self.are c.slice_of-index.ensures.slice c.slice_of-index.ensures.own c.slice_of-index.ensures.position)
