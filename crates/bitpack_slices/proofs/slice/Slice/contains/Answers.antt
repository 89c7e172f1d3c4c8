-- A byte of a short slice is found among its first ones.
use Rattle.std.proofs.Common.{ℕ, List, ◌∙◌, ap, refl, sym}
use Rattle.bitpack_slices.proofs.lemmas.slices.MemberLaws.{matches_decide}
use Rattle.bitpack_slices.proofs.lemmas.slices.SelectionLaws.{few_there, first_bytes}
use Rattle.bitpack_slices.proofs.slice.Slice.contains.Goals as goal
use Rattle.bitpack_slices.specs.Reads.{has}
use Rattle.bitpack_slices.specs.Selections.{bytes_of}
use Rattle.bitpack_slices.specs.Slices.{slice_numbers}

pub returns-then-self-lt32 : goal.returns-then-self-lt32
returns-then-self-lt32 c =
    let slice = c.args.self in
    let few = c.if-self-lt32.true in
    let own = few_there slice.slices.now slice.start slice.count (bytes_of slice) slice.there few refl in
    matches_decide c.matches_of_bytes.result slice.count c.args.number c.bytes_from-bytes.result (bytes_of slice) c.matches_of_bytes.type_inv own.size few c.matches_of_bytes.ensures
    (first_bytes slice.slices.now slice.start slice.count c.bytes_from-bytes.result slice.there few c.bytes_from-bytes.ensures.bytes)
    ∙ sym (ap (λ (l : List ℕ). has c.args.number l) own.numbers)

pub returns : goal.returns
returns c = c.in_slice.ensures ∙ ap (λ (l : List ℕ). has c.args.number (slice_numbers c.args.self.count l)) c.bytes.ensures
