-- Each form of a set has chunks.
use Rattle.std.proofs.Common.{◌*◌, ◌^◌, ◌∙◌, ℕ, ap, arith, length, subst, sym, take}
use Rattle.bitpack_slices.specs.Bodies.{IsRising}
use Rattle.bitpack_slices.specs.Slices.{quads_of}
use Rattle.bitpack_sets.specs.Forms.{IsForm}
use Rattle.bitpack_sets.proofs.lemmas.encodings.EncodingLaws.{ids_are_read}
use Rattle.bitpack_sets.proofs.lemmas.encodings.PlaceLaws.{chunk_places, id_places}
use Rattle.bitpack_sets.proofs.id_set.IdSet.filled_chunks.Goals as goal

pub of_array-requires : goal.of_array-requires
of_array-requires c =
    let set = c.args.self.now in
    let is = subst (IsForm set) c.in-Few.is c.form.ensures in
    let filled = ap (λ (n : ℕ). quads_of (take (4 * n) c.args.room.now)) is.count_is ∙ c.requires is.not_chunks is.not_array in
    subst (IsRising 0 (2 ^ 32)) (sym filled) (ids_are_read set.bytes.now set.are_bytes set.states.none).0.rising

pub returns-in-Few-clause-places : goal.returns-in-Few-clause-places
returns-in-Few-clause-places c =
    let set = c.args.self.now in
    let is = subst (IsForm set) c.in-Few.is c.form.ensures in
    let filled = ap (λ (n : ℕ). quads_of (take (4 * n) c.args.room.now)) is.count_is ∙ c.requires is.not_chunks is.not_array in
    c.of_array.ensures.places ∙ ap length filled ∙ id_places set is.not_chunks

pub returns-in-Array-clause-places : goal.returns-in-Array-clause-places
returns-in-Array-clause-places c =
    let set = c.args.self.now in
    let is = subst (IsForm set) c.in-Array.is c.form.ensures in
    c.of_array-in-Array.ensures.places ∙ ap length is.ids_are ∙ id_places set (λ five. let six = is.array in absurd (omega arith))

pub returns-in-Chunks-clause-places : goal.returns-in-Chunks-clause-places
returns-in-Chunks-clause-places c =
    let set = c.args.self.now in
    let is = subst (IsForm set) c.in-Chunks.is c.form.ensures in
    c.new.ensures.places ∙ chunk_places set c.in-Chunks.directory is
