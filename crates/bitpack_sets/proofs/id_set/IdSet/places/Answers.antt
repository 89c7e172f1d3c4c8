-- The bytes begin with 5 exactly if the set is in chunks.
use Rattle.std.proofs.Common.{◌∙◌, arith, subst}
use Rattle.bitpack_sets.proofs.lemmas.encodings.EncodingLaws.{count_stated, ids_are_read}
use Rattle.bitpack_sets.proofs.lemmas.encodings.PlaceLaws.{chunk_places, id_places, not_chunks}
use Rattle.bitpack_sets.proofs.id_set.IdSet.places.Goals as goal
use Rattle.bitpack_sets.specs.Forms.{IsForm}

pub returns-in-Chunks-clause-places : goal.returns-in-Chunks-clause-places
returns-in-Chunks-clause-places c = chunk_places c.args.self.now c.in-Chunks.directory (subst (IsForm c.args.self.now) c.in-Chunks.is c.form.ensures)

pub returns-in-Chunks-clause-few : goal.returns-in-Chunks-clause-few
returns-in-Chunks-clause-few c = let few = c.in-Chunks.directory.few in omega arith

pub returns-in_default-clause-places : goal.returns-in_default-clause-places
returns-in_default-clause-places c =
    let set = c.args.self.now in
    set.states.count_is ∙ count_stated set.bytes.now set.are_bytes set.states.none
    ∙ id_places set (not_chunks set c.form.result c.form.ensures c.in_default.not-Chunks)

pub returns-in_default-clause-few : goal.returns-in_default-clause-few
returns-in_default-clause-few c =
    let set = c.args.self.now in
    let counted = set.states.count_is ∙ count_stated set.bytes.now set.are_bytes set.states.none in
    let few = (ids_are_read set.bytes.now set.are_bytes set.states.none).0.few in
    omega arith
