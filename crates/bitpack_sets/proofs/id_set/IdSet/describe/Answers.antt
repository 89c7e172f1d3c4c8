-- The chunks of a set in chunks are those of its directory.
use Rattle.std.proofs.Common.{◌∙◌, ap, length, refl, subst, sym}
use Rattle.bitpack_sets.proofs.lemmas.encodings.EncodingLaws.{count_stated, ids_are_read}
use Rattle.bitpack_sets.proofs.lemmas.encodings.PlaceLaws.{not_chunks}
use Rattle.bitpack_sets.proofs.lemmas.reads.DescribedLaws.{chunks_described, none_described}
use Rattle.bitpack_sets.specs.Described.{Counts}
use Rattle.bitpack_sets.specs.Forms.{IsForm}
use Rattle.bitpack_sets.proofs.id_set.IdSet.describe.Goals as goal

pub returns-in-Chunks-clause-ids : goal.returns-in-Chunks-clause-ids
returns-in-Chunks-clause-ids c =
    let set = c.args.self.now in
    c.describe.ensures.ids ∙ set.states.count_is ∙ count_stated set.bytes.now set.are_bytes set.states.none

pub returns-in-Chunks-clause-bytes : goal.returns-in-Chunks-clause-bytes
returns-in-Chunks-clause-bytes c =
    let set = c.args.self.now in
    c.describe.ensures.bytes ∙ ap length (sym (ids_are_read set.bytes.now set.are_bytes set.states.none).1)

pub returns-in-Chunks-clause-bodies : goal.returns-in-Chunks-clause-bodies
returns-in-Chunks-clause-bodies c =
    subst (Counts c.describe.result) (chunks_described c.args.self.now c.in-Chunks.directory (subst (IsForm c.args.self.now) c.in-Chunks.is c.form.ensures)) c.describe.ensures.bodies

pub returns-in_default : goal.returns-in_default
returns-in_default c =
    let set = c.args.self.now in
    let none = none_described set (not_chunks set c.form.result c.form.ensures c.in_default.not-Chunks) in
    record {
      ids = set.states.count_is ∙ count_stated set.bytes.now set.are_bytes set.states.none;
      bytes = ap length (sym (ids_are_read set.bytes.now set.are_bytes set.states.none).1);
      bodies = subst (Counts _) none (record { all = refl; numbers_are = refl; blocks_are = refl; runs_are = refl });
    }
