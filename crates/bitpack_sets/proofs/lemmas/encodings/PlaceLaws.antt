-- How many chunks a set in chunks has, or how many ids another set.
use Rattle.std.proofs.Common.{◌≡◌, ◌≢◌, ◌∙◌, Bool, List, ap, arith, cond, eq-eqb, get_or, length, refl, sym, ℕ}
use Rattle.std.proofs.lemmas.Bool.{ne_eqb}
use Rattle.bitpack_slices.specs.Bodies.{parts}
use Rattle.bitpack_slices.proofs.ForCallers.{bytes_are}
use Rattle.bitpack_sets.proofs.lemmas.encodings.EncodingLaws.{ids_are_read}
use Rattle.bitpack_sets.proofs.lemmas.faults.ChunkLaws.{count_is, ids_parts}
use Rattle.bitpack_sets.specs.Forms.{IsChunks, IsForm}
use Rattle.bitpack_sets.specs.Opened.{encoding_of, ids}
use Rattle.bitpack_sets.specs.Sets.{encoding}
use Rattle.bitpack_sets.specs.Written.{places}
use Rattle.bitpack_sets.specs.declared.directory.Directory.{Directory}
use Rattle.bitpack_sets.specs.declared.form.Form.{Form}
use Rattle.bitpack_sets.specs.declared.form.Form.TheVariants as form
use Rattle.bitpack_sets.specs.declared.id_set.IdSet.{IdSet}

pub not_chunks : (set : IdSet) (it : Form) → IsForm set it → ((directory : Directory) → it ≡ form.Chunks directory → ⊥) → get_or (encoding_of set) 0 0 ≢ 5
not_chunks set (form.Few few) is other five = is.not_chunks five
not_chunks set (form.Array rest) is other five = let six = is.array in absurd (omega arith)
not_chunks set (form.Chunks directory) is other five = absurd (other directory refl)

abbrev by_form : List ℕ → Bool → ℕ
by_form ids chunks = cond chunks (length (parts 65536 ids)) (length ids)

pub places_of_chunks : (ids bytes : List ℕ) (count : ℕ) → encoding ids ≡ bytes → get_or bytes 0 0 ≡ 5 → length (parts 65536 ids) ≡ count → count ≡ places ids
places_of_chunks ids bytes count is five many =
    sym many ∙ sym (ap (by_form ids) (eq-eqb (get_or (encoding ids) 0 0) 5 (ap (λ (l : List ℕ). get_or l 0 0) is ∙ five)))

pub places_of_others : (ids bytes : List ℕ) → encoding ids ≡ bytes → get_or bytes 0 0 ≢ 5 → length ids ≡ places ids
places_of_others ids bytes is not5 =
    sym (ap (by_form ids) (ne_eqb (get_or (encoding ids) 0 0) 5 (λ five. not5 (sym (ap (λ (l : List ℕ). get_or l 0 0) is) ∙ five))))

-- the chunks of a set in chunks
pub chunk_places : (set : IdSet) (directory : Directory) → IsChunks set directory → directory.chunks ≡ places (ids set)
chunk_places set directory is =
    let each = bytes_are directory.rest.now directory.are_bytes in
    let many = ap length (ids_parts directory.count directory.chunks directory.rest.now each directory.sound) ∙ count_is directory.count directory.chunks directory.rest.now each directory.sound in
    places_of_chunks (ids set) set.bytes.now directory.chunks (ids_are_read set.bytes.now set.are_bytes set.states.none).1 is.chunks
    (ap (λ (l : List ℕ). length (parts 65536 l)) (sym is.ids_are) ∙ many)

-- the ids of another set
pub id_places : (set : IdSet) → get_or (encoding_of set) 0 0 ≢ 5 → length (ids set) ≡ places (ids set)
id_places set other = places_of_others (ids set) set.bytes.now (ids_are_read set.bytes.now set.are_bytes set.states.none).1 other
