-- A set in chunks has a last chunk.
use Rattle.std.proofs.Common.{◌-◌, ◌≤◌, List, ap, arith, get_or, length, subst, sym, ◌∙◌, ℕ}
use Rattle.std.proofs.lemmas.Bool.{ne_eqb}
use Rattle.bitpack_slices.proofs.ForCallers.{bytes_are}
use Rattle.bitpack_sets.proofs.lemmas.written.FrontLaws.{is_front, many_ids}
use Rattle.bitpack_sets.proofs.lemmas.encodings.EncodingLaws.{ids_are_read}
use Rattle.bitpack_sets.proofs.lemmas.encodings.PlaceLaws.{not_chunks}
use Rattle.bitpack_sets.proofs.id_set.IdSet.front.Goals as goal
use Rattle.bitpack_sets.specs.Forms.{IsForm}
use Rattle.bitpack_sets.specs.Fronts.{IsFront, front_ids}
use Rattle.bitpack_sets.specs.Opened.{ids}
use Rattle.bitpack_sets.specs.Sets.{encoding}

pub returns-in-Chunks-clause-front : goal.returns-in-Chunks-clause-front
returns-in-Chunks-clause-front c =
    let set = c.args.self.now in
    let directory = c.in-Chunks.directory in
    let is = subst (IsForm set) c.in-Chunks.is c.form.ensures in
    let first = ap (λ (l : List ℕ). get_or l 0 0) (ids_are_read set.bytes.now set.are_bytes set.states.none).1 in
    let many = many_ids _ (first ∙ is.chunks) in
    let some = directory.sound.some in
    let front = is_front directory.count directory.chunks directory.rest.now (bytes_are directory.rest.now directory.are_bytes) directory.sound (directory.chunks - 1)
    (omega arith) (subst (λ (l : List ℕ). 128 ≤ length l) (sym is.ids_are) many) (omega arith) in
    subst (IsFront (front_ids (record { directory = directory }))) is.ids_are front

pub returns-in_default : goal.returns-in_default
returns-in_default c =
    let set = c.args.self.now in
    let not5 = not_chunks set c.form.result c.form.ensures c.in_default.not-Chunks in
    record {
      front = tt;
      none = λ none. ne_eqb (get_or (encoding (ids set)) 0 0) 5 (λ five. not5 (sym (ap (λ (l : List ℕ). get_or l 0 0) (ids_are_read set.bytes.now set.are_bytes set.states.none).1) ∙ five));
    }
