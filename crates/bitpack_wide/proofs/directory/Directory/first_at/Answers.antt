-- The id at position 0 of the high word.
use Rattle.std.proofs.Common.{◌≡◌, ◌+◌, ◌*◌, ◌^◌, ◌∙◌, ℕ, List, ap, arith, get_or, length, refl, sym}
use Rattle.std.specs.Option.{option_map}
use Rattle.std.proofs.lemmas.Option.{slice_get_past}
use Rattle.bitpack_slices.proofs.ForCallers.{bytes_are}
use Rattle.bitpack_sets.specs.Opened as opened_sets
use Rattle.bitpack_sets.specs.Reads as set_reads
use Rattle.bitpack_wide.specs.Directory.{before, body_at, high_at, sum_at}
use Rattle.bitpack_wide.specs.Forms.{directory_ids}
use Rattle.bitpack_wide.proofs.SearchLaws.{all_before, word_found}
use Rattle.bitpack_wide.proofs.SeekLaws.{is_taken, taken}
use Rattle.bitpack_wide.proofs.directory.Directory.first_at.Goals as goal

pub returns-then-word-self : goal.returns-then-word-self
returns-then-word-self c =
    let d = c.args.self in
    let position : ℕ = before (sum_at d.words d.rest.now) c.args.word in
    let all = all_before d.count d.words d.rest.now (bytes_are d.rest.now d.are_bytes) d.sound c.args.word (omega (arith, c.if-word-self.true, c.requires.within)) in
    sym (ap (option_map (λ (id : ℕ). (position, id))) (slice_get_past (directory_ids d) position (omega arith)))

pub unwrap-low-requires : goal.unwrap-low-requires
unwrap-low-requires c =
    let d = c.args.self in
    let some = (d.sound.entries c.args.word c.if-word-self.false).some in
    is_taken (opened_sets.ids c.set.result) 0 c.select.result (omega (arith, c.set.ensures.count)) c.select.ensures

pub returns : goal.returns
returns c =
    let d = c.args.self in
    let m : ℕ = c.args.word in
    let some = (d.sound.entries m c.if-word-self.false).some in
    let low = taken (opened_sets.ids c.set.result) (set_reads.ids_in (body_at d.words d.rest.now m)) 0 c.unwrap-low.result c.select.result c.set.ensures.ids c.select.ensures c.unwrap-low.ensures in
    let value : c.id_of.result ≡ high_at d.rest.now m * 2 ^ 32 + get_or (set_reads.ids_in (body_at d.words d.rest.now m)) 0 0 =
    c.id_of.ensures ∙ ap (λ (n : ℕ). n * 2 ^ 32 + c.unwrap-low.result) c.high_at.ensures ∙ ap (λ (n : ℕ). high_at d.rest.now m * 2 ^ 32 + n) low in
    let position : ℕ = before (sum_at d.words d.rest.now) m in
    let found = word_found d.count d.words d.rest.now (bytes_are d.rest.now d.are_bytes) d.sound c.id_of.result m position 0 c.if-word-self.false some (omega arith) value in
    ap (λ (n : ℕ). Rattle.std.proofs.Common.Some (n, c.id_of.result)) c.count_before-position.ensures ∙ sym (ap (option_map (λ (id : ℕ). (position, id))) found)
