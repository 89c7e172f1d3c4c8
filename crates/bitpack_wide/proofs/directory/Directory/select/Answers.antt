-- The id is that of its high word.
use Rattle.std.proofs.Common.{◌≡◌, ◌+◌, ◌-◌, ◌*◌, ◌^◌, ◌∙◌, ℕ, ap, arith, get_or, sym}
use Rattle.std.proofs.lemmas.Option.{slice_get_past}
use Rattle.bitpack_slices.proofs.ForCallers.{bytes_are}
use Rattle.bitpack_sets.specs.Opened as opened_sets
use Rattle.bitpack_sets.specs.Reads as set_reads
use Rattle.bitpack_wide.specs.Directory.{body_at, high_at}
use Rattle.bitpack_wide.specs.Forms.{directory_ids}
use Rattle.bitpack_wide.proofs.SearchLaws.{word_found}
use Rattle.bitpack_wide.proofs.SeekLaws.{is_taken, taken}
use Rattle.bitpack_wide.proofs.WordReads.{ids_count}
use Rattle.bitpack_wide.proofs.directory.Directory.select.Goals as goal

pub returns-then-position-self : goal.returns-then-position-self
returns-then-position-self c =
    let d = c.args.self in
    let all = ids_count d.count d.words d.rest.now (bytes_are d.rest.now d.are_bytes) d.sound in
    sym (slice_get_past (directory_ids d) c.args.position (omega (arith, c.if-position-self.true)))

pub unwrap-low-requires : goal.unwrap-low-requires
unwrap-low-requires c =
    let from = c.word_of-word.ensures.from in
    let below = c.word_of-word.ensures.below in
    let at = c.count_before.ensures in
    is_taken (opened_sets.ids c.set.result) _ c.select.result (omega (arith, c.set.ensures.count)) c.select.ensures

pub returns : goal.returns
returns c =
    let d = c.args.self in
    let m : ℕ = c.word_of-word.result in
    let from = c.word_of-word.ensures.from in
    let below = c.word_of-word.ensures.below in
    let at = c.count_before.ensures in
    let left : ℕ = c.args.position - c.count_before.result in
    let low = taken (opened_sets.ids c.set.result) (set_reads.ids_in (body_at d.words d.rest.now m)) left c.unwrap-low.result c.select.result c.set.ensures.ids c.select.ensures c.unwrap-low.ensures in
    let value : c.id_of.result ≡ high_at d.rest.now m * 2 ^ 32 + get_or (set_reads.ids_in (body_at d.words d.rest.now m)) left 0 =
    c.id_of.ensures ∙ ap (λ (n : ℕ). n * 2 ^ 32 + c.unwrap-low.result) c.high_at.ensures ∙ ap (λ (n : ℕ). high_at d.rest.now m * 2 ^ 32 + n) low in
    sym (word_found d.count d.words d.rest.now (bytes_are d.rest.now d.are_bytes) d.sound c.id_of.result m c.args.position left c.word_of-word.ensures.word (omega arith) (omega arith) value)
