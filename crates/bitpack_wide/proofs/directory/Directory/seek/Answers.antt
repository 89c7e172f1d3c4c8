-- The high word of the target has an id that is at least the target, or the first of the next high word is it.
use Rattle.std.proofs.Common.{◌≡◌, ◌+◌, ◌*◌, ◌/◌, ◌%◌, ◌^◌, ◌∙◌, ℕ, List, ap, arith, get_or, sym}
use Rattle.std.proofs.lemmas.Option.{get_or_from_slice_get, slice_get_within}
use Rattle.bitpack_slices.proofs.ForCallers.{bytes_are}
use Rattle.bitpack_slices.specs.Reads.{rank}
use Rattle.bitpack_sets.specs.Opened as opened_sets
use Rattle.bitpack_sets.specs.Reads as set_reads
use Rattle.bitpack_wide.specs.Directory.{before, body_at, count_at, high_at, sum_at}
use Rattle.bitpack_wide.specs.Forms.{directory_ids}
use Rattle.bitpack_wide.proofs.SearchLaws.{count_next, count_within, high_is, high_within, rank_in, rank_not_in, rank_small, ranked_in, word_found}
use Rattle.bitpack_wide.proofs.SeekLaws.{seeks, seeks_some}
use Rattle.bitpack_wide.proofs.WordReads.{ids_rise}
use Rattle.bitpack_wide.proofs.directory.Directory.seek.Goals as goal

pub returns-then-not-there : goal.returns-then-not-there
returns-then-not-there c =
    let d = c.args.self in
    let are = bytes_are d.rest.now d.are_bytes in
    let ranked = rank_not_in d.count d.words d.rest.now are d.sound c.args.target c.find-word.result.0 c.find-word.ensures.few c.find-word.ensures.word (sym c.find-word.ensures.there ∙ c.if-not-there.true) in
    seeks c.args.target (before (sum_at d.words d.rest.now) c.find-word.result.0) 0 (2 ^ 64) (directory_ids d) c.first_at.result (ids_rise d.count d.words d.rest.now are d.sound) (sym ranked) c.first_at.ensures

pub set-requires : goal.set-requires
set-requires c =
    let d = c.args.self in
    record { within = high_within d.count d.words d.rest.now (bytes_are d.rest.now d.are_bytes) d.sound (c.args.target / 2 ^ 32) c.find-word.result.0 c.find-word.ensures.word (sym c.find-word.ensures.there ∙ c.if-not-there.false) }

pub overflow_add-result : goal.overflow_add-result
overflow_add-result c =
    let d = c.args.self in
    let are = bytes_are d.rest.now d.are_bytes in
    let lt = high_within d.count d.words d.rest.now are d.sound (c.args.target / 2 ^ 32) c.find-word.result.0 c.find-word.ensures.word (sym c.find-word.ensures.there ∙ c.if-not-there.false) in
    let small = rank_small d.count d.words d.rest.now are d.sound (c.args.target % 2 ^ 32) c.find-word.result.0 c.in-Some.left lt (c.in-Some.ensures.found.0 ∙ ap (rank (c.args.target % 2 ^ 32)) c.set.ensures.ids) in
    let within = count_within d.count d.words d.rest.now are d.sound c.find-word.result.0 lt in
    let few = d.sound.few in
    omega (arith, c.count_before-before.ensures)

pub first_at-requires-in-None : goal.first_at-requires-in-None
first_at-requires-in-None c =
    let d = c.args.self in
    let lt = high_within d.count d.words d.rest.now (bytes_are d.rest.now d.are_bytes) d.sound (c.args.target / 2 ^ 32) c.find-word.result.0 c.find-word.ensures.word (sym c.find-word.ensures.there ∙ c.if-not-there.false) in
    record { within = omega arith }

pub returns-in-Some : goal.returns-in-Some
returns-in-Some c =
    let d = c.args.self in
    let m : ℕ = c.find-word.result.0 in
    let are = bytes_are d.rest.now d.are_bytes in
    let there = sym c.find-word.ensures.there ∙ c.if-not-there.false in
    let lt = high_within d.count d.words d.rest.now are d.sound (c.args.target / 2 ^ 32) m c.find-word.ensures.word there in
    let lows : List ℕ = set_reads.ids_in (body_at d.words d.rest.now m) in
    let left : ℕ = c.in-Some.left in
    let (ranked, found) = c.in-Some.ensures.found in
    let less = slice_get_within (opened_sets.ids c.set.result) left c.in-Some.low found in
    let low : c.in-Some.low ≡ get_or lows left 0 = sym (get_or_from_slice_get (opened_sets.ids c.set.result) left c.in-Some.low 0 found) ∙ ap (λ (l : List ℕ). get_or l left 0) c.set.ensures.ids in
    let high = high_is d.count d.words d.rest.now are d.sound (c.args.target / 2 ^ 32) m c.find-word.ensures.word there in
    let value : c.id_of.result ≡ high_at d.rest.now m * 2 ^ 32 + get_or lows left 0 =
    c.id_of.ensures ∙ ap (λ (n : ℕ). n * 2 ^ 32 + c.in-Some.low) (sym high) ∙ ap (λ (n : ℕ). high_at d.rest.now m * 2 ^ 32 + n) low in
    seeks_some c.args.target (c.count_before-before.result + left) c.id_of.result 0 (2 ^ 64) (directory_ids d) (ids_rise d.count d.words d.rest.now are d.sound)
    (ranked_in d.count d.words d.rest.now are d.sound c.args.target m c.count_before-before.result left c.find-word.ensures.word there c.count_before-before.ensures (ranked ∙ ap (rank (c.args.target % 2 ^ 32)) c.set.ensures.ids))
    (word_found d.count d.words d.rest.now are d.sound c.id_of.result m (c.count_before-before.result + left) left lt (omega (arith, c.set.ensures.count)) (ap (λ (n : ℕ). n + left) (sym c.count_before-before.ensures)) value)

pub returns-in-None : goal.returns-in-None
returns-in-None c =
    let d = c.args.self in
    let m : ℕ = c.find-word.result.0 in
    let are = bytes_are d.rest.now d.are_bytes in
    let there = sym c.find-word.ensures.there ∙ c.if-not-there.false in
    let lt = high_within d.count d.words d.rest.now are d.sound (c.args.target / 2 ^ 32) m c.find-word.ensures.word there in
    let all : rank (c.args.target % 2 ^ 32) (set_reads.ids_in (body_at d.words d.rest.now m)) ≡ count_at d.words d.rest.now m =
    ap (rank (c.args.target % 2 ^ 32)) (sym c.set.ensures.ids) ∙ c.in-None.ensures.found ∙ c.set.ensures.count in
    let ranked = rank_in d.count d.words d.rest.now are d.sound c.args.target m c.find-word.ensures.word there in
    let next = count_next d.count d.words d.rest.now are d.sound m lt in
    seeks c.args.target (before (sum_at d.words d.rest.now) (m + 1)) 0 (2 ^ 64) (directory_ids d) c.first_at-in-None.result (ids_rise d.count d.words d.rest.now are d.sound) (omega arith) c.first_at-in-None.ensures
