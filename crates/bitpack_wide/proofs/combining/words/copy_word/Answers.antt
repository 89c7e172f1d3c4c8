-- The ids of the high word are some of all.
use Rattle.std.proofs.Common.{◌≡◌, ℕ, ◌+◌, ◌-◌, ◌*◌, ◌^◌, ◌∙◌, Bool, List, [], ap, arith, cond, drop, map, sym, take}
use Rattle.std.proofs.lemmas.List.{length-map, take_all}
use Rattle.bitpack_groups.proofs.ForCallers.{lent_len}
use Rattle.bitpack_slices.proofs.ForCallers.{bytes_are, follow_as}
use Rattle.bitpack_sets.specs.Reads as set_reads
use Rattle.bitpack_wide.proofs.FrontLaws.{put_follow}
use Rattle.bitpack_wide.proofs.SearchLaws.{count_within}
use Rattle.bitpack_wide.proofs.UnpackLaws.{word_range}
use Rattle.bitpack_wide.proofs.combining.words.copy_word.Goals as goal
use Rattle.bitpack_wide.specs.Directory.{body_at, high_at, word_at}
use Rattle.bitpack_wide.specs.Forms.{directory_ids}
use Rattle.bitpack_wide.specs.inner.Merging.{ids_of_word}

pub unpack_from-requires-clause-begin : goal.unpack_from-requires-clause-begin
unpack_from-requires-clause-begin c =
    let d = c.args.set in
    let within = count_within d.count d.words d.rest.now (bytes_are d.rest.now d.are_bytes) d.sound c.args.word c.requires.word in
    let some = (d.sound.entries c.args.word c.requires.word).some in
    omega (arith, c.count_before-from.ensures)

pub unpack_from-requires-clause-within : goal.unpack_from-requires-clause-within
unpack_from-requires-clause-within c =
    let d = c.args.set in
    let within = count_within d.count d.words d.rest.now (bytes_are d.rest.now d.are_bytes) d.sound c.args.word c.requires.word in
    let some = (d.sound.entries c.args.word c.requires.word).some in
    let size = lent_len c.args.at (c.sum_at.result - c.count_before-from.result) c.args.out.now c.if-end-out.true in
    omega (arith, c.count_before-from.ensures, c.sum_at.ensures)

pub returns-then-end-out : goal.returns-then-end-out
returns-then-end-out c =
    let d = c.args.set in
    let m : ℕ = c.args.word in
    let n : ℕ = c.sum_at.result - c.count_before-from.result in
    let lows : List ℕ = set_reads.ids_in (body_at d.words d.rest.now m) in
    let are = bytes_are d.rest.now d.are_bytes in
    let count = (d.sound.bodies m c.requires.word).count in
    let size = lent_len c.args.at n c.args.out.now c.if-end-out.true in
    let begin = c.count_before-from.ensures in
    let end = c.sum_at.ensures in
    let same : c.unpack_from.new.out ≡ ids_of_word (word_at d.words d.rest.now m) =
    c.unpack_from.ensures ∙ ap (λ (k : ℕ). take k (drop c.count_before-from.result (directory_ids d))) size
    ∙ word_range d.count d.words m 0 n c.count_before-from.result d.rest.now are d.sound c.requires.word (omega arith) (omega arith)
    ∙ ap (map (λ (low : ℕ). high_at d.rest.now m * 2 ^ 32 + low)) (take_all n lows (omega arith)) in
    let long = length-map lows (λ (low : ℕ). high_at d.rest.now m * 2 ^ 32 + low) in
    follow_as (ids_of_word (word_at d.words d.rest.now m)) _ c.args.out.now _ c.args.at _ (sym (ap (λ (b : Bool). cond b (ids_of_word (word_at d.words d.rest.now m)) []) c.if-not-there.false))
    (put_follow c.args.at (c.args.at + n - c.args.at) (c.args.at + n) c.args.out.now c.unpack_from.new.out (ids_of_word (word_at d.words d.rest.now m)) (omega (arith, c.if-end-out.true)) same (omega arith))
