-- The ids of the high words before that of the id, and those of its own.
use Rattle.std.proofs.Common.{◌/◌, ◌%◌, ◌^◌, ◌∙◌, ap, arith, sym}
use Rattle.bitpack_slices.specs.Reads.{rank}
use Rattle.bitpack_slices.proofs.ForCallers.{bytes_are}
use Rattle.bitpack_wide.proofs.SearchLaws.{count_within, high_within, rank_not_in, rank_small, ranked_in}
use Rattle.bitpack_wide.proofs.directory.Directory.rank.Goals as goal

pub returns-then-not-there : goal.returns-then-not-there
returns-then-not-there c =
    let d = c.args.self in
    c.count_before-before.ensures
    ∙ sym (rank_not_in d.count d.words d.rest.now (bytes_are d.rest.now d.are_bytes) d.sound c.args.id c.find-word.result.0 c.find-word.ensures.few c.find-word.ensures.word (sym c.find-word.ensures.there ∙ c.if-not-there.true))

pub set-requires : goal.set-requires
set-requires c =
    let d = c.args.self in
    record { within = high_within d.count d.words d.rest.now (bytes_are d.rest.now d.are_bytes) d.sound (c.args.id / 2 ^ 32) c.find-word.result.0 c.find-word.ensures.word (sym c.find-word.ensures.there ∙ c.if-not-there.false) }

pub overflow_add-result : goal.overflow_add-result
overflow_add-result c =
    let d = c.args.self in
    let are = bytes_are d.rest.now d.are_bytes in
    let lt = high_within d.count d.words d.rest.now are d.sound (c.args.id / 2 ^ 32) c.find-word.result.0 c.find-word.ensures.word (sym c.find-word.ensures.there ∙ c.if-not-there.false) in
    let small = rank_small d.count d.words d.rest.now are d.sound (c.args.id % 2 ^ 32) c.find-word.result.0 c.rank.result lt (c.rank.ensures ∙ ap (rank (c.args.id % 2 ^ 32)) c.set.ensures.ids) in
    let within = count_within d.count d.words d.rest.now are d.sound c.find-word.result.0 lt in
    let few = d.sound.few in
    omega (arith, c.count_before-before.ensures)

pub returns : goal.returns
returns c =
    let d = c.args.self in
    ranked_in d.count d.words d.rest.now (bytes_are d.rest.now d.are_bytes) d.sound c.args.id c.find-word.result.0 c.count_before-before.result c.rank.result c.find-word.ensures.word
    (sym c.find-word.ensures.there ∙ c.if-not-there.false) c.count_before-before.ensures (c.rank.ensures ∙ ap (rank (c.args.id % 2 ^ 32)) c.set.ensures.ids)
