-- An id is looked up in the set of its high word.
use Rattle.std.proofs.Common.{◌/◌, ◌%◌, ◌^◌, ◌∙◌, ap, sym}
use Rattle.bitpack_slices.specs.Reads.{has}
use Rattle.bitpack_slices.proofs.ForCallers.{bytes_are}
use Rattle.bitpack_wide.proofs.SearchLaws.{has_in, has_not_in, high_within}
use Rattle.bitpack_wide.proofs.directory.Directory.contains.Goals as goal

pub returns-then-not-there : goal.returns-then-not-there
returns-then-not-there c =
    let d = c.args.self in
    sym (has_not_in d.count d.words d.rest.now (bytes_are d.rest.now d.are_bytes) d.sound c.args.id (sym c.find-word.ensures.there ∙ c.if-not-there.true))

pub set-requires : goal.set-requires
set-requires c =
    let d = c.args.self in
    record { within = high_within d.count d.words d.rest.now (bytes_are d.rest.now d.are_bytes) d.sound (c.args.id / 2 ^ 32) c.find-word.result.0 c.find-word.ensures.word (sym c.find-word.ensures.there ∙ c.if-not-there.false) }

pub returns : goal.returns
returns c =
    let d = c.args.self in
    c.contains.ensures ∙ ap (has (c.args.id % 2 ^ 32)) c.set.ensures.ids
    ∙ sym (has_in d.count d.words d.rest.now (bytes_are d.rest.now d.are_bytes) d.sound c.args.id c.find-word.result.0 c.find-word.ensures.word (sym c.find-word.ensures.there ∙ c.if-not-there.false))
