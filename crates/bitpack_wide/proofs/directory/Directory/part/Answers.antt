-- The part of the high word.
use Rattle.std.proofs.Common.{◌∙◌, sym}
use Rattle.bitpack_slices.proofs.ForCallers.{bytes_are}
use Rattle.bitpack_wide.proofs.SearchLaws.{high_within, part_none, part_there}
use Rattle.bitpack_wide.proofs.directory.Directory.part.Goals as goal

pub returns-then-not-there-clause-none : goal.returns-then-not-there-clause-none
returns-then-not-there-clause-none c =
    let d = c.args.self in
    λ e. part_none d.count d.words d.rest.now (bytes_are d.rest.now d.are_bytes) d.sound c.args.high (sym c.find-word.ensures.there ∙ c.if-not-there.true)

pub set-requires : goal.set-requires
set-requires c =
    let d = c.args.self in
    record { within = high_within d.count d.words d.rest.now (bytes_are d.rest.now d.are_bytes) d.sound c.args.high c.find-word.result.0 c.find-word.ensures.word (sym c.find-word.ensures.there ∙ c.if-not-there.false) }

pub returns-clause-ids : goal.returns-clause-ids
returns-clause-ids c =
    let d = c.args.self in
    c.set.ensures.ids
    ∙ sym (part_there d.count d.words d.rest.now (bytes_are d.rest.now d.are_bytes) d.sound c.args.high c.find-word.result.0 c.find-word.ensures.word (sym c.find-word.ensures.there ∙ c.if-not-there.false))
