-- A high word and a low word.
use Rattle.std.proofs.Common.{◌∙◌, arith, sym}
use Rattle.std.proofs.lemmas.Option.{get_or_from_slice_get, slice_get_past, slice_get_within}
use Rattle.bitpack_slices.specs.Slices.{quads_of}
use Rattle.bitpack_sets.proofs.ForCallers.{none_there}
use Rattle.bitpack_columns.specs.Opened.{values}
use Rattle.bitpack_wide.specs.Forms.{spread_ids}
use Rattle.bitpack_wide.proofs.LocateLaws.{id_there, size_of}
use Rattle.bitpack_wide.proofs.PairLaws.{paired_len}
use Rattle.bitpack_wide.proofs.spread.Spread.select.Goals as goal

pub returns-in-Some : goal.returns-in-Some
returns-in-Some c =
    let s = c.args.self in
    let found = sym c.get.ensures ∙ c.in-Some.is in
    sym (id_there s c.args.position c.in-Some.high c.id_at.result c.id_of.result (slice_get_within (values s.column) c.args.position c.in-Some.high found)
    (sym (get_or_from_slice_get (values s.column) c.args.position c.in-Some.high 0 found)) c.id_at.ensures c.id_of.ensures)

pub returns-in-None : goal.returns-in-None
returns-in-None c =
    let s = c.args.self in
    let past = none_there (values s.column) c.args.position (sym c.get.ensures ∙ c.in-None.is) in
    let long = paired_len (values s.column) (quads_of s.lows.now) (size_of s) in
    sym (slice_get_past (spread_ids s) c.args.position (omega arith))
