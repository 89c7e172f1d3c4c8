-- The kernel unpacks the codes of the body, or their sums.
use Rattle.std.proofs.Common.{◌∙◌, ap, sym}
use Rattle.bitpacking.specs.Layout.{codes_of}
use Rattle.bitpacking.proofs.ForCallers.{AreWords-from_slice}
use Rattle.bitpack_columns.specs.Reads.{values_of}
use Rattle.bitpack_columns.proofs.BodyLaws.{plain_codes, sorted_values}
use Rattle.bitpack_columns.proofs.reads.blocks.unpack_body.Goals as goal

pub returns-in-Plain : goal.returns-in-Plain
returns-in-Plain c =
    let new = c.decompress_kind.new.decompressed in
    let codes = plain_codes c.args.width c.args.body.now c.args.out.now new c.requires.body (c.decompress_kind.auto.decompressed ∙ c.requires.room) c.decompress_kind.ensures.unpacked in
    c.to_values.ensures ∙ ap (values_of c.args.kind c.args.base) codes

pub returns-in-Sorted : goal.returns-in-Sorted
returns-in-Sorted c =
    let new = c.decompress_kind-in-Sorted.new.decompressed in
    sorted_values c.args.width c.args.body.now c.args.out.now new c.requires.body (c.decompress_kind-in-Sorted.auto.decompressed ∙ c.requires.room)
    c.args.base c.ranges.base.fits c.requires.width (AreWords-from_slice new c.type_inv.out) c.decompress_kind-in-Sorted.ensures.unpacked
    ∙ ap (λ kind. values_of kind c.args.base (codes_of 4 c.args.width c.args.body.now)) (sym c.in-Sorted.is)
