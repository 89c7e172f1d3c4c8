-- The codes are those of the body.
use Rattle.std.proofs.Common.{◌≡◌, ℕ, length, ap, ◌∙◌, rules}
use Rattle.bitpacking.specs.Layout.{codes_of}
use Rattle.bitpack_columns.specs.Reads.{width_at}
use Rattle.bitpack_columns.proofs.BodyLaws.{plain_codes}
use Rattle.bitpack_columns.proofs.OpenedLaws.{long_body}
use Rattle.bitpack_columns.proofs.reads.Reads.unpack_codes.Goals as goal

pub decompress_kind-requires : goal.decompress_kind-requires
decompress_kind-requires c =
    let long = long_body c.args.column.now c.args.block c.requires c.width-width.result c.body.result.now c.width-width.ensures.is c.body.ensures in
    search rules

pub returns-clause-codes : goal.returns-clause-codes
returns-clause-codes c =
    let column = c.args.column.now in
    let width : ℕ = c.width-width.result in
    let long = long_body column c.args.block c.requires width c.body.result.now c.width-width.ensures.is c.body.ensures in
    let room : length c.decompress_kind.new.decompressed ≡ 128 = search rules in
    plain_codes width c.body.result.now _ c.decompress_kind.new.decompressed long room c.decompress_kind.ensures.unpacked
    ∙ ap (λ (w : ℕ). codes_of 4 w c.body.result.now) c.width-width.ensures.is
    ∙ ap (codes_of 4 (width_at column.rest.bytes.now c.args.block)) c.body.ensures
