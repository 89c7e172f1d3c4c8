-- What was unpacked is the block of the body.
use Rattle.std.proofs.Common.{◌≡◌, ◌*◌, ◌/◌, ◌<◌, ◌^◌, ℕ, List, length, take, ◌∙◌, ap, arith}
use Rattle.std.proofs.lemmas.List.{take_all}
use Rattle.std.proofs.lemmas.List.Elements.{All-take}
use Rattle.bitpacking.specs.Codes.{values_of}
use Rattle.bitpacking.specs.Layout.{codes_of, size}
use Rattle.bitpacking.proofs.ForCallers.{AreWords-from_slice}
use Rattle.bitpack_lists.proofs.lemmas.blocks.BlockValues.{values_of-packed}
use Rattle.bitpack_lists.proofs.lemmas.blocks.ListLemmas.{lanes-is}
use Rattle.bitpack_lists.proofs.blocks.reads.Reads.unpack_body.Goals as goal

pub body-body-requires : goal.body-body-requires
body-body-requires g c =
    let lanes : c.BLOCK_LEN.result / 32 ≡ g.P.BitPacker.lanes = lanes-is g.P.BitPacker.lanes c.BLOCK_LEN.result (c.BLOCK_LEN.ensures ∙ g.met.P.BitPacker.block_len) in
    rw lanes (record { lanes = g.met.P.BitPacker.few_lanes; body = c.requires.body })

pub decompress_kind-requires : goal.decompress_kind-requires
decompress_kind-requires g c =
    let lanes : c.BLOCK_LEN.result / 32 ≡ g.P.BitPacker.lanes = lanes-is g.P.BitPacker.lanes c.BLOCK_LEN.result (c.BLOCK_LEN.ensures ∙ g.met.P.BitPacker.block_len) in
    let long = rw lanes at c.body-body.ensures.len in
    record { narrow = c.requires.width; whole = omega (arith, long); room = rw (← g.met.P.BitPacker.block_len) c.requires.room.room }

pub returns-clause-block : goal.returns-clause-block
returns-clause-block g c =
    let lanes : ℕ = g.P.BitPacker.lanes in
    let width : ℕ = c.args.entry.width in
    let body : List ℕ = c.body-body.result.now in
    let same : c.BLOCK_LEN.result / 32 ≡ lanes = lanes-is lanes c.BLOCK_LEN.result (c.BLOCK_LEN.ensures ∙ g.met.P.BitPacker.block_len) in
    let long : length body ≡ size lanes width = rw same at c.body-body.ensures.len in
    let words = All-take (λ v. v < 2 ^ 32) (32 * lanes) c.decompress_kind.new.decompressed (AreWords-from_slice c.decompress_kind.new.decompressed c.type_inv.values) in
    ap (λ n. take n c.decompress_kind.new.decompressed) g.met.P.BitPacker.block_len
    ∙ values_of-packed lanes width c.args.kind body c.requires.room.start c.requires.width long (take (32 * lanes) c.decompress_kind.new.decompressed) words
    (rw (take_all (size lanes width) body (omega (arith, long))) at c.decompress_kind.ensures.unpacked.block)
    ∙ ap (λ xs. values_of c.args.kind (codes_of lanes width xs)) (rw same at c.body-body.ensures.body)
