-- There is room for the encoded list, which is header, blocks and tail.
use Rattle.std.proofs.Common.{◌≡◌, ◌/◌, ◌<◌, ◌++◌, ◌^◌, ℕ, List, length, sym, ◌∙◌, ap, arith, append_assoc}
use Rattle.std.proofs.lemmas.List.{length-append}
use Rattle.bitpacking.specs.Codes.{AreWords}
use Rattle.bitpacking.proofs.ForCallers.{AreWords-from_slice}
use Rattle.bitpack_lists.specs.Parts.{header, whole_blocks, first_kind}
use Rattle.bitpack_lists.specs.Version1.{Blocks1}
use Rattle.bitpack_lists.proofs.lemmas.blocks.HeaderLemmas.{length-header}
use Rattle.bitpack_lists.proofs.lemmas.blocks.ListLemmas.{lanes-is, List1-from_blocks, encoding_of, on_err, on_ok}
use Rattle.bitpack_lists.proofs.lemmas.blocks.MeasuredLengths.{length-encoding1}
use Rattle.bitpack_lists.proofs.v1.writing.encode.Goals as goal

pub returns-then-is_err-clause-room : goal.returns-then-is_err-clause-room
returns-then-is_err-clause-room g c = λ few encoding list.
    let full = on_err c.reserve.result (sym c.is_err.ensures.value ∙ c.if-is_err.true) c.reserve.ensures.full in
    let long = length-encoding1 g.P.BitPacker.lanes c.encoding_len.result c.args.kind c.args.values.now encoding c.encoding_len.ensures.len list in
    omega (arith, full, long)

pub write-requires-clause-room : goal.write-requires-clause-room
write-requires-clause-room g c =
    let lanes : ℕ = g.P.BitPacker.lanes in
    let values : List ℕ = c.args.values.now in
    let words : AreWords values = AreWords-from_slice values c.type_inv.values in
    let few : lanes < 2 ^ 8 = omega (arith, g.met.P.BitPacker.few_lanes) in
    let (later, small, blocks, bytes, list) = encoding_of lanes c.args.kind values g.met.P.BitPacker.some_lanes few words c.if-values-gt-LONGEST_LIST.false in
    let front : List ℕ = header 1 c.args.kind lanes (length values) in
    let long = length-encoding1 lanes c.encoding_len.result c.args.kind values (front ++ later) c.encoding_len.ensures.len list in
    let room = on_ok c.reserve.result (sym c.is_err.ensures.value ∙ c.if-is_err.false) c.reserve.ensures.ok in
    omega (arith, room, long, length-append front later, length-header 1 c.args.kind lanes (length values))

pub write_blocks-requires : goal.write_blocks-requires
write_blocks-requires g c =
    let lanes : ℕ = g.P.BitPacker.lanes in
    let values : List ℕ = c.args.values.now in
    let words : AreWords values = AreWords-from_slice values c.type_inv.values in
    let front : List ℕ = header 1 c.args.kind lanes (length values) in
    let room = on_ok c.reserve.result (sym c.is_err.ensures.value ∙ c.if-is_err.false) c.reserve.ensures.ok in
    let whole : c.BLOCK_LEN.result / 32 ≡ lanes = lanes-is g.P.BitPacker.lanes c.BLOCK_LEN.result (c.BLOCK_LEN.ensures ∙ g.met.P.BitPacker.block_len) in
    let items : c.write.new.out.items ≡ c.args.out.now.items ++ front = rw (← whole, ← c.reserve.ensures.items) c.write.ensures.items in
    record {
      widths = rw c.first.ensures c.encoding_len.ensures.widths;
      room = λ encoding blocks.
          let blocks' : Blocks1 lanes (whole_blocks lanes (length values)) (first_kind c.args.kind) values encoding = rw c.first.ensures at blocks in
          let long = length-encoding1 lanes c.encoding_len.result c.args.kind values (front ++ encoding) c.encoding_len.ensures.len
          (List1-from_blocks lanes c.args.kind values encoding words c.if-values-gt-LONGEST_LIST.false blocks') in
          omega (
            arith,
            room,
            long,
            ap length items,
            length-append c.args.out.now.items front,
            length-append front encoding,
            length-header 1 c.args.kind lanes (length values),
            c.write.ensures.capacity,
            c.write.new.out.ok,
            c.args.out.now.ok,
            c.reserve.ensures.len,
          );
    }

pub returns-clause-ok : goal.returns-clause-ok
returns-clause-ok g c =
    let lanes : ℕ = g.P.BitPacker.lanes in
    let values : List ℕ = c.args.values.now in
    let words : AreWords values = AreWords-from_slice values c.type_inv.values in
    let front : List ℕ = header 1 c.args.kind lanes (length values) in
    let few : lanes < 2 ^ 8 = omega (arith, g.met.P.BitPacker.few_lanes) in
    let (later, small, blocks, bytes, list) = encoding_of lanes c.args.kind values g.met.P.BitPacker.some_lanes few words c.if-values-gt-LONGEST_LIST.false in
    let whole : c.BLOCK_LEN.result / 32 ≡ lanes = lanes-is g.P.BitPacker.lanes c.BLOCK_LEN.result (c.BLOCK_LEN.ensures ∙ g.met.P.BitPacker.block_len) in
    let items : c.write.new.out.items ≡ c.args.out.now.items ++ front = rw (← whole, ← c.reserve.ensures.items) c.write.ensures.items in (
      front ++ later,
      bytes,
      list,
      c.write_blocks.ensures later small (rw c.first.ensures blocks)
          ∙ ap (λ zs. zs ++ later) items ∙ append_assoc c.args.out.now.items front later,
    )
