-- The header is at the front of the bytes, and the tail at their end.
use Rattle.std.proofs.Common.{◌≡◌, ◌+◌, ◌-◌, ◌*◌, ◌%◌, ◌≤◌, ℕ, List, length, take, drop, None, sym, ◌∙◌, ap, arith}
use Rattle.std.proofs.lemmas.List.{length-drop, take_all}
use Rattle.bitpacking.proofs.ForCallers.{AreBytes-from_slice}
use Rattle.bitpacking.specs.Bits.{AreBytes}
use Rattle.bitpack_lists.specs.declared.list_kind.ListKind.{ListKind}
use Rattle.bitpack_lists.specs.Parts.{BeginsWithHeader, kind_of_byte, whole_blocks}
use Rattle.bitpack_lists.specs.Encodings.{States}
use Rattle.bitpack_lists.specs.Version2.{fault2, tail_start}
use Rattle.bitpack_lists.proofs.lemmas.blocks.HeaderLemmas.{header_bytes}
use Rattle.bitpack_lists.proofs.lemmas.opened.EncodingBlocks.{words_of_tail}
use Rattle.bitpack_lists.proofs.lemmas.v2.Soundness2.{kind_of_byte-is}
use Rattle.bitpack_lists.proofs.blocks.reads.PackedList.of_encoding.Goals as goal

module _ (lanes len count : ℕ) (kind : ListKind) (bytes : List ℕ) (small : AreBytes bytes) (whole : len ≡ 32 * lanes) (begins : BeginsWithHeader 2 lanes kind count bytes)
    (sound : fault2 lanes bytes ≡ None) where
  long_enough : 7 ≤ length bytes
  long_enough = (header_bytes 2 lanes kind count bytes begins).long

  abbrev rest : List ℕ
  rest = take (length bytes - 7) (drop 7 bytes)

  rest_is : rest ≡ drop 7 bytes
  rest_is = take_all (length bytes - 7) (drop 7 bytes) (omega (arith, length-drop 7 bytes))

  states : States lanes bytes kind count rest
  states =
      let found = header_bytes 2 lanes kind count bytes begins in
      record { none = sound; kind_is = sym (ap kind_of_byte found.kind_is ∙ kind_of_byte-is kind); count_is = sym found.count_is; rest_is = rest_is }

  abbrev size : ℕ
  size = 4 * (count % len)

  abbrev from : ℕ
  from = tail_start lanes (whole_blocks lanes count) rest

  length-rest : length rest ≡ from + size
  length-rest = rw whole (words_of_tail lanes bytes kind count rest small states)

  tail_room : size ≤ length rest
  tail_room = omega (arith, length-rest)

  tail_is : take (length rest - (length rest - size)) (drop (length rest - size) rest) ≡ drop from rest
  tail_is =
      let here : length rest - size ≡ from = omega (arith, length-rest) in
      take_all (length rest - (length rest - size)) (drop (length rest - size) rest) (omega (arith, length-drop (length rest - size) rest))
      ∙ ap (λ i. drop i rest) here

pub slice_bounds-rest-count : goal.slice_bounds-rest-count
slice_bounds-rest-count g c =
    let long = (header_bytes 2 g.P.BitPacker.lanes c.args.header.kind c.args.header.count c.args.bytes.now c.requires.begins).long in
    omega (arith, long)

pub slice_bounds-rest-start : goal.slice_bounds-rest-start
slice_bounds-rest-start g c =
    let long = (header_bytes 2 g.P.BitPacker.lanes c.args.header.kind c.args.header.count c.args.bytes.now c.requires.begins).long in
    omega (arith, long)

pub overflow_sub-result : goal.overflow_sub-result
overflow_sub-result g c =
    tail_room g.P.BitPacker.lanes c.BLOCK_LEN.result c.args.header.count c.args.header.kind c.args.bytes.now (AreBytes-from_slice c.args.bytes.now c.type_inv.bytes)
    (c.BLOCK_LEN.ensures ∙ g.met.P.BitPacker.block_len) c.requires.begins c.requires.sound

pub invariant_of-result : goal.invariant_of-result
invariant_of-result g c =
    let lanes : ℕ = g.P.BitPacker.lanes in
    let header = c.args.header in
    let bytes : List ℕ = c.args.bytes.now in
    let small = AreBytes-from_slice bytes c.type_inv.bytes in
    let whole : c.BLOCK_LEN.result ≡ 32 * lanes = c.BLOCK_LEN.ensures ∙ g.met.P.BitPacker.block_len in
    record {
      are_bytes = small;
      few = c.requires.begins.few;
      states = states lanes c.BLOCK_LEN.result header.count header.kind bytes small whole c.requires.begins c.requires.sound;
      tail_is = tail_is lanes c.BLOCK_LEN.result header.count header.kind bytes small whole c.requires.begins c.requires.sound;
    }
