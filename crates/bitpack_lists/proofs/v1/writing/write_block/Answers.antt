-- The width and the body appended are the part of the block.
use Rattle.std.proofs.Common.{◌≡◌, ◌+◌, ◌∷◌, ◌++◌, [], ℕ, List, length, take, refl, ◌∙◌, ap, append_assoc, arith}
use Rattle.bitpacking.specs.declared.kind.Kind.{Kind}
use Rattle.bitpacking.specs.Bits.{AreBytes}
use Rattle.bitpacking.specs.Width.{IsWidth}
use Rattle.bitpacking.specs.Layout.{size, Holds}
use Rattle.bitpack_lists.specs.Version1.{IsPart1}
use Rattle.bitpack_lists.proofs.lemmas.blocks.PartLemmas.{AreBytes-right, AreBytes-from_items}
use Rattle.bitpack_lists.proofs.v1.writing.write_block.Goals as goal

-- The width and the bytes that were written are the part of the block.
module _ (lanes : ℕ) (kind : Kind) (block body : List ℕ) (width written : ℕ) (least : IsWidth kind block width)
    (holds : Holds lanes width kind block (take (size lanes width) body)) (all : written ≡ size lanes width) where
  part : IsPart1 lanes kind block (width ∷ take written body)
  part = record { width = width; body = take written body; least = least; holds = rw all holds; parts = refl }

  length_part : length (width ∷ take written body) ≡ 1 + written
  length_part =
      let long : length (take (size lanes width) body) ≡ size lanes width = holds.byte_count in
      rw all (omega arith)

pub append-requires : goal.append-requires
append-requires g c =
    let lanes : ℕ = g.P.BitPacker.lanes in
    let block : List ℕ = c.args.block.now in
    let width : ℕ = c.args.width in
    let body : List ℕ = c.compress_kind-size.new.compressed in
    let written : ℕ = c.compress_kind-size.result in
    let least = c.requires.width in
    let holds = c.compress_kind-size.ensures.packed.bytes in
    let all = c.compress_kind-size.ensures.size in
    let room = c.requires.room (width ∷ take written body) (part lanes c.args.kind block body width written least holds all) in
    record { room = omega (arith, room, length_part lanes c.args.kind block body width written least holds all) }

pub append-requires-2 : goal.append-requires-2
append-requires-2 g c =
    let lanes : ℕ = g.P.BitPacker.lanes in
    let block : List ℕ = c.args.block.now in
    let width : ℕ = c.args.width in
    let body : List ℕ = c.compress_kind-size.new.compressed in
    let written : ℕ = c.compress_kind-size.result in
    let least = c.requires.width in
    let holds = c.compress_kind-size.ensures.packed.bytes in
    let all = c.compress_kind-size.ensures.size in
    let room = c.requires.room (width ∷ take written body) (part lanes c.args.kind block body width written least holds all) in
    let len = c.append.ensures.len in
    let capacity = c.append.ensures.capacity in
    record { room = omega (arith, room) }

pub returns : goal.returns
returns g c =
    let lanes : ℕ = g.P.BitPacker.lanes in
    let block : List ℕ = c.args.block.now in
    let width : ℕ = c.args.width in
    let body : List ℕ = c.compress_kind-size.new.compressed in
    let written : ℕ = c.compress_kind-size.result in
    let old : List ℕ = c.args.out.now.items in
    let new : List ℕ = c.append-2.new.out.items in
    let items : new ≡ old ++ width ∷ take written body =
    c.append-2.ensures.items ∙ ap (λ zs. zs ++ take written body) c.append.ensures.items ∙ append_assoc old (width ∷ []) (take written body) in
    let bytes : AreBytes new = AreBytes-from_items new c.type_inv.out in
    record {
      part = (
        width ∷ take written body,
        AreBytes-right old (width ∷ take written body) (rw items at bytes),
        part lanes c.args.kind block body width written c.requires.width c.compress_kind-size.ensures.packed.bytes c.compress_kind-size.ensures.size,
        record {
          items = items;
          len = omega (arith, c.append.ensures.len, c.append-2.ensures.len);
          capacity = omega (arith, c.append.ensures.capacity, c.append-2.ensures.capacity);
        },
      );
    }
