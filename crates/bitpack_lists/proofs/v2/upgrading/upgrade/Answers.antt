-- The values are those of the bytes; header, skip entries, bodies and tail are their version 2 list, for which there is
-- room.
use Rattle.std.proofs.Common.{◌≡◌, ◌+◌, ◌-◌, ◌*◌, ◌/◌, ◌≤◌, ◌++◌, ℕ, List, length, take, drop, Some, None, refl, sym, ◌∙◌, ap, arith, append_assoc}
use Rattle.std.proofs.lemmas.List.{length-append, length-drop}
use Rattle.bitpacking.specs.Bits.{AreBytes}
use Rattle.bitpacking.proofs.ForCallers.{AreBytes-from_slice}
use Rattle.bitpack_lists.specs.declared.list_kind.ListKind.{ListKind}
use Rattle.bitpack_lists.specs.Parts.{BeginsWithHeader, header, tail_values, whole_blocks}
use Rattle.bitpack_lists.specs.Version1.{List1, fault1}
use Rattle.bitpack_lists.specs.Version2.{IsRest2, first_out}
use Rattle.bitpack_lists.specs.inner.Upgrading.{IsRest1}
use Rattle.bitpack_lists.proofs.lemmas.blocks.HeaderLemmas.{header_bytes, length-header}
use Rattle.bitpack_lists.proofs.lemmas.blocks.ListLemmas.{lanes-is, on_err, on_ok}
use Rattle.bitpack_lists.proofs.lemmas.v1.Soundness1.{later_from_none, list_from_none}
use Rattle.bitpack_lists.proofs.lemmas.blocks.PartLemmas.{AreBytes-from_items, AreBytes-right}
use Rattle.bitpack_lists.proofs.lemmas.blocks.RestLemmas.{List2-from_rest, rest_done}
use Rattle.bitpack_lists.proofs.lemmas.v2.OrderedEncodings.{faulty, lent, listed_as, none_is, out_is, tested}
use Rattle.bitpack_lists.proofs.lemmas.v2.Upgraded.{length_upgraded}
use Rattle.bitpack_lists.proofs.lemmas.v2.UpgradeSteps.{enough_left, none_from_ok}
use Rattle.bitpack_lists.proofs.v2.upgrading.upgrade.Goals as goal

-- ---- bytes with a fault of version 1 encode no list

pub returns-in_err-header-clause-order : goal.returns-in_err-header-clause-order
returns-in_err-header-clause-order g c = λ kind values list.
    absurd (faulty g.P.BitPacker.lanes kind values c.args.bytes.now _ g.met.P.BitPacker.some_lanes c.in_err-header.ensures.fault list)

pub returns-in_err-header-clause-room : goal.returns-in_err-header-clause-room
returns-in_err-header-clause-room g c = λ kind values encoding list list'.
    absurd (faulty g.P.BitPacker.lanes kind values c.args.bytes.now _ g.met.P.BitPacker.some_lanes c.in_err-header.ensures.fault list)

-- ---- order

pub test_order-requires : goal.test_order-requires
test_order-requires g c =
    record { tested = tested g.P.BitPacker.lanes c.in_ok-header.header.count c.in_ok-header.header.kind c.args.bytes.now c.in_ok-header.ensures.header c.in_ok-header.ensures.fault }

pub write_entries-requires-clause-tested : goal.write_entries-requires-clause-tested
write_entries-requires-clause-tested g c =
    tested g.P.BitPacker.lanes c.in_ok-header.header.count c.in_ok-header.header.kind c.args.bytes.now c.in_ok-header.ensures.header c.in_ok-header.ensures.fault

pub copy_bodies-tail-requires-clause-sound : goal.copy_bodies-tail-requires-clause-sound
copy_bodies-tail-requires-clause-sound g c =
    (tested g.P.BitPacker.lanes c.in_ok-header.header.count c.in_ok-header.header.kind c.args.bytes.now c.in_ok-header.ensures.header c.in_ok-header.ensures.fault).sound

pub returns-in-Err-clause-order : goal.returns-in-Err-clause-order
returns-in-Err-clause-order g c = λ kind values list.
    let found = out_is g.P.BitPacker.lanes c.in_ok-header.header.count c.in_ok-header.header.kind c.args.bytes.now c.in_ok-header.ensures.header c.test_order.result
    c.in-Err.position c.test_order.ensures.order c.in-Err.is kind values list in
    rw found refl

pub returns-in-Err-clause-room : goal.returns-in-Err-clause-room
returns-in-Err-clause-room g c = λ kind values encoding list list'.
    let found = out_is g.P.BitPacker.lanes c.in_ok-header.header.count c.in_ok-header.header.kind c.args.bytes.now c.in_ok-header.ensures.header c.test_order.result
    c.in-Err.position c.test_order.ensures.order c.in-Err.is kind values list in
    let other : Some c.in-Err.position ≡ None = sym found ∙ list'.ordered in
    absurd cc

pub returns-then-is_err-clause-order : goal.returns-then-is_err-clause-order
returns-then-is_err-clause-order g c = λ kind values list.
    let found = none_is g.P.BitPacker.lanes c.in_ok-header.header.count c.in_ok-header.header.kind c.args.bytes.now c.in_ok-header.ensures.header c.test_order.result
    c.in_default.field-0 c.test_order.ensures.order c.in_default.is kind values list in
    rw found refl

pub returns-clause-order : goal.returns-clause-order
returns-clause-order g c = λ kind values list.
    let found = none_is g.P.BitPacker.lanes c.in_ok-header.header.count c.in_ok-header.header.kind c.args.bytes.now c.in_ok-header.ensures.header c.test_order.result
    c.in_default.field-0 c.test_order.ensures.order c.in_default.is kind values list in
    rw found tt

-- ---- room

pub returns-then-is_err-clause-room : goal.returns-then-is_err-clause-room
returns-then-is_err-clause-room g c = λ kind values encoding list list'.
    let lanes : ℕ = g.P.BitPacker.lanes in
    let whole : c.BLOCK_LEN.result ≡ 32 * lanes = c.BLOCK_LEN.ensures ∙ g.met.P.BitPacker.block_len in
    let full = on_err c.reserve.result (sym c.is_err.ensures.value ∙ c.if-is_err.true) c.reserve.ensures.full in
    let is = (listed_as lanes c.in_ok-header.header.count c.in_ok-header.header.kind c.args.bytes.now c.in_ok-header.ensures.header kind values list).1 in
    let blocks : c.in_ok-header.header.count / c.BLOCK_LEN.result ≡ whole_blocks lanes (length values) = rw (whole, is.long) refl in
    omega (arith, full, blocks, length_upgraded lanes kind values c.args.bytes.now encoding g.met.P.BitPacker.some_lanes list list')

-- What is in the vector after the header.
module _ (lanes len count : ℕ) (kind : ListKind) (old reserved written : List ℕ) (same : reserved ≡ old)
    (whole : len ≡ 32 * lanes) (items : written ≡ reserved ++ header 2 kind (len / 32) count) where
  header_is : written ≡ old ++ header 2 kind lanes count
  header_is = items ∙ rw (same, lanes-is lanes len whole) refl

  length-header_is : length written ≡ length old + 7
  length-header_is = ap length header_is ∙ length-append old (header 2 kind lanes count) ∙ ap (λ n. length old + n) (length-header 2 kind lanes count)

pub write_entries-requires-clause-room : goal.write_entries-requires-clause-room
write_entries-requires-clause-room g c =
    let lanes : ℕ = g.P.BitPacker.lanes in
    let head = c.in_ok-header.header in
    let bytes : List ℕ = c.args.bytes.now in
    let blocks : ℕ = whole_blocks lanes head.count in
    let whole : c.BLOCK_LEN.result ≡ 32 * lanes = c.BLOCK_LEN.ensures ∙ g.met.P.BitPacker.block_len in
    let blocks_are : head.count / c.BLOCK_LEN.result ≡ blocks = rw whole refl in
    let room = on_ok c.reserve.result (sym c.is_err.ensures.value ∙ c.if-is_err.false) c.reserve.ensures.ok in
    let long = length-header_is lanes c.BLOCK_LEN-2.result head.count head.kind c.args.out.now.items c.reserve.new.self.items c.write.new.out.items c.reserve.ensures.items
    (c.BLOCK_LEN-2.ensures ∙ g.met.P.BitPacker.block_len) c.write.ensures.items in
    let enough = enough_left lanes (4 * tail_values lanes head.count) 0 blocks (drop 7 bytes)
    (later_from_none lanes head.count head.kind bytes c.in_ok-header.ensures.header c.in_ok-header.ensures.fault) in
    omega (
      arith,
      room,
      long,
      blocks_are,
      enough,
      length-drop 7 bytes,
      (header_bytes 1 lanes head.kind head.count bytes c.in_ok-header.ensures.header).long,
      c.write.ensures.capacity,
      c.write.new.out.ok,
      c.args.out.now.ok,
      c.reserve.ensures.len,
    )

-- The values of the bytes.
module _ (lanes count : ℕ) (kind : ListKind) (bytes : List ℕ) (some : 1 ≤ lanes) (small : AreBytes bytes) (begins : BeginsWithHeader 1 lanes kind count bytes)
    (none : fault1 lanes bytes ≡ None) where
  values : List ℕ
  values = (list_from_none lanes count kind bytes some small begins none).0

  list : List1 lanes kind values bytes
  unfolding values
  list = (list_from_none lanes count kind bytes some small begins none).2

  is_rest : IsRest1 lanes kind count values (take (length bytes - 7) (drop 7 bytes))
  is_rest = (listed_as lanes count kind bytes begins kind values list).1

pub copy_bodies-tail-requires-clause-room : goal.copy_bodies-tail-requires-clause-room
copy_bodies-tail-requires-clause-room g c =
    let lanes : ℕ = g.P.BitPacker.lanes in
    let head = c.in_ok-header.header in
    let bytes : List ℕ = c.args.bytes.now in
    let small : AreBytes bytes = AreBytes-from_slice bytes c.type_inv.bytes in
    let begins = c.in_ok-header.ensures.header in
    let none = c.in_ok-header.ensures.fault in
    let whole : c.BLOCK_LEN.result ≡ 32 * lanes = c.BLOCK_LEN.ensures ∙ g.met.P.BitPacker.block_len in
    let blocks_are : head.count / c.BLOCK_LEN.result ≡ whole_blocks lanes head.count = rw whole refl in
    let room = on_ok c.reserve.result (sym c.is_err.ensures.value ∙ c.if-is_err.false) c.reserve.ensures.ok in
    let long = length-header_is lanes c.BLOCK_LEN-2.result head.count head.kind c.args.out.now.items c.reserve.new.self.items c.write.new.out.items c.reserve.ensures.items
    (c.BLOCK_LEN-2.ensures ∙ g.met.P.BitPacker.block_len) c.write.ensures.items in
    let (entries, has, items) = c.write_entries.ensures.entries (values lanes head.count head.kind bytes g.met.P.BitPacker.some_lanes small begins none)
    (is_rest lanes head.count head.kind bytes g.met.P.BitPacker.some_lanes small begins none) in
    rw (lent lanes head.count head.kind bytes begins) (omega (
      arith,
      room,
      long,
      blocks_are,
      has.long,
      ap length items,
      length-append c.write.new.out.items entries,
      length-drop 7 bytes,
      (header_bytes 1 lanes head.kind head.count bytes begins).long,
      c.write.ensures.capacity,
      c.write_entries.ensures.capacity,
      c.write.new.out.ok,
      c.write_entries.new.out.ok,
      c.args.out.now.ok,
      c.reserve.ensures.len,
    ))

pub append-requires : goal.append-requires
append-requires g c =
    let head = c.in_ok-header.header in
    let bytes : List ℕ = c.args.bytes.now in
    let some = g.met.P.BitPacker.some_lanes in
    let small : AreBytes bytes = AreBytes-from_slice bytes c.type_inv.bytes in
    let all : List ℕ = values g.P.BitPacker.lanes head.count head.kind bytes some small c.in_ok-header.ensures.header c.in_ok-header.ensures.fault in
    let is = is_rest g.P.BitPacker.lanes head.count head.kind bytes some small c.in_ok-header.ensures.header c.in_ok-header.ensures.fault in
    let (entries, has, entered) = c.write_entries.ensures.entries all is in
    let (bodies, holds, copied, tail) = c.copy_bodies-tail.ensures.bodies all entries is has in
    let whole : c.BLOCK_LEN.result ≡ 32 * g.P.BitPacker.lanes = c.BLOCK_LEN.ensures ∙ g.met.P.BitPacker.block_len in
    let blocks_are : head.count / c.BLOCK_LEN.result ≡ whole_blocks g.P.BitPacker.lanes head.count = rw whole refl in
    let room = on_ok c.reserve.result (sym c.is_err.ensures.value ∙ c.if-is_err.false) c.reserve.ensures.ok in
    record {
      room = omega (
        arith,
        room,
        blocks_are,
        ap length (lent g.P.BitPacker.lanes head.count head.kind bytes c.in_ok-header.ensures.header),
        length-drop 7 bytes,
        (header_bytes 1 g.P.BitPacker.lanes head.kind head.count bytes c.in_ok-header.ensures.header).long,
        c.reserve.ensures.len,
        c.write.ensures.len,
        length-header 2 head.kind (c.BLOCK_LEN-2.result / 32) head.count,
        c.write_entries.ensures.len,
        c.copy_bodies-tail.ensures.len,
        c.write.ensures.capacity,
        c.write_entries.ensures.capacity,
        copied.capacity,
      );
    }

-- ---- the encoded list

pub returns-clause-ok : goal.returns-clause-ok
returns-clause-ok g c =
    let lanes : ℕ = g.P.BitPacker.lanes in
    let head = c.in_ok-header.header in
    let kind : ListKind = head.kind in
    let bytes : List ℕ = c.args.bytes.now in
    let old : List ℕ = c.args.out.now.items in
    let some = g.met.P.BitPacker.some_lanes in
    let small : AreBytes bytes = AreBytes-from_slice bytes c.type_inv.bytes in
    let begins = c.in_ok-header.ensures.header in
    let none = c.in_ok-header.ensures.fault in
    let all : List ℕ = values lanes head.count kind bytes some small begins none in
    let is = is_rest lanes head.count kind bytes some small begins none in
    let front = header_is lanes c.BLOCK_LEN-2.result head.count kind old c.reserve.new.self.items c.write.new.out.items c.reserve.ensures.items
    (c.BLOCK_LEN-2.ensures ∙ g.met.P.BitPacker.block_len) c.write.ensures.items in
    let (entries, has, entered) = c.write_entries.ensures.entries all is in
    let (bodies, whole, copied, tail) = c.copy_bodies-tail.ensures.bodies all entries is has in
    let later : List ℕ = bodies ++ c.copy_bodies-tail.result.now in
    let encoding : List ℕ = header 2 kind lanes (length all) ++ (entries ++ later) in
    let items : c.append.new.out.items ≡ old ++ encoding =
    c.append.ensures.items ∙ ap (λ xs. xs ++ c.copy_bodies-tail.result.now) copied.items ∙ append_assoc c.write_entries.new.out.items bodies c.copy_bodies-tail.result.now
    ∙ ap (λ xs. xs ++ later) (entered ∙ ap (λ xs. xs ++ entries) (front ∙ ap (λ n. old ++ header 2 kind lanes n) (sym is.long)))
    ∙ append_assoc (old ++ header 2 kind lanes (length all)) entries later ∙ append_assoc old (header 2 kind lanes (length all)) (entries ++ later) in
    let ordered = none_from_ok (first_out kind all) c.test_order.result c.in_default.field-0 (c.test_order.ensures.order all is) c.in_default.is in
    let blocks : ℕ = whole_blocks lanes head.count in
    let rest : IsRest2 lanes blocks kind all (entries ++ later) =
    rw (← append_assoc entries bodies c.copy_bodies-tail.result.now, tail) (rest_done lanes blocks kind all (entries ++ bodies) whole) in
    let rest' : IsRest2 lanes (whole_blocks lanes (length all)) kind all (entries ++ later) = rw is.long rest in (
      kind,
      all,
      encoding,
      list lanes head.count kind bytes some small begins none,
      AreBytes-right old encoding (rw items at (AreBytes-from_items c.append.new.out.items c.type_inv.out)),
      List2-from_rest lanes kind all (entries ++ later) is.words ordered (omega (arith, is.long, begins.few)) rest',
      items,
    )
