-- There is room for the encoding, and header, entries, bodies and tail are it.
use Rattle.std.proofs.Common.{◌≡◌, ◌+◌, ◌-◌, ◌*◌, ◌/◌, ◌%◌, ◌<◌, ◌++◌, ℕ, List, length, take, drop, get_or, Option, Some, None, refl, sym, ◌∙◌, ap, arith, append_assoc, zero-add, vec_len}
use Rattle.std.proofs.Math.Nat.{mod-eq-sub-mul-div, mul-div-le}
use Rattle.std.proofs.lemmas.List.{length-append, length-drop, take-append-drop, take_all}
use Rattle.bitpacking.specs.Words.{bytes_of_words}
use Rattle.bitpacking.proofs.ForCallers.{AreWords-from_slice, length-bytes_of_words}
use Rattle.bitpack_lists.specs.declared.list_kind.ListKind.{ListKind}
use Rattle.bitpack_lists.specs.Parts.{header, tail_values, whole_blocks}
use Rattle.bitpack_lists.specs.Version2.{first_out, is_out, least_below}
use Rattle.bitpack_lists.proofs.lemmas.blocks.HeaderLemmas.{length-header}
use Rattle.bitpack_lists.proofs.lemmas.blocks.ListLemmas.{lanes-is, on_err, on_ok}
use Rattle.bitpack_lists.proofs.lemmas.blocks.MeasuredLengths.{length-rest2}
use Rattle.bitpack_lists.proofs.lemmas.blocks.Orders.{ordered_first}
use Rattle.bitpack_lists.proofs.lemmas.blocks.PartLemmas.{AreBytes-from_items, AreBytes-right}
use Rattle.bitpack_lists.proofs.lemmas.blocks.RestLemmas.{List2-from_rest, length-encoding2, length-tail, rest_done}
use Rattle.bitpack_lists.proofs.v2.writing.encode.Goals as goal

-- ---- order

-- What the test finds is the first position out of order.
found_is : (kind : ListKind) (values : List ℕ) (found : Option ℕ) → found ≡ least_below (is_out kind (λ k. get_or values k 0)) (0 + length values)
    → first_out kind values ≡ found
found_is kind values found is = sym (is ∙ ap (least_below (is_out kind (λ k. get_or values k 0))) (zero-add (length values)))

at_position : (values : List ℕ) (k : ℕ) → k < length values → get_or values (0 + k) 0 ≡ get_or values k 0
at_position values k lt = ap (λ i. get_or values i 0) (zero-add k)

pub returns-in-Some-clause-order : goal.returns-in-Some-clause-order
returns-in-Some-clause-order g c = λ few.
    let values : List ℕ = c.args.values.now in
    let found = found_is c.args.kind values c.first_out.result
    (c.first_out.ensures (λ k. get_or values k 0) (ordered_first c.args.kind (λ k. get_or values k 0) 0) (at_position values)) in
    rw (found, c.in-Some.is) refl

pub returns-in-Some-clause-room : goal.returns-in-Some-clause-room
returns-in-Some-clause-room g c = λ few none.
    let values : List ℕ = c.args.values.now in
    let found = found_is c.args.kind values c.first_out.result
    (c.first_out.ensures (λ k. get_or values k 0) (ordered_first c.args.kind (λ k. get_or values k 0) 0) (at_position values)) in
    let other : Some c.in-Some.position ≡ None = sym c.in-Some.is ∙ sym found ∙ none in
    absurd cc

pub returns-then-is_err-clause-order : goal.returns-then-is_err-clause-order
returns-then-is_err-clause-order g c = λ few.
    let values : List ℕ = c.args.values.now in
    let found = found_is c.args.kind values c.first_out.result
    (c.first_out.ensures (λ k. get_or values k 0) (ordered_first c.args.kind (λ k. get_or values k 0) 0) (at_position values)) in
    rw (found, c.in_default.is) refl

pub returns-clause-order : goal.returns-clause-order
returns-clause-order g c = λ few.
    let values : List ℕ = c.args.values.now in
    let found = found_is c.args.kind values c.first_out.result
    (c.first_out.ensures (λ k. get_or values k 0) (ordered_first c.args.kind (λ k. get_or values k 0) 0) (at_position values)) in
    rw (found, c.in_default.is) tt

-- ---- room

pub returns-then-is_err-clause-room : goal.returns-then-is_err-clause-room
returns-then-is_err-clause-room g c = λ few none encoding list.
    let full = on_err c.reserve.result (sym c.is_err.ensures.value ∙ c.if-is_err.true) c.reserve.ensures.full in
    let long = length-encoding2 g.P.BitPacker.lanes c.args.kind c.args.values.now encoding g.met.P.BitPacker.some_lanes list in
    let size = length-rest2 g.P.BitPacker.lanes (whole_blocks g.P.BitPacker.lanes (length c.args.values.now)) c.encoding_len.result
    (4 * tail_values g.P.BitPacker.lanes (length c.args.values.now)) c.args.kind c.args.values.now (drop 7 encoding) g.met.P.BitPacker.some_lanes
    c.encoding_len.ensures.len list.rest.whole.entries in
    omega (arith, full, long, size)

-- What is in the vector, as long as it is.
module _ (lanes len count : ℕ) (kind : ListKind) (old reserved written : List ℕ) (same : reserved ≡ old)
    (whole : len ≡ 32 * lanes) (items : written ≡ reserved ++ header 2 kind (len / 32) count) where
  header_is : written ≡ old ++ header 2 kind lanes count
  header_is = items ∙ rw (same, lanes-is lanes len whole) refl

  length-header_is : length written ≡ length old + 7
  length-header_is = ap length header_is ∙ length-append old (header 2 kind lanes count) ∙ ap (λ n. length old + n) (length-header 2 kind lanes count)

pub write_entries-requires-clause-room : goal.write_entries-requires-clause-room
write_entries-requires-clause-room g c =
    let room = on_ok c.reserve.result (sym c.is_err.ensures.value ∙ c.if-is_err.false) c.reserve.ensures.ok in
    let long = length-header_is g.P.BitPacker.lanes c.BLOCK_LEN.result (length c.args.values.now) c.args.kind c.args.out.now.items c.reserve.new.self.items
    c.write.new.out.items c.reserve.ensures.items (c.BLOCK_LEN.ensures ∙ g.met.P.BitPacker.block_len) c.write.ensures.items in
    omega (arith, room, long, c.encoding_len.ensures.room, c.write.ensures.capacity, c.write.new.out.ok, c.args.out.now.ok, c.reserve.ensures.len)

pub write_bodies-requires-clause-room : goal.write_bodies-requires-clause-room
write_bodies-requires-clause-room g c =
    let room = on_ok c.reserve.result (sym c.is_err.ensures.value ∙ c.if-is_err.false) c.reserve.ensures.ok in
    let long = length-header_is g.P.BitPacker.lanes c.BLOCK_LEN.result (length c.args.values.now) c.args.kind c.args.out.now.items c.reserve.new.self.items
    c.write.new.out.items c.reserve.ensures.items (c.BLOCK_LEN.ensures ∙ g.met.P.BitPacker.block_len) c.write.ensures.items in
    let size = length-rest2 g.P.BitPacker.lanes (whole_blocks g.P.BitPacker.lanes (length c.args.values.now)) c.encoding_len.result
    (4 * tail_values g.P.BitPacker.lanes (length c.args.values.now)) c.args.kind c.args.values.now
    (drop (vec_len c.write.new.out) c.write_entries.new.out.items) g.met.P.BitPacker.some_lanes c.encoding_len.ensures.len c.write_entries.ensures.entries.entries in
    rw c.len-start.ensures (omega (
      arith,
      room,
      long,
      size,
      c.write.ensures.capacity,
      c.write_entries.ensures.capacity,
      c.write.new.out.ok,
      c.args.out.now.ok,
      c.reserve.ensures.len,
    ))

-- The tail, as the code lends it.
tail_is : (lanes len : ℕ) (values : List ℕ) → len ≡ 32 * lanes
    → take (length values - (length values - length values % len)) (drop (length values - length values % len) values)
    ≡ drop (32 * lanes * whole_blocks lanes (length values)) values
tail_is lanes len values whole =
    let n : ℕ = 32 * lanes in
    let from : length values - length values % len ≡ n * (length values / n) =
    rw whole (omega (arith, mod-eq-sub-mul-div (length values) n, mul-div-le (length values) n)) in
    let start : ℕ = length values - length values % len in
    take_all (length values - start) (drop start values) (omega (arith, length-drop start values)) ∙ ap (λ k. drop k values) from

-- The vector before the tail: what it held, the header, and entries and bodies.
parts_are : (start len : ℕ) (front entered done : List ℕ) → start ≡ len → take len entered ≡ front → take start done ≡ take start entered
    → done ≡ front ++ drop start done
parts_are start len front entered done e f g =
    sym (take-append-drop start done) ∙ ap (λ xs. xs ++ drop start done) (g ∙ ap (λ k. take k entered) e ∙ f)

pub write_all-requires : goal.write_all-requires
write_all-requires g c =
    let lanes : ℕ = g.P.BitPacker.lanes in
    let values : List ℕ = c.args.values.now in
    let start : ℕ = c.len-start.result in
    let front : List ℕ = c.write.new.out.items in
    let done : List ℕ = c.write_bodies.new.out.items in
    let room = on_ok c.reserve.result (sym c.is_err.ensures.value ∙ c.if-is_err.false) c.reserve.ensures.ok in
    let long = length-header_is lanes c.BLOCK_LEN.result (length values) c.args.kind c.args.out.now.items c.reserve.new.self.items front
    c.reserve.ensures.items (c.BLOCK_LEN.ensures ∙ g.met.P.BitPacker.block_len) c.write.ensures.items in
    let has = c.write_bodies.ensures.bodies in
    let size = length-rest2 lanes (whole_blocks lanes (length values)) c.encoding_len.result (4 * tail_values lanes (length values)) c.args.kind values (drop start done)
    g.met.P.BitPacker.some_lanes c.encoding_len.ensures.len has.entries in
    let tail = tail_is lanes c.BLOCK_LEN-2.result values (c.BLOCK_LEN-2.ensures ∙ g.met.P.BitPacker.block_len) in
    let over = length-tail lanes values g.met.P.BitPacker.some_lanes in
    let behind : length (drop (32 * lanes * whole_blocks lanes (length values)) values) ≡ tail_values lanes (length values) =
    omega (arith, over, length-bytes_of_words (drop (32 * lanes * whole_blocks lanes (length values)) values)) in
    let parts = parts_are start (vec_len c.write.new.out) front c.write_entries.new.out.items done c.len-start.ensures c.write_entries.ensures.front c.write_bodies.ensures.front in
    record {
      room = rw tail (omega (
        arith,
        room,
        long,
        size,
        behind,
        has.long,
        ap length parts,
        length-append front (drop start done),
        c.write.ensures.capacity,
        c.write_entries.ensures.capacity,
        c.write_bodies.ensures.capacity,
        c.write_bodies.new.out.ok,
        c.args.out.now.ok,
        c.reserve.ensures.len,
      ));
    }

pub returns-clause-ok : goal.returns-clause-ok
returns-clause-ok g c =
    let lanes : ℕ = g.P.BitPacker.lanes in
    let kind : ListKind = c.args.kind in
    let values : List ℕ = c.args.values.now in
    let old : List ℕ = c.args.out.now.items in
    let start : ℕ = c.len-start.result in
    let front : List ℕ = c.write.new.out.items in
    let done : List ℕ = c.write_bodies.new.out.items in
    let header_of : List ℕ = header 2 kind lanes (length values) in
    let blocks : ℕ = whole_blocks lanes (length values) in
    let tail : List ℕ = bytes_of_words (drop (32 * lanes * blocks) values) in
    let rest : List ℕ = drop start done in
    let found = found_is kind values c.first_out.result
    (c.first_out.ensures (λ k. get_or values k 0) (ordered_first kind (λ k. get_or values k 0) 0) (at_position values)) in
    let head = header_is lanes c.BLOCK_LEN.result (length values) kind old c.reserve.new.self.items front
    c.reserve.ensures.items (c.BLOCK_LEN.ensures ∙ g.met.P.BitPacker.block_len) c.write.ensures.items in
    let parts = parts_are start (vec_len c.write.new.out) front c.write_entries.new.out.items done c.len-start.ensures c.write_entries.ensures.front c.write_bodies.ensures.front in
    let items : c.write_all.new.out.items ≡ old ++ (header_of ++ (rest ++ tail)) =
    c.write_all.ensures.items
    ∙ ap (λ xs. done ++ bytes_of_words xs) (tail_is lanes c.BLOCK_LEN-2.result values (c.BLOCK_LEN-2.ensures ∙ g.met.P.BitPacker.block_len))
    ∙ ap (λ xs. xs ++ tail) (parts ∙ ap (λ xs. xs ++ rest) head)
    ∙ append_assoc (old ++ header_of) rest tail ∙ append_assoc old header_of (rest ++ tail) in (
      header_of ++ (rest ++ tail),
      AreBytes-right old (header_of ++ (rest ++ tail)) (rw items at (AreBytes-from_items c.write_all.new.out.items c.type_inv.out)),
      List2-from_rest lanes kind values (rest ++ tail) (AreWords-from_slice values c.type_inv.values) (found ∙ c.in_default.is) c.if-values-gt-LONGEST_LIST.false
          (rest_done lanes blocks kind values rest c.write_bodies.ensures.bodies),
      items,
    )
