-- The blocks of an opened list as they are read: their values, their order, and the kind of the next.
-- Serves opened.
use Rattle.std.proofs.Common.{◌≡◌, ◌≢◌, ℕ, ◌+◌, ◌*◌, ◌%◌, ◌<◌, ◌≤◌, List, length, take, get_or, sym, ◌∙◌, ap, arith}
use Rattle.std.proofs.Math.Nat.{div-add-mod}
use Rattle.std.proofs.lemmas.List.{get_or-take, length-take}
use Rattle.bitpacking.specs.declared.bit_packer.BitPacker.{Ghosts}
use Rattle.bitpack_lists.specs.declared.blocks.reads.PackedList.{PackedList}
use Rattle.bitpack_lists.specs.declared.list_kind.ListKind.TheVariants as lists
use Rattle.bitpack_lists.specs.Opened.{values}
use Rattle.bitpack_lists.specs.LowerBounds.{InOrder}
use Rattle.bitpack_lists.specs.inner.Searching.{HasPart, block_of_list, blocks_of, value_of}
use Rattle.bitpack_lists.proofs.lemmas.opened.Positions.{get_or-first_of, left_tail, left_whole, left_within, length-first_of}
use Rattle.bitpack_lists.proofs.lemmas.opened.OpenedLists.{opened_at, opened_ordered}
use Rattle.bitpack_lists.proofs.lemmas.blocks.SearchLemmas.{in_order}

module _ {P : Type 0} {members : Ghosts P} (list : PackedList P members) (some : 1 ≤ members.lanes) where
  abbrev n : ℕ
  n = 32 * members.lanes

  abbrev blocks : ℕ
  blocks = blocks_of list

  -- A block that was unpacked is the part of its number.
  pub part_unpacked : (number len : ℕ) (at_hand : List ℕ) → number < blocks → len ≡ n
      → take len at_hand ≡ block_of_list list number → HasPart list number len at_hand
  part_unpacked number len at_hand lt whole is = record {
    within = omega arith;
    len_is = whole ∙ sym (left_whole n list.count (omega arith) number lt);
    values_are = λ k inside.
        sym (get_or-take len at_hand k 0 inside) ∙ ap (λ zs. get_or zs k 0) is
        ∙ sym (opened_at list some number k lt (omega (arith, inside, whole)));
  }

  -- The values of a list that is not plain are in order.
  pub in_order_from_kind : list.kind ≢ lists.Plain → InOrder (values list)
  in_order_from_kind ordered i j le lt =
      let within : j < list.count = omega (arith, length-first_of (value_of list) list.count) in
      let from = get_or-first_of (value_of list) list.count i (omega arith) in
      let to = get_or-first_of (value_of list) list.count j within in
      let order = in_order list.kind (value_of list) list.count ordered
      (opened_ordered list some) i j le within in
      omega (arith, from, to, order)

  values_order : InOrder (values list) → (i j : ℕ) → i ≤ j → j < list.count → value_of list i ≤ value_of list j
  values_order ordered i j le lt =
      let from = get_or-first_of (value_of list) list.count i (omega arith) in
      let to = get_or-first_of (value_of list) list.count j lt in
      omega (arith, ordered i j le (omega (arith, length-first_of (value_of list) list.count)), from, to)

  -- The values of a part are in order.
  pub part_order : (number len : ℕ) (at_hand : List ℕ) → HasPart list number len at_hand → InOrder (values list)
      → (i j : ℕ) → i ≤ j → j < length (take len at_hand) → get_or (take len at_hand) i 0 ≤ get_or (take len at_hand) j 0
  part_order number len at_hand part ordered i j le lt =
      let inside : j < len = omega (arith, length-take len at_hand, lt) in
      let from = get_or-take len at_hand i 0 (omega arith) ∙ part.values_are i (omega arith) in
      let to = get_or-take len at_hand j 0 inside ∙ part.values_are j inside in
      let last : n * number + len ≤ list.count = omega (arith, left_within n list.count (omega arith) number part.within, part.len_is) in
      omega (arith, values_order ordered (n * number + i) (n * number + j) (omega arith) (omega (arith, last)), from, to)

  -- After all blocks come the values of the tail.
  pub tail_part : (block len : ℕ) (at_hand : List ℕ) → blocks_of list ≤ block → block ≤ blocks_of list → len ≡ list.count % n
      → ((k : ℕ) → k < len → get_or at_hand k 0 ≡ value_of list (n * blocks_of list + k)) → HasPart list block len at_hand
  tail_part block len at_hand past within long each =
      let same : block ≡ blocks_of list = omega arith in
      let left = left_tail n list.count (omega arith) in
      let all = div-add-mod list.count n in
      rw same (record {
        within = omega arith;
        len_is = omega (arith, left, long, all);
        values_are = each;
      })
