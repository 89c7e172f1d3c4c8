-- The least value of a plain tail, and the groups of its codes.
use Rattle.std.proofs.Common.{◌≡◌, ◌++◌, ◌-◌, ◌^◌, ◌<◌, ◌≤◌, ℕ, List, length, take, drop, sym, ap, ◌∙◌, arith, rules, subst, length-drop}
use Rattle.std.proofs.lemmas.List.{take_rest}
use Rattle.std.proofs.lemmas.List.Elements.{All-drop}
use Rattle.bitpacking.proofs.ForCallers.{AreWords-from_slice}
use Rattle.bitpacking.specs.Codes.{AreWords}
use Rattle.bitpack_groups.proofs.ForCallers.{lent_after, longest_number}
use Rattle.bitpack_columns.specs.declared.column_kind.ColumnKind.{ColumnKind}
use Rattle.bitpack_columns.specs.declared.column_kind.ColumnKind.TheVariants.{Plain, Sorted}
use Rattle.bitpack_columns.specs.Columns.{codes}
use Rattle.bitpack_columns.specs.Numbers.{AreGroups, groups_of, number}
use Rattle.bitpack_columns.proofs.CodeLaws.{codes_len, codes_words, least_le}
use Rattle.bitpack_columns.proofs.WriteLaws.{coded_encoding, coded_run, empty_tail, plain_tail, room_for, sorted_tail, written_after}
use Rattle.bitpack_columns.proofs.encoding.parts.write_tail.Goals as goal

pub returns-then-is_empty-clause-tail : goal.returns-then-is_empty-clause-tail
returns-then-is_empty-clause-tail c =
    let none : length c.args.tail.now ≡ 0 = search rules in
    sym (empty_tail c.args.kind c.args.blocks c.args.before c.args.tail.now none)

pub take_off-requires-clause-above : goal.take_off-requires-clause-above
take_off-requires-clause-above c = λ k lt.
    let low = least_le c.args.tail.now k lt in
    let is = c.bounds-least.ensures.least in
    omega arith

pub write_number-end-requires : goal.write_number-end-requires
write_number-end-requires c = record { room = omega (arith, longest_number c.bounds-least.result.0, c.requires.room) }

-- the codes after those that are left out
module _ (kind : ColumnKind) (base zeros : ℕ) (tail all : List ℕ) (words : AreWords tail) (few : length tail < 128) (is : all ≡ codes kind base tail) where
  rest : take (length all - zeros) (drop zeros all) ≡ drop zeros (codes kind base tail)
  rest = take_rest all zeros ∙ ap (drop zeros) is

  words_left : AreWords (drop zeros (codes kind base tail))
  words_left = All-drop (λ v. v < 2 ^ 32) zeros (codes kind base tail) (codes_words kind base tail words)

  room : (groups : List ℕ) → AreGroups (groups_of (length (take (length all - zeros) (drop zeros all)))) (take (length all - zeros) (drop zeros all)) groups → length groups ≤ 512
  room groups are =
      room_for (drop zeros (codes kind base tail)) groups words_left (omega (arith, length-drop zeros (codes kind base tail), codes_len kind base tail))
      (subst (λ (l : List ℕ). AreGroups (groups_of (length l)) l groups) rest are)

  run : AreGroups (groups_of (length (take (length all - zeros) (drop zeros all)))) (take (length all - zeros) (drop zeros all)) (coded_encoding (drop zeros (codes kind base tail)))
  run = coded_run (take (length all - zeros) (drop zeros all)) (drop zeros (codes kind base tail)) rest words_left

pub write_groups-requires : goal.write_groups-requires
write_groups-requires c = record {
  room = λ groups are.
      let tail : List ℕ = c.args.tail.now in
      let few = room Plain c.bounds-least.result.0 c.left_out-zeros.result tail c.take_off.new.out (AreWords-from_slice tail c.type_inv.tail) c.requires.few c.take_off.ensures groups are in
      let unchanged = c.write_number-end.auto.bytes in
      omega (arith, few, longest_number c.bounds-least.result.0, c.write_number-end.ensures.len, lent_after c.write_number-end.result c.write_number-end.new.bytes);
}

pub write_groups-requires-in-Sorted : goal.write_groups-requires-in-Sorted
write_groups-requires-in-Sorted c = record {
  room = λ groups are.
      let tail : List ℕ = c.args.tail.now in
      let few = room Sorted c.args.before c.left_out-zeros.result tail c.take_apart.new.out (AreWords-from_slice tail c.type_inv.tail) c.requires.few c.take_apart.ensures groups are in
      omega (arith, few, c.requires.room);
}

pub returns-in-Plain-clause-tail : goal.returns-in-Plain-clause-tail
returns-in-Plain-clause-tail c =
    let tail : List ℕ = c.args.tail.now in
    let low : ℕ = c.bounds-least.result.0 in
    let zeros : ℕ = c.left_out-zeros.result in
    let end : ℕ = c.write_number-end.result in
    let bytes : List ℕ = c.write_number-end.new.bytes in
    let encoding : List ℕ = coded_encoding (drop zeros (codes Plain low tail)) in
    let one = run Plain low zeros tail c.take_off.new.out (AreWords-from_slice tail c.type_inv.tail) c.requires.few c.take_off.ensures in
    let some : 0 < length tail = search rules in
    let unchanged = c.write_number-end.auto.bytes in
    let short = longest_number low in
    let long = c.write_number-end.ensures.len in
    let new : take c.write_groups.result c.write_groups.new.bytes ≡ encoding =
    ap (λ (k : ℕ). take k c.write_groups.new.bytes) (c.write_groups.ensures.len encoding one) ∙ c.write_groups.ensures.groups encoding one in
    written_after end c.write_groups.result bytes c.write_groups.new.bytes (number low) encoding (omega arith) (c.write_groups.auto.bytes ∙ lent_after end bytes)
    c.write_number-end.ensures.number new
    ∙ ap (λ (n : ℕ). number n ++ coded_encoding (drop zeros (codes Plain n tail))) c.bounds-least.ensures.least
    ∙ sym (plain_tail c.args.kind c.args.blocks c.args.before zeros tail c.in-Plain.is some c.left_out-zeros.ensures.out)

pub returns-in-Sorted-clause-tail : goal.returns-in-Sorted-clause-tail
returns-in-Sorted-clause-tail c =
    let tail : List ℕ = c.args.tail.now in
    let zeros : ℕ = c.left_out-zeros.result in
    let encoding : List ℕ = coded_encoding (drop zeros (codes Sorted c.args.before tail)) in
    let one = run Sorted c.args.before zeros tail c.take_apart.new.out (AreWords-from_slice tail c.type_inv.tail) c.requires.few c.take_apart.ensures in
    ap (λ (k : ℕ). take k c.write_groups-in-Sorted.new.bytes) (c.write_groups-in-Sorted.ensures.len encoding one) ∙ c.write_groups-in-Sorted.ensures.groups encoding one
    ∙ sym (sorted_tail c.args.kind c.args.blocks c.args.before zeros tail c.in-Sorted.is c.left_out-zeros.ensures.out)
