-- The loop has read the items so far.
use Rattle.std.proofs.Common.{length}
use Rattle.bitpack.proofs.ValueLists.{IsRead, between_commas}
use Rattle.bitpack.proofs.line.values.parse_values.Given as goal

abbrev pub invariant-loop-item : goal.invariant-loop-item
invariant-loop-item l =
    record {
      can_next : (goal.iterator-loop-item).can_next l.item-iterator;
      is_finite : (goal.iterator-loop-item).is_finite l.item-iterator;
      read : IsRead (between_commas l.fn.string) (length l.yielded) l.values.items;
    }
