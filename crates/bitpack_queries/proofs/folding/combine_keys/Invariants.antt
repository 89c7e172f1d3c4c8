use Rattle.std.proofs.Common.{◌≡◌, ◌+◌, ◌*◌, ◌/◌, ◌<◌, ◌≤◌, ℕ, false, get_or, map, take}
use Rattle.bitpack_queries.specs.Folds.{AreHeld, found, swapped}
use Rattle.bitpack_queries.specs.Operations.{folded}
use Rattle.bitpack_slices.specs.Reads.{has}
use Rattle.bitpack_queries.proofs.folding.combine_keys.Given as goal

abbrev pub invariant-loop-i : goal.invariant-loop-i
invariant-loop-i g l = record {
  later : l.base + 8 ≤ l.next;
  most : l.next ≤ 65536;
  held : AreHeld l.held (l.base + 8) (swapped l.first (map g.S.AsSet.its_ids l.sets));
  rest : (j : ℕ) → l.i ≤ j → get_or l.held j 0 ≡ get_or l.fn.held j 0;
  own : (i : ℕ) → i < 524288 → found l.highs l.words i ≡ folded l.operation (take l.i (map (has (l.base * 65536 + i)) (swapped l.first (map g.S.AsSet.its_ids l.sets))));
  none : (x : ℕ) → l.base + 8 ≤ x / 65536 → x / 65536 < l.next → folded l.operation (take l.i (map (has x) (swapped l.first (map g.S.AsSet.its_ids l.sets)))) ≡ false;
}
