-- The numbers of the high bytes that are left come next.
use Rattle.std.proofs.Common.{ℕ, ◌≡◌, ◌+◌, ◌≤◌, ◌++◌, eqb, length, map, take, true}
use Rattle.std.specs.Int.{bit_at}
use Rattle.bitpack_slices.proofs.lemmas.slices.SelectionLaws.{passes}
use Rattle.bitpack_slices.proofs.lemmas.bits.UnpackLaws.{by_high}
use Rattle.bitpack_slices.proofs.blocks.combining.unpack_word.Given as goal
use Rattle.bitpack_slices.specs.Selections.{word_highs}

abbrev pub invariant-loop-left : goal.invariant-loop-left
invariant-loop-left g l = record {
  bits : (k : ℕ) → eqb (bit_at l.left k) 1 ≡ true → eqb (bit_at l.word k) 1 ≡ true;
  room : l.next ≤ length l.out;
  count : l.next + length (by_high (passes l.operation l.a l.b) (word_highs l.first l.left)) ≡ l.at + length (by_high (passes l.operation l.a l.b) (word_highs l.first l.word));
  values : take l.next l.out ++ map (λ i. l.base + i) (by_high (passes l.operation l.a l.b) (word_highs l.first l.left))
      ≡ take l.at l.fn.out ++ map (λ i. l.base + i) (by_high (passes l.operation l.a l.b) (word_highs l.first l.word));
}

abbrev pub decreases-loop-left : goal.decreases-loop-left
decreases-loop-left g l = l.left
