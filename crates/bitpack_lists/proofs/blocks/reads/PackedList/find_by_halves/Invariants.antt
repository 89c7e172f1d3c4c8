-- What is left is halved.
use Rattle.std.proofs.Common.{◌≡◌, ◌+◌, ◌^◌, ◌<◌, ◌≤◌, ℕ}
use Rattle.bitpack_lists.specs.inner.Searching.{blocks_of}
use Rattle.bitpack_lists.proofs.lemmas.opened.HalvingSteps.{IsHalved}
use Rattle.bitpack_lists.proofs.blocks.reads.PackedList.find_by_halves.Given as goal

abbrev pub invariant-loop-left : goal.invariant-loop-left
invariant-loop-left g l = record {
  halved : IsHalved l.self l.target l.low l.left l.before;
  halves : (digits : ℕ) → blocks_of l.self < 2 ^ digits
      → (fewer : ℕ) × (l.left < 2 ^ fewer) × (l.reads.entries + fewer ≤ l.initial.reads.entries + digits);
  blocks : l.reads.blocks ≡ l.initial.reads.blocks;
  grown : l.initial.reads.entries ≤ l.reads.entries;
}

abbrev pub decreases-loop-left : goal.decreases-loop-left
decreases-loop-left g l = l.left
