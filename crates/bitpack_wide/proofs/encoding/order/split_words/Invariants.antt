-- The high words so far, whether an id so far falls, and the low words that are still to be written.
use Rattle.std.proofs.Common.{◌≡◌, ◌^◌, ◌≤◌, false, drop}
use Rattle.bitpack_groups.proofs.ForCallers.{IsFilled}
use Rattle.bitpack_sets.proofs.ForCallers.{Counted, RisesTo}
use Rattle.bitpack_wide.specs.Wide.{lows}
use Rattle.bitpack_wide.proofs.encoding.order.split_words.Given as goal

abbrev pub invariant-loop-index : goal.invariant-loop-index
invariant-loop-index l = record {
  rises : l.falls ≡ false → RisesTo l.ids l.index;
  few : l.words ≤ l.index;
  counted : Counted (2 ^ 32) l.words l.index l.ids;
  filled : IsFilled l.lows l.index (lows (drop l.index l.ids)) (lows l.ids);
}
