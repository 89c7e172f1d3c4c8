-- The codes so far together.
use Rattle.std.proofs.Common.{◌≡◌, ◌%◌, ◌^◌, ◌<◌, ℕ, get_or, sum, take}
use Rattle.bitpacking.specs.Width.{Fits}
use Rattle.bitpack_columns.proofs.opening.order.add_codes.Given as goal

abbrev pub invariant-loop-index : goal.invariant-loop-index
invariant-loop-index l = record {
  sum : l.sum ≡ sum (take l.index l.codes) % 2 ^ 32;
  above : (w k : ℕ) → l.bits < 2 ^ w → k < l.index → get_or l.codes k 0 < 2 ^ w;
  below : (w : ℕ) → Fits l.codes w → l.bits < 2 ^ w;
}
