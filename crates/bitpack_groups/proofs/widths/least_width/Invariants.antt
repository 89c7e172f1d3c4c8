-- What is joined so far fits the widths that the codes so far fit.
use Rattle.std.proofs.Common.{ℕ, ◌^◌, ◌<◌, get_or}
use Rattle.bitpacking.specs.Width.{Fits}
use Rattle.bitpack_groups.proofs.widths.least_width.Given as goal

abbrev pub invariant-loop-index : goal.invariant-loop-index
invariant-loop-index l = record {
  above : (w k : ℕ) → l.joined < 2 ^ w → k < l.index → get_or l.codes k 0 < 2 ^ w;
  below : (w : ℕ) → Fits l.codes w → l.joined < 2 ^ w;
}
