-- The codes so far together, and those after the group.
use Rattle.std.proofs.Common.{◌≡◌, ◌^◌, ◌<◌, ◌≤◌, true, ℕ, get_or, take, drop}
use Rattle.bitpacking.specs.Width.{Fits}
use Rattle.bitpack_groups.specs.Groups.{are_zeros}
use Rattle.bitpack_groups.proofs.group.add_group.Given as goal

abbrev pub invariant-loop-index : goal.invariant-loop-index
invariant-loop-index l = record {
  above : (w k : ℕ) → l.bits < 2 ^ w → k < l.index → k < l.count → get_or l.codes k 0 < 2 ^ w;
  below : (w : ℕ) → Fits (take l.count l.codes) w → l.bits < 2 ^ w;
  zeros : (k : ℕ) → l.later ≡ 0 → k < l.index → l.count ≤ k → get_or l.codes k 0 ≡ 0;
  later : are_zeros (drop l.count l.codes) ≡ true → l.later ≡ 0;
}
