-- The codes so far are written.
use Rattle.std.proofs.Common.{◌≡◌, ◌-◌, ◌<◌, ℕ, length, get_or}
use Rattle.bitpack_columns.proofs.encoding.bodies.take_off.Given as goal

abbrev pub invariant-loop-index : goal.invariant-loop-index
invariant-loop-index l = record {
  long : length l.out ≡ length l.values;
  codes : (k : ℕ) → k < l.index → get_or l.out k 0 ≡ get_or l.values k 0 - l.base;
}
