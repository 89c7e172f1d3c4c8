-- The ids so far are written.
use Rattle.std.proofs.Common.{◌≡◌, ◌+◌, ◌*◌, ◌^◌, length, map, take}
use Rattle.bitpack_wide.proofs.unpacking.widen.Given as goal

abbrev pub invariant-loop-index : goal.invariant-loop-index
invariant-loop-index l = record {
  long : length l.out ≡ length l.fn.out;
  written : take l.index l.out ≡ take l.index (map (λ low. l.high * 2 ^ 32 + low) l.lows);
}
