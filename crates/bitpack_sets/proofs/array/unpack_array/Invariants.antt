-- The ids so far are written.
use Rattle.std.proofs.Common.{◌≡◌, length, take}
use Rattle.bitpack_slices.specs.Slices.{quads_of}
use Rattle.bitpack_sets.proofs.array.unpack_array.Given as goal

abbrev pub invariant-loop-position : goal.invariant-loop-position
invariant-loop-position l = record {
  long : length l.out ≡ length l.fn.out;
  values : take l.position l.out ≡ take l.position (quads_of l.rest);
}
