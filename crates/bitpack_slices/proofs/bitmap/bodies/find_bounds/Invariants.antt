-- The boundaries in the words so far are written, and the bit before the next word is known.
use mir.Val.{bool_byte}
use Rattle.std.proofs.Common.{◌≡◌, ◌≤◌, ◌*◌, length, take}
use Rattle.bitpack_slices.proofs.lemmas.bodies.ChangeLaws.{before, changes}
use Rattle.bitpack_slices.proofs.bitmap.bodies.find_bounds.Given as goal
use Rattle.bitpack_slices.specs.Bitmaps.{has_bit}
use Rattle.bitpack_slices.specs.Operations.{those}

abbrev pub invariant-loop-index : goal.invariant-loop-index
invariant-loop-index l = record {
  few : l.len ≤ l.most;
  carry : l.before ≡ bool_byte (before (has_bit l.words) (64 * l.index));
  end : l.len ≡ length (those (64 * l.index) (changes (has_bit l.words)));
  values : take l.len l.out ≡ those (64 * l.index) (changes (has_bit l.words));
}
