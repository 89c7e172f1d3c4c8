-- The words so far are loaded.
use Rattle.std.proofs.Common.{◌≡◌, ◌*◌, ◌<◌, ℕ, drop, get_or, length, take}
use Rattle.bitpack_slices.specs.Slices.{number_of}
use Rattle.bitpack_roaring.proofs.bits.load_bits.Given as goal

abbrev pub invariant-loop-index : goal.invariant-loop-index
invariant-loop-index l = record {
  long : length l.words ≡ 1024;
  loaded : (k : ℕ) → k < l.index → get_or l.words k 0 ≡ number_of (take 8 (drop (8 * k) l.body));
}
