-- What is gathered of the chunks so far, and what is left.
use Rattle.std.proofs.Common.{◌≡◌, ℕ, ◌-◌, ◌*◌, ◌/◌, ◌^◌, ◌<◌, ◌≤◌, false, length}
use Rattle.bitpack_slices.specs.Operations.{those}
use Rattle.bitpack_slices.specs.Reads.{has}
use Rattle.bitpack_sets.specs.Chunks.{first_key, ids_from, positions}
use Rattle.bitpack_sets.specs.Opened.{ids}
use Rattle.bitpack_queries.specs.Shifts.{has_moved, moved}
use Rattle.bitpack_queries.proofs.lemmas.two.GatherLaws.{Gathering}
use Rattle.bitpack_queries.proofs.shifting.gathering.gather_whole.Given as goal

abbrev pub invariant-loop-key : goal.invariant-loop-key
invariant-loop-key l = record {
  so : Gathering (moved l.shift.up l.shift.down (ids l.fn.set)) (those (2 ^ 32) (has_moved l.shift.up l.shift.down (ids_from l.chunks l.position))) l.fn.out l.out l.keys l.counts l.sizes
      l.gathered.count l.gathered.chunks l.gathered.size;
  key_is : l.key ≡ first_key (ids_from l.chunks l.position);
  lower : (y : ℕ) → y / 65536 < l.key → has y (ids_from l.chunks l.position) ≡ false;
  top : (y : ℕ) → 2 ^ 32 ≤ y → has y (ids_from l.chunks l.position) ≡ false;
  within : l.position ≤ positions l.chunks;
  begin : l.key < 65536 → l.shift.down - l.shift.up ≤ l.key * 65536;
  small : l.gathered.size ≤ 2 * l.gathered.count;
  out_len : length l.out ≡ length l.fn.out;
  keys_len : length l.keys ≡ length l.fn.keys;
  counts_len : length l.counts ≡ length l.fn.counts;
  sizes_len : length l.sizes ≡ length l.fn.sizes;
}

abbrev pub decreases-loop-key : goal.decreases-loop-key
decreases-loop-key l = positions l.chunks - l.position
