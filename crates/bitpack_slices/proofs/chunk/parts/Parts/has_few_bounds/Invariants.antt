-- The boundaries so far, and those of the slices that are left.
use Rattle.std.proofs.Common.{◌≡◌, ◌≢◌, ◌+◌, ◌*◌, ◌<◌, ◌≤◌, drop, get_or, length}
use Rattle.bitpack_slices.specs.Runs.{boundaries}
use Rattle.bitpack_slices.specs.Slices.{AreSlices, numbers_of, slice_numbers}
use Rattle.bitpack_slices.proofs.lemmas.bodies.BoundLaws.{bounds_from, no_end}
use Rattle.bitpack_slices.proofs.chunk.parts.Parts.has_few_bounds.Given as goal

abbrev pub invariant-loop-i : goal.invariant-loop-i
invariant-loop-i l = record {
  within : l.offset ≤ length l.self.slices.now;
  are : AreSlices (drop l.i l.self.counts.now) (drop l.offset l.self.slices.now);
  few : 2 * l.runs ≤ l.most + 1;
  past : l.i < length l.self.counts.now → l.end ≢ no_end → l.end ≤ 256 * get_or (slice_numbers (length l.self.counts.now) l.self.highs.now) l.i 0;
  counted : 2 * l.runs + bounds_from l.end (numbers_of (drop l.i (slice_numbers (length l.self.counts.now) l.self.highs.now)) (drop l.i l.self.counts.now) (drop l.offset l.self.slices.now))
      ≡ length (boundaries (numbers_of (slice_numbers (length l.self.counts.now) l.self.highs.now) l.self.counts.now l.self.slices.now)) + 1;
}
