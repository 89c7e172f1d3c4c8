-- The numbers so far are written, and the next is that of a slice. The place is not after it.
use Rattle.std.proofs.Common.{◌≡◌, ◌+◌, ◌-◌, ◌<◌, ◌≤◌, drop, length, map, take}
use Rattle.bitpack_slices.proofs.lemmas.numbers.RangeLaws.{AtSlice}
use Rattle.bitpack_slices.proofs.chunk.parts.Parts.unpack_at.Given as goal
use Rattle.bitpack_slices.specs.Places.{IsPlace}
use Rattle.bitpack_slices.specs.Slices.{numbers_of, slice_numbers}

abbrev pub invariant-loop-next : goal.invariant-loop-next
invariant-loop-next l = record {
  long : length l.out ≡ length l.fn.out;
  within : l.next ≤ length l.out;
  at : l.next < length l.out → AtSlice l.self.counts.now l.index l.left l.offset (l.from + l.next);
  place : IsPlace l.self.counts.now l.here;
  after : l.here.before ≤ l.from + l.next;
  values : take l.next l.out ≡ take l.next (drop l.from (map (λ i. l.base + i) (numbers_of (slice_numbers (length l.self.counts.now) l.self.highs.now) l.self.counts.now l.self.slices.now)));
}

abbrev pub decreases-loop-next : goal.decreases-loop-next
decreases-loop-next l = length l.out - l.next
