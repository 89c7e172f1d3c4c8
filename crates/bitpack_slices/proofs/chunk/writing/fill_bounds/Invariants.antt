-- The boundaries so far are written.
use Rattle.std.proofs.Common.{◌≡◌, ◌-◌, ◌≤◌, ◌%◌, ◌++◌, drop, get_or, length, map, take}
use Rattle.bitpack_slices.proofs.chunk.writing.fill_bounds.Given as goal
use Rattle.bitpack_slices.specs.Runs.{boundaries, bounds_after}

abbrev pub invariant-loop-index : goal.invariant-loop-index
invariant-loop-index l = record {
  size : length l.bounds ≡ length l.fn.bounds;
  begun : 1 ≤ l.index;
  within : l.next ≤ length l.bounds;
  written : boundaries (map (λ id. id % 65536) l.ids) ≡ take l.next l.bounds ++ bounds_after (get_or (map (λ id. id % 65536) l.ids) (l.index - 1) 0) (drop l.index (map (λ id. id % 65536) l.ids));
}
