-- The parts so far are right.
use Rattle.std.proofs.Common.{ℕ, ◌+◌, ◌-◌, ◌%◌, ◌<◌, ◌≤◌, length}
use Rattle.std.specs.Prelude.{slice_index}
use Rattle.bitpack_ranked.proofs.parts.is_table.Given as goal

abbrev pub invariant-loop-index : goal.invariant-loop-index
invariant-loop-index l =
    ((i : ℕ) → i < l.index → slice_index l.table i ≤ slice_index l.table (i - i % 256))
    × ((i : ℕ) → i < l.index → i + 256 < length l.table → slice_index l.table i ≤ slice_index l.table (i + 256))
