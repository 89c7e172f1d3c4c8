-- Whatever the groups are, those so far are written.
use Rattle.std.proofs.Common.{◌≡◌, ◌-◌, ◌*◌, ◌≤◌, ◌++◌, ℕ, List, length, take, drop}
use Rattle.bitpack_groups.specs.Groups.{AreGroups, groups_of}
use Rattle.bitpack_groups.proofs.groups.write_groups.Given as goal

abbrev pub invariant-loop-index : goal.invariant-loop-index
invariant-loop-index l = record {
  written : (groups : List ℕ) → AreGroups (groups_of (length l.codes)) l.codes groups
      → (later : List ℕ) × AreGroups (groups_of (length l.codes) - l.index) (drop (32 * l.index) l.codes) later
      × (take l.end l.bytes ++ later ≡ groups);
  within : l.end ≤ length l.bytes;
  long : length l.bytes ≡ length l.fn.bytes;
}
