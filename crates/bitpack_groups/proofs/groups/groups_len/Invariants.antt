-- Whatever the groups are, those so far are counted.
use Rattle.std.proofs.Common.{◌≡◌, ◌+◌, ◌-◌, ◌*◌, ◌≤◌, ℕ, List, length, drop}
use Rattle.bitpack_groups.specs.Groups.{AreGroups, groups_of}
use Rattle.bitpack_groups.proofs.groups.groups_len.Given as goal

abbrev pub invariant-loop-index : goal.invariant-loop-index
invariant-loop-index l = record {
  counted : (groups : List ℕ) → AreGroups (groups_of (length l.codes)) l.codes groups
      → (later : List ℕ) × AreGroups (groups_of (length l.codes) - l.index) (drop (32 * l.index) l.codes) later
      × (l.len + length later ≡ length groups);
  few : l.len ≤ 4 * length l.codes + groups_of (length l.codes);
}
