-- The codes so far and those of the groups that are left are those of the groups, and these have no fault.
use Rattle.std.proofs.Common.{◌≡◌, ◌+◌, ◌-◌, ◌*◌, ◌++◌, ℕ, None, length, take}
use Rattle.bitpack_groups.specs.Groups.{groups_codes, groups_fault, groups_of}
use Rattle.bitpack_groups.proofs.groups.unpack_groups.Given as goal

abbrev pub invariant-loop-index : goal.invariant-loop-index
invariant-loop-index l = record {
  long : length l.codes ≡ length l.fn.codes;
  right : (block : ℕ) × (groups_fault (groups_of (length l.fn.codes) - l.index) (block + l.index) (length l.fn.codes - 32 * l.index) l.rest ≡ None);
  codes : take (32 * l.index) l.codes ++ groups_codes (groups_of (length l.fn.codes) - l.index) (length l.fn.codes - 32 * l.index) l.rest
      ≡ groups_codes (groups_of (length l.fn.codes)) (length l.fn.codes) l.bytes;
}
