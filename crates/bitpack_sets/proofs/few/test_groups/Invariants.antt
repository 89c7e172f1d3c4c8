-- What is left of the groups has their first fault, and the codes so far and those that are left are those of the groups.
use Rattle.std.proofs.Common.{◌≡◌, ◌+◌, ◌-◌, ◌*◌, ◌++◌, length, take}
use Rattle.bitpack_sets.specs.Varints.{after_groups, groups_codes, groups_fault, groups_of}
use Rattle.bitpack_sets.proofs.few.test_groups.Given as goal

abbrev pub invariant-loop-index : goal.invariant-loop-index
invariant-loop-index l = record {
  long : length l.codes ≡ length l.fn.codes;
  group : length l.group ≡ 32;
  fault : groups_fault (groups_of (length l.fn.codes)) 0 (length l.fn.codes) l.bytes
      ≡ groups_fault (groups_of (length l.fn.codes) - l.index) (0 + l.index) (length l.fn.codes - 32 * l.index) l.rest;
  codes : take (32 * l.index) l.codes ++ groups_codes (groups_of (length l.fn.codes) - l.index) (length l.fn.codes - 32 * l.index) l.rest
      ≡ groups_codes (groups_of (length l.fn.codes)) (length l.fn.codes) l.bytes;
  after : after_groups (groups_of (length l.fn.codes) - l.index) (length l.fn.codes - 32 * l.index) l.rest
      ≡ after_groups (groups_of (length l.fn.codes)) (length l.fn.codes) l.bytes;
}
