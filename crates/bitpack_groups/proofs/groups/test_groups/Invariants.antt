-- The groups so far have no fault, and their codes are written.
use Rattle.std.proofs.Common.{◌≡◌, ◌+◌, ◌-◌, ◌*◌, ◌++◌, length, take}
use Rattle.bitpack_groups.specs.Groups.{after_groups, groups_codes, groups_fault, groups_of}
use Rattle.bitpack_groups.proofs.groups.test_groups.Given as goal

abbrev pub invariant-loop-index : goal.invariant-loop-index
invariant-loop-index l = record {
  long : length l.codes ≡ length l.fn.codes;
  room : length l.group ≡ 32;
  fault : groups_fault (groups_of (length l.fn.codes)) l.block (length l.fn.codes) l.bytes
      ≡ groups_fault (groups_of (length l.fn.codes) - l.index) (l.block + l.index) (length l.fn.codes - 32 * l.index) l.rest;
  codes : take (32 * l.index) l.codes ++ groups_codes (groups_of (length l.fn.codes) - l.index) (length l.fn.codes - 32 * l.index) l.rest
      ≡ groups_codes (groups_of (length l.fn.codes)) (length l.fn.codes) l.bytes;
  rest : after_groups (groups_of (length l.fn.codes) - l.index) (length l.fn.codes - 32 * l.index) l.rest
      ≡ after_groups (groups_of (length l.fn.codes)) (length l.fn.codes) l.bytes;
}
