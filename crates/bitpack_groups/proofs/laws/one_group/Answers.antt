-- The laws of groups.
use Rattle.bitpack_groups.proofs.GroupLaws.{group_reads_back, one_group, one_group_of_codes}
use Rattle.bitpack_groups.proofs.GroupsLaws.{groups_are_read, groups_read_back, one_run_of_codes}
use Rattle.bitpack_groups.proofs.laws.one_group.Goals as goal

pub returns : goal.returns
returns c = record {
  one = one_group;
  back = group_reads_back;
  codes = one_group_of_codes;
  run = groups_are_read;
  run_back = groups_read_back;
  run_codes = one_run_of_codes;
}
