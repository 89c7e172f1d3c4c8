-- How long numbers and groups can be.
use Rattle.bitpack_groups.proofs.Lengths.{longest_group, longest_groups, longest_number}
use Rattle.bitpack_groups.proofs.laws.longest.Goals as goal

pub returns : goal.returns
returns c = record { number = longest_number; group = longest_group; groups = longest_groups }
