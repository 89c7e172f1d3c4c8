-- The laws of numbers.
use Rattle.bitpack_groups.proofs.NumberLaws.{number_reads_back, one_number}
use Rattle.bitpack_groups.proofs.laws.one_number.Goals as goal

pub returns : goal.returns
returns c = record { one = one_number; back = number_reads_back }
