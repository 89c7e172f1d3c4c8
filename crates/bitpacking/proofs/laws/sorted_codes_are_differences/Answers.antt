-- The law is a lemma.
use Rattle.bitpacking.proofs.ForCallers.{sorted_codes_are_differences}
use Rattle.bitpacking.proofs.laws.sorted_codes_are_differences.Goals as goal

pub returns : goal.returns
returns c = sorted_codes_are_differences
