-- The law is a lemma.
use Rattle.bitpacking.proofs.ForCallers.{strict_saves_at_most_a_bit}
use Rattle.bitpacking.proofs.laws.strict_saves_at_most_a_bit.Goals as goal

pub returns : goal.returns
returns c = strict_saves_at_most_a_bit
