-- The clauses of the law are lemmas.
use Rattle.bitpacking.proofs.ForCallers.{one_layout_places, one_layout_bytes, one_layout_codes}
use Rattle.bitpacking.proofs.laws.one_layout.Goals as goal

pub returns-clause-places : goal.returns-clause-places
returns-clause-places c = one_layout_places

pub returns-clause-bytes : goal.returns-clause-bytes
returns-clause-bytes c = one_layout_bytes

pub returns-clause-codes : goal.returns-clause-codes
returns-clause-codes c = one_layout_codes
