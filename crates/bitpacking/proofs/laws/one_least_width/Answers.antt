-- The clauses of the law are lemmas.
use Rattle.bitpacking.proofs.ForCallers.{one_least_width, fits_greater}
use Rattle.bitpacking.proofs.laws.one_least_width.Goals as goal

pub returns-clause-least : goal.returns-clause-least
returns-clause-least c = one_least_width

pub returns-clause-greater : goal.returns-clause-greater
returns-clause-greater c = fits_greater
