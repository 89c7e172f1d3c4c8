use Rattle.bitpacking_c.proofs.TermSteps.{zeros_table}
use Rattle.bitpacking_c.proofs.term_view.no_parts.Goals as goal

pub of_tested-requires : goal.of_tested-requires
of_tested-requires c = zeros_table
