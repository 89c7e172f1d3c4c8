use Rattle.std.proofs.Common.{List, ℕ, get_or, refl, ap}
use Rattle.bitpack_sets.specs.Faults.{fault, short_fault}
use Rattle.bitpack_sets.specs.Reads.{ids_in}
use Rattle.bitpacking_c.proofs.set_view.no_ids.Goals as goal

pub of_tested-requires : goal.of_tested-requires
unfolding fault short_fault
of_tested-requires c = record { sound = refl }

pub returns-clause-ids : goal.returns-clause-ids
unfolding ids_in
returns-clause-ids c = ap ids_in c.of_tested.ensures.bytes

pub returns-clause-form : goal.returns-clause-form
returns-clause-form c = ap (λ (bytes : List ℕ). get_or bytes 0 0) c.of_tested.ensures.bytes
