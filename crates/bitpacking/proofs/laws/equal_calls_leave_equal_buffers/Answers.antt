-- The clauses of the law are lemmas.
use Rattle.bitpacking.proofs.ForCallers.{equal_packed_buffers, equal_unpacked_values}
use Rattle.bitpacking.proofs.laws.equal_calls_leave_equal_buffers.Goals as goal

pub returns-clause-packed : goal.returns-clause-packed
returns-clause-packed c = equal_packed_buffers

pub returns-clause-unpacked : goal.returns-clause-unpacked
returns-clause-unpacked c = equal_unpacked_values
