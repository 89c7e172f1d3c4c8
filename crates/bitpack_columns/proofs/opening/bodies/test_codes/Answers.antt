-- A plain block has no position out of order.
use Rattle.std.proofs.Common.{◌*◌}
use Rattle.bitpack_columns.proofs.OpeningLaws.{out_plain}
use Rattle.bitpack_columns.proofs.opening.bodies.test_codes.Goals as goal

pub returns-in_ok-test_plain-in-Plain-clause-out : goal.returns-in_ok-test_plain-in-Plain-clause-out
returns-in_ok-test_plain-in-Plain-clause-out c = rw c.in-Plain.is (out_plain (128 * c.args.block.index) c.args.block.before _)
