-- No block, or blocks without a fault.
use Rattle.std.proofs.Common.{◌/◌}
use Rattle.bitpack_columns.proofs.OpeningLaws.{none_front}
use Rattle.bitpack_columns.proofs.SoundLaws.{blocks_right}
use Rattle.bitpack_columns.proofs.opening.test_rest.Goals as goal

pub test_tail-requires-clause-out : goal.test_tail-requires-clause-out
test_tail-requires-clause-out c = none_front c.args.kind c.args.first (c.args.count / 128) c.args.rest.now c.if-blocks-eq0.true

pub test_tail-requires-2-clause-blocks : goal.test_tail-requires-2-clause-blocks
test_tail-requires-2-clause-blocks c = λ some. (blocks_right c.args.kind c.args.first (c.args.count / 128) c.args.rest.now some c.in_ok-out.ensures.fault).0
