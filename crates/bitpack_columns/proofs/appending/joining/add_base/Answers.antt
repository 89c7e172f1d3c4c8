-- No sum wraps.
use Rattle.std.proofs.Common.{◌∙◌}
use Rattle.bitpack_columns.proofs.JoinLaws.{raised_is}
use Rattle.bitpack_columns.proofs.appending.joining.add_base.Goals as goal

pub returns-clause-ok : goal.returns-clause-ok
returns-clause-ok c = c.to_values.ensures ∙ raised_is c.args.base c.args.values.now c.in_ok-test_raised.ensures
