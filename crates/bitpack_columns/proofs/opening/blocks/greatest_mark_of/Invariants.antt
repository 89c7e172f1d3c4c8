-- The greatest mark so far.
use Rattle.std.proofs.Common.{◌≡◌}
use Rattle.bitpack_columns.specs.Numbers.{greatest}
use Rattle.bitpack_columns.specs.Reads.{mark_at}
use Rattle.bitpack_columns.proofs.opening.blocks.greatest_mark_of.Given as goal

abbrev pub invariant-loop-block : goal.invariant-loop-block
invariant-loop-block l = l.most ≡ greatest (mark_at l.blocks l.rest) l.block
