-- The directory says where the parts are.
use Rattle.std.proofs.Common.{ℕ, subst}
use Rattle.bitpack_wide.specs.WideColumnSound.{HasParts}
use Rattle.bitpack_wide.proofs.WideTables.{has_parts}
use Rattle.bitpack_wide.proofs.wide_column.opening.test_rest.Goals as goal

pub test_missing-requires-clause-parts : goal.test_missing-requires-clause-parts
test_missing-requires-clause-parts c =
    subst (λ (n : ℕ). HasParts n c.args.rest.now) c.chunks_of.ensures.chunks (has_parts c.chunks_of.result c.args.rest.now c.in_ok-test_directory.ensures)

pub test_chunks-requires-clause-parts : goal.test_chunks-requires-clause-parts
test_chunks-requires-clause-parts c =
    subst (λ (n : ℕ). HasParts n c.args.rest.now) c.chunks_of.ensures.chunks (has_parts c.chunks_of.result c.args.rest.now c.in_ok-test_directory.ensures)
