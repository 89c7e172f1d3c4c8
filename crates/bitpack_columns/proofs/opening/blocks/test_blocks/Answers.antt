-- What the sizes and the ends say when they have no fault.
use Rattle.std.proofs.Common.{arith}
use Rattle.bitpack_columns.specs.Faults.{end_fault}
use Rattle.bitpack_columns.proofs.OpeningLaws.{has_entries, some_sizes}
use Rattle.bitpack_columns.proofs.SoundLaws.{end_right, first_of-none}
use Rattle.bitpack_columns.proofs.opening.blocks.test_blocks.Goals as goal

pub bodies_start-requires-clause-some : goal.bodies_start-requires-clause-some
bodies_start-requires-clause-some c = some_sizes c.args.rest.now c.in_ok-test_sizes.ensures

pub test_ends-requires : goal.test_ends-requires
test_ends-requires c = has_entries c.args.blocks c.args.rest.now c.in_ok-test_sizes.ensures (omega (arith, c.bodies_start.ensures, c.if-rest-bodies_start.false))

pub test_least-requires : goal.test_least-requires
test_least-requires c = has_entries c.args.blocks c.args.rest.now c.in_ok-test_sizes.ensures (omega (arith, c.bodies_start.ensures, c.if-rest-bodies_start.false))

pub tail_start-requires-clause-some : goal.tail_start-requires-clause-some
tail_start-requires-clause-some c = λ some.
    has_entries c.args.blocks c.args.rest.now c.in_ok-test_sizes.ensures (omega (arith, c.bodies_start.ensures, c.if-rest-bodies_start.false))

pub test_bodies_of-requires-clause-bodies : goal.test_bodies_of-requires-clause-bodies
test_bodies_of-requires-clause-bodies c = record {
  entries = has_entries c.args.blocks c.args.rest.now c.in_ok-test_sizes.ensures (omega (arith, c.bodies_start.ensures, c.if-rest-bodies_start.false));
  rising = λ m lt. (end_right c.args.rest.now m (first_of-none (end_fault c.args.rest.now) c.args.blocks c.in_ok-test_ends.ensures m lt)).0;
  narrow = λ m lt. (end_right c.args.rest.now m (first_of-none (end_fault c.args.rest.now) c.args.blocks c.in_ok-test_ends.ensures m lt)).1;
  room = omega (arith, c.tail_start.ensures, c.if-rest-tail_start.false);
}
