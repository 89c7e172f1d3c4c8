-- What the sizes and the entries say when they have no fault.
use Rattle.std.proofs.Common.{arith}
use Rattle.bitpack_wide.specs.Faults.{entry_fault}
use Rattle.bitpack_wide.proofs.EntryLaws.{entry_none, first_none, has_directory, sizes_none}
use Rattle.bitpack_wide.proofs.testing.test_words.Goals as goal

pub bodies_start-start-requires-clause-some : goal.bodies_start-start-requires-clause-some
bodies_start-start-requires-clause-some c = (sizes_none c.args.rest.now c.in_ok-test_sizes.ensures).0

pub test_entries-requires : goal.test_entries-requires
test_entries-requires c = has_directory c.args.words c.args.rest.now c.in_ok-test_sizes.ensures (omega (arith, c.bodies_start-start.ensures, c.if-rest-start.false))

pub test_least-requires-clause-directory : goal.test_least-requires-clause-directory
test_least-requires-clause-directory c = has_directory c.args.words c.args.rest.now c.in_ok-test_sizes.ensures (omega (arith, c.bodies_start-start.ensures, c.if-rest-start.false))

pub begin_at-requires-clause-directory : goal.begin_at-requires-clause-directory
begin_at-requires-clause-directory c = has_directory c.args.words c.args.rest.now c.in_ok-test_sizes.ensures (omega (arith, c.bodies_start-start.ensures, c.if-rest-start.false))

pub test_bodies-requires-clause-directory : goal.test_bodies-requires-clause-directory
test_bodies-requires-clause-directory c = has_directory c.args.words c.args.rest.now c.in_ok-test_sizes.ensures (omega (arith, c.bodies_start-start.ensures, c.if-rest-start.false))

pub test_bodies-requires-clause-entries : goal.test_bodies-requires-clause-entries
test_bodies-requires-clause-entries c = λ m lt.
    entry_none c.args.count c.args.words c.args.rest.now m (first_none (entry_fault c.args.count c.args.words c.args.rest.now) c.args.words c.in_ok-test_entries.ensures m lt)
