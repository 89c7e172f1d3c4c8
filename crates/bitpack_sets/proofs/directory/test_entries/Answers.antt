-- One chunk more.
use Rattle.std.proofs.lemmas.Result.{err_from_is_err_and}
use Rattle.bitpack_sets.specs.Faults.{entry_fault}
use Rattle.bitpack_sets.proofs.lemmas.faults.EntryLaws.{first_found, first_more, first_start}
use Rattle.bitpack_sets.proofs.directory.test_entries.Goals as goal

pub loop-chunk-init : goal.loop-chunk-init
loop-chunk-init c = first_start (entry_fault c.args.count c.args.chunks c.args.rest.now)

pub returns-in_err-test_entry : goal.returns-in_err-test_entry
returns-in_err-test_entry c =
    let found = first_found (entry_fault c.args.count c.args.chunks c.args.rest.now) c.args.chunks c.loop-chunk.chunk _ c.loop-chunk-test.true c.loop-chunk.invariant c.in_err-test_entry.ensures in
    let p = err_from_is_err_and c.from_residual.result c.from_residual.ensures.1 in
    rw (p.1, p.2) found

pub loop-chunk-preserved : goal.loop-chunk-preserved
loop-chunk-preserved c = first_more (entry_fault c.args.count c.args.chunks c.args.rest.now) c.loop-chunk.chunk c.loop-chunk.invariant c.in_ok-test_entry.ensures
