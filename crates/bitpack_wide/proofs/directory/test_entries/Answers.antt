-- One high word more.
use Rattle.std.proofs.lemmas.Result.{err_from_is_err_and}
use Rattle.bitpack_wide.specs.Faults.{entry_fault}
use Rattle.bitpack_wide.proofs.EntryLaws.{first_found, first_more, first_start}
use Rattle.bitpack_wide.proofs.directory.test_entries.Goals as goal

pub loop-word-init : goal.loop-word-init
loop-word-init c = first_start (entry_fault c.args.count c.args.words c.args.rest.now)

pub returns-in_err-test_entry : goal.returns-in_err-test_entry
returns-in_err-test_entry c =
    let found = first_found (entry_fault c.args.count c.args.words c.args.rest.now) c.args.words c.loop-word.word _ c.loop-word-test.true c.loop-word.invariant c.in_err-test_entry.ensures in
    let p = err_from_is_err_and c.from_residual.result c.from_residual.ensures.1 in
    rw (p.1, p.2) found

pub loop-word-preserved : goal.loop-word-preserved
loop-word-preserved c = first_more (entry_fault c.args.count c.args.words c.args.rest.now) c.loop-word.word c.loop-word.invariant c.in_ok-test_entry.ensures
