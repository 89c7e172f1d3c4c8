-- The tests of a container, one after the other.
use Rattle.std.proofs.Common.{◌∙◌, ℕ, ap, leb, refl, sym}
use Rattle.std.proofs.lemmas.Result.{err_from_is_err_and}
use Rattle.bitpack_roaring.proofs.FaultSteps.{body_size, key_found, numbers_there, offset_found, short_found}
use Rattle.bitpack_roaring.proofs.testing.test_container.Goals as goal

pub returns-then-key_falls-clause-fault : goal.returns-then-key_falls-clause-fault
returns-then-key_falls-clause-fault c =
    key_found c.args.head.bytes.now c.args.container c.args.start c.requires.start (sym c.key_falls.ensures ∙ c.if-key_falls.true)

pub returns-then-has_other_offset-clause-fault : goal.returns-then-has_other_offset-clause-fault
returns-then-has_other_offset-clause-fault c =
    offset_found c.args.head.bytes.now c.args.container c.args.start c.requires.start (sym c.key_falls.ensures ∙ c.if-key_falls.false)
    (sym c.has_other_offset.ensures ∙ c.if-has_other_offset.true)

pub returns-in_default-clause-fault : goal.returns-in_default-clause-fault
returns-in_default-clause-fault c =
    short_found c.args.head.bytes.now c.args.container c.args.start c.requires.start (sym c.key_falls.ensures ∙ c.if-key_falls.false)
    (sym c.has_other_offset.ensures ∙ c.if-has_other_offset.false) (c.in_default.ensures.short refl)

pub test_numbers-requires-clause-runs : goal.test_numbers-requires-clause-runs
test_numbers-requires-clause-runs c runs =
    let sizes = body_size c.args.head.bytes.now c.args.container c.args.start c.requires.start c.in-Some.end c.in-Some.ensures.end c.in-Some.ensures.room in
    sizes.0 (sym c.is_run-run.ensures ∙ runs)

pub test_numbers-requires-clause-bits : goal.test_numbers-requires-clause-bits
test_numbers-requires-clause-bits c not_runs many =
    let sizes = body_size c.args.head.bytes.now c.args.container c.args.start c.requires.start c.in-Some.end c.in-Some.ensures.end c.in-Some.ensures.room in
    sizes.1.1 (sym c.is_run-run.ensures ∙ not_runs) (ap (λ (n : ℕ). leb n 4096) (sym c.count-count.ensures.count) ∙ many)

pub returns-in_err-test_numbers-clause-fault : goal.returns-in_err-test_numbers-clause-fault
returns-in_err-test_numbers-clause-fault c =
    let found = numbers_there c.args.head.bytes.now c.args.container c.args.start c.requires.start c.in-Some.end c.in-Some.ensures.end c.in-Some.ensures.room
    c.args.position c.count-count.result c.is_run-run.result c.requires.position c.count-count.ensures.count c.is_run-run.ensures
    (sym c.key_falls.ensures ∙ c.if-key_falls.false) (sym c.has_other_offset.ensures ∙ c.if-has_other_offset.false) ∙ c.in_err-test_numbers.ensures in
    let p = err_from_is_err_and c.from_residual.result c.from_residual.ensures.1 in
    rw (p.1, p.2) found

pub returns-clause-fault : goal.returns-clause-fault
returns-clause-fault c =
    numbers_there c.args.head.bytes.now c.args.container c.args.start c.requires.start c.in-Some.end c.in-Some.ensures.end c.in-Some.ensures.room
    c.args.position c.count-count.result c.is_run-run.result c.requires.position c.count-count.ensures.count c.is_run-run.ensures
    (sym c.key_falls.ensures ∙ c.if-key_falls.false) (sym c.has_other_offset.ensures ∙ c.if-has_other_offset.false) ∙ c.in_ok-test_numbers.ensures
