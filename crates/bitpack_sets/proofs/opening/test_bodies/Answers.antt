-- One body more.
use Rattle.std.proofs.Common.{ℕ, List, arith, ◌∙◌}
use Rattle.std.proofs.lemmas.Result.{err_from_is_err_and}
use Rattle.bitpack_sets.specs.Directory.{end_at}
use Rattle.bitpack_sets.specs.Faults.{body_fault_at}
use Rattle.bitpack_sets.proofs.lemmas.faults.EntryLaws.{body_there, ends_grow, first_found, first_more, first_start, grown_to}
use Rattle.bitpack_sets.proofs.opening.test_bodies.Goals as goal

pub slice_bounds-test_body-end : goal.slice_bounds-test_body-end
slice_bounds-test_body-end c =
    let rest : List ℕ = c.args.rest.now in
    let top = grown_to (end_at c.args.chunks rest) c.loop-chunk.chunk c.args.chunks (ends_grow c.args.count c.args.chunks rest c.requires.entries) c.loop-chunk-test.true in
    let room = c.requires.room in
    omega (arith, c.bodies_start-start.ensures, c.end_at-end.ensures)

pub loop-chunk-init : goal.loop-chunk-init
loop-chunk-init c = first_start (body_fault_at c.args.chunks c.args.rest.now)

pub returns-in_err-test_body : goal.returns-in_err-test_body
returns-in_err-test_body c =
    let rest : List ℕ = c.args.rest.now in
    let there = body_there c.args.chunks c.loop-chunk.chunk _ _ c.bodies_start-start.result c.begin_at-begin.result c.end_at-end.result rest c.count_before-position.ensures
    (let e = c.sum_at.ensures in omega arith) c.bodies_start-start.ensures c.begin_at-begin.ensures c.end_at-end.ensures in
    let found = first_found (body_fault_at c.args.chunks rest) c.args.chunks c.loop-chunk.chunk _ c.loop-chunk-test.true c.loop-chunk.invariant (there ∙ c.in_err-test_body.ensures) in
    let p = err_from_is_err_and c.from_residual.result c.from_residual.ensures.1 in
    rw (p.1, p.2) found

pub loop-chunk-preserved : goal.loop-chunk-preserved
loop-chunk-preserved c =
    let rest : List ℕ = c.args.rest.now in
    let there = body_there c.args.chunks c.loop-chunk.chunk _ _ c.bodies_start-start.result c.begin_at-begin.result c.end_at-end.result rest c.count_before-position.ensures
    (let e = c.sum_at.ensures in omega arith) c.bodies_start-start.ensures c.begin_at-begin.ensures c.end_at-end.ensures in
    first_more (body_fault_at c.args.chunks rest) c.loop-chunk.chunk c.loop-chunk.invariant (there ∙ c.in_ok-test_body.ensures)
