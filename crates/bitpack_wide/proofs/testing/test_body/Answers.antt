-- The body is cut from the rest.
use Rattle.std.proofs.Common.{◌-◌, arith, ◌∙◌, sym}
use Rattle.bitpack_wide.proofs.EntryLaws.{body_cut, body_end, body_right, body_wrong}
use Rattle.bitpack_wide.proofs.testing.test_body.Goals as goal

pub slice_bounds-is_set-end : goal.slice_bounds-is_set-end
slice_bounds-is_set-end c =
    let fits = body_end c.args.count c.args.words c.args.word c.args.rest.now c.requires.entries c.requires.room c.requires.within in
    omega (arith, c.bodies_start-start.ensures, c.end_at-end.ensures)

pub returns-then-is_set : goal.returns-then-is_set
returns-then-is_set c =
    body_right c.args.words c.args.word (c.sum_at.result - c.count_before.result) c.args.rest.now _
    (body_cut c.args.words c.args.word c.bodies_start-start.result c.begin_at-begin.result c.end_at-end.result c.args.rest.now c.bodies_start-start.ensures c.begin_at-begin.ensures c.end_at-end.ensures)
    (let e = c.sum_at.ensures in let f = c.count_before.ensures in omega arith) (sym c.if-is_set.true ∙ c.is_set.ensures)

pub returns : goal.returns
returns c =
    body_wrong c.args.words c.args.word (c.sum_at.result - c.count_before.result) c.args.rest.now _
    (body_cut c.args.words c.args.word c.bodies_start-start.result c.begin_at-begin.result c.end_at-end.result c.args.rest.now c.bodies_start-start.ensures c.begin_at-begin.ensures c.end_at-end.ensures)
    (let e = c.sum_at.ensures in let f = c.count_before.ensures in omega arith) (sym c.if-is_set.false ∙ c.is_set.ensures)
