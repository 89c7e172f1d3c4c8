-- One id more is shifted.
use Rattle.std.proofs.Common.{ℕ, ◌+◌, ◌-◌, ◌∙◌, ap, get_or, set, arith}
use Rattle.std.proofs.lemmas.List.{get_or_default}
use Rattle.std.proofs.lemmas.List.Edits.{map_over_more}
use Rattle.bitpack_queries.proofs.shifting.shift_ids.Goals as goal

pub loop-index-preserved : goal.loop-index-preserved
loop-index-preserved c =
    let id : ℕ = get_or c.loop-index.own c.loop-index.index 0 in
    ap (set c.loop-index.own c.loop-index.index) c.after.ensures
    ∙ map_over_more (λ id. id + c.args.shift.up - c.args.shift.down) c.args.own.now c.loop-index.own c.loop-index.index id c.loop-index-test.true
    c.loop-index.invariant (get_or_default c.loop-index.own c.loop-index.index 0 id (omega arith))
