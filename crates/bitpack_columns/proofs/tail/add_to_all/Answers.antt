-- One code more has the base added.
use Rattle.std.proofs.Common.{ℕ, ◌+◌, ◌%◌, ◌^◌, get_or, arith}
use Rattle.std.proofs.lemmas.List.{get_or_default}
use Rattle.std.proofs.lemmas.List.Edits.{map_over_more}
use Rattle.bitpack_columns.proofs.tail.add_to_all.Goals as goal

pub loop-index-preserved : goal.loop-index-preserved
loop-index-preserved c =
    let code : ℕ = get_or c.loop-index.codes c.loop-index.index 0 in
    map_over_more (λ code. (c.args.base + code) % 2 ^ 32) c.args.codes.now c.loop-index.codes c.loop-index.index code c.loop-index-test.true
    c.loop-index.invariant (get_or_default c.loop-index.codes c.loop-index.index 0 code (omega arith))
