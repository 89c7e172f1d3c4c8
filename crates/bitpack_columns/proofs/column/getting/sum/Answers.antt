-- Codes up to the last are added, and those after it are 0.
use Rattle.std.proofs.Common.{ℕ, arith}
use Rattle.bitpack_columns.proofs.ValueLaws.{masked-next}
use Rattle.bitpack_columns.proofs.column.getting.sum.Goals as goal

pub loop-index-preserved : goal.loop-index-preserved
loop-index-preserved c =
    let index : ℕ = c.loop-index.index in
    record {
      value =
          masked-next c.args.before c.loop-index.value index c.args.last _ c.args.codes.now (omega arith) (omega arith)
          (c.masks_up_to-masks.ensures.all index) (λ after. c.masks_up_to-masks.ensures.none index after c.loop-index-test.true) c.loop-index.invariant.value;
    }
