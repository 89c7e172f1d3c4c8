-- One number more is written.
use Rattle.std.proofs.Common.{◌∙◌, ◌+◌, ◌++◌, ◌∷◌, [], List, ℕ, ap, arith, length-set, sym}
use Rattle.std.proofs.lemmas.List.{take_more_set}
use Rattle.bitpack_slices.proofs.lemmas.bits.BitmapLaws.{range_cat}
use Rattle.bitpack_slices.proofs.chunk.runs.fill_range.Goals as goal

pub loop-index-preserved : goal.loop-index-preserved
loop-index-preserved c =
    let size = c.loop-index.invariant.size in
    record {
      size = length-set c.loop-index.out _ _ ∙ size;
      values = take_more_set c.loop-index.out c.loop-index.index (c.args.first + c.loop-index.index) (omega arith)
          ∙ ap (λ (l : List ℕ). l ++ (c.args.first + c.loop-index.index) ∷ []) c.loop-index.invariant.values ∙ sym (range_cat c.args.first c.loop-index.index 1);
    }
