-- One key more is combined.
use Rattle.std.proofs.Common.{◌+◌, ◌*◌, ℕ, Bool, List, [], get_or, ap, sym, ◌∙◌, arith}
use Rattle.std.proofs.lemmas.List.{get_or-set_other, length-set}
use Rattle.bitpack_sets.specs.Chunks.{ids_from, lows_between}
use Rattle.bitpack_queries.specs.Folds.{found, has_number, joined}
use Rattle.bitpack_slices.specs.Reads.{has}
use Rattle.bitpack_queries.proofs.lemmas.many.KeysLaws.{done_more}
use Rattle.bitpack_queries.proofs.folding.add_chunks.Goals as goal
use Rattle.bitpack_queries.proofs.folding.add_chunks.Goals.{then-takes, else-takes}

pub loop-k-preserved : goal.loop-k-preserved
loop-k-preserved c =
    let inv = c.loop-k.invariant in
    let passed = c.end-end.ensures.passed in
    let highs_long = inv.highs_long in
    let words_long = inv.words_long in
    elim c.if-takes.branch [
      | then-takes w ↦ rw (w.highs-is, w.words-is) (record {
        within = c.end-end.ensures.within;
        least = omega arith;
        ids = λ x h. inv.ids x (omega arith) ∙ c.end-end.ensures.others x (omega arith);
        highs_long = length-set c.loop-k.highs c.loop-k.k _ ∙ inv.highs_long;
        words_long = length-set c.loop-k.words c.loop-k.k _ ∙ inv.words_long;
        done = done_more c.args.takes c.args.operation c.loop-k.highs c.loop-k.words c.args.highs.now c.args.words.now w.take_chunk.new.highs w.take_chunk.new.words
            (ids_from c.chunks_of-chunks.result 0) (lows_between c.chunks_of-chunks.result c.loop-k.position c.end-end.result) c.args.base c.loop-k.k (omega arith) (omega arith) inv.done
            (inv.highs_rest c.loop-k.k (omega arith)) (inv.words_rest c.loop-k.k (omega arith))
            (λ x h. w.take_chunk.ensures x h ∙ ap (λ (b : Bool). joined b c.args.operation (has_number (get_or c.loop-k.highs c.loop-k.k []) (get_or c.loop-k.words c.loop-k.k []) x) (has x (lows_between c.chunks_of-chunks.result c.loop-k.position c.end-end.result))) (sym w.if-takes.true)) (λ x e. inv.ids x (omega arith) ∙ c.end-end.ensures.own x e);
        highs_rest = λ j h. get_or-set_other c.loop-k.highs c.loop-k.k j _ [] (λ e. omega arith) ∙ inv.highs_rest j (omega arith);
        words_rest = λ j h. get_or-set_other c.loop-k.words c.loop-k.k j _ [] (λ e. omega arith) ∙ inv.words_rest j (omega arith);
      })
      | else-takes w ↦ rw (w.highs-is, w.words-is) (record {
        within = c.end-end.ensures.within;
        least = omega arith;
        ids = λ x h. inv.ids x (omega arith) ∙ c.end-end.ensures.others x (omega arith);
        highs_long = length-set c.loop-k.highs c.loop-k.k _ ∙ inv.highs_long;
        words_long = length-set c.loop-k.words c.loop-k.k _ ∙ inv.words_long;
        done = done_more c.args.takes c.args.operation c.loop-k.highs c.loop-k.words c.args.highs.now c.args.words.now w.add_chunk.new.highs w.add_chunk.new.words
            (ids_from c.chunks_of-chunks.result 0) (lows_between c.chunks_of-chunks.result c.loop-k.position c.end-end.result) c.args.base c.loop-k.k (omega arith) (omega arith) inv.done
            (inv.highs_rest c.loop-k.k (omega arith)) (inv.words_rest c.loop-k.k (omega arith))
            (λ x h. w.add_chunk.ensures x h ∙ ap (λ (b : Bool). joined b c.args.operation (has_number (get_or c.loop-k.highs c.loop-k.k []) (get_or c.loop-k.words c.loop-k.k []) x) (has x (lows_between c.chunks_of-chunks.result c.loop-k.position c.end-end.result))) (sym w.if-takes.false)) (λ x e. inv.ids x (omega arith) ∙ c.end-end.ensures.own x e);
        highs_rest = λ j h. get_or-set_other c.loop-k.highs c.loop-k.k j _ [] (λ e. omega arith) ∙ inv.highs_rest j (omega arith);
        words_rest = λ j h. get_or-set_other c.loop-k.words c.loop-k.k j _ [] (λ e. omega arith) ∙ inv.words_rest j (omega arith);
      })
    ]

pub returns-clause-own : goal.returns-clause-own
returns-clause-own c i small =
    let past = c.loop-k-test.false in
    c.loop-k.invariant.done i (omega arith) ∙ ap (λ (xs : List ℕ). joined c.args.takes c.args.operation (found c.args.highs.now c.args.words.now i) (has (c.args.base * 65536 + i) xs)) c.chunks_of-chunks.ensures.ids
