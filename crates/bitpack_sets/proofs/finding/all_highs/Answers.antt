use Rattle.std.proofs.Common.{◌≡◌, ◌∙◌, ◌+◌, ◌++◌, ℕ, List, [], ◌∷◌, ap, sym, arith, take}
use Rattle.std.specs.List.{range_with_len}
use Rattle.std.proofs.lemmas.List.{length-set, take_all, take_more_set}
use Rattle.bitpack_slices.proofs.ForCallers.{range_cat}
use Rattle.bitpack_sets.proofs.finding.all_highs.Goals as goal

pub loop-high-preserved : goal.loop-high-preserved
loop-high-preserved c =
    let long = c.loop-high.invariant.long in
    let less = c.loop-high-test.true in
    let low : 0 + c.loop-high.high ≡ c.loop-high.high = omega arith in
    record {
      done =
          take_more_set c.loop-high.highs c.loop-high.high c.loop-high.high (omega arith)
          ∙ ap (λ (xs : List ℕ). xs ++ (c.loop-high.high ∷ [])) c.loop-high.invariant.done
          ∙ ap (λ (n : ℕ). range_with_len 0 c.loop-high.high ++ (n ∷ [])) (sym low) ∙ sym (range_cat 0 c.loop-high.high 1);
      long = length-set c.loop-high.highs c.loop-high.high c.loop-high.high ∙ long;
    }

pub returns : goal.returns
returns c =
    let long = c.loop-high.invariant.long in
    let past = c.loop-high-test.false in
    let most = c.loop-high.auto.high-end in
    let end : c.loop-high.high ≡ 256 = omega arith in
    sym (take_all 256 c.loop-high.highs (omega arith)) ∙ sym (ap (λ (n : ℕ). take n c.loop-high.highs) end) ∙ c.loop-high.invariant.done ∙ ap (range_with_len 0) end
