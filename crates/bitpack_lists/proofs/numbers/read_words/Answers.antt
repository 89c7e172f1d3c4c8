-- Each turn reads one word more.
use Rattle.std.proofs.Common.{◌<◌, ℕ, length, ◌∙◌, arith, inl, inr}
use Rattle.std.proofs.lemmas.Bool.{cases_eq}
use Rattle.std.proofs.lemmas.List.{get_or-set_other, get_or-set_same, length-set}
use Rattle.bitpack_lists.proofs.lemmas.blocks.PartLemmas.{word-drop}
use Rattle.bitpack_lists.proofs.numbers.read_words.Goals as goal

pub loop-index-preserved : goal.loop-index-preserved
loop-index-preserved c =
    let values = c.loop-index.values in
    let i : ℕ = c.loop-index.index in
    let before = c.loop-index.invariant in
    let lt : i < length values = omega (arith, c.loop-index-test.true, before.long) in
    record {
      long = length-set values i c.read_one.result ∙ before.long;
      values = λ k inside. elim (cases_eq k i) [
        | inl same ↦ rw same (get_or-set_same values i c.read_one.result 0 lt ∙ c.read_one.ensures ∙ word-drop c.args.bytes.now i)
        | inr other ↦ get_or-set_other values i k c.read_one.result 0 other ∙ before.values k (omega (arith, other))
      ];
    }
