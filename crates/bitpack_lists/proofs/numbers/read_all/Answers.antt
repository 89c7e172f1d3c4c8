-- One word more is read from its four bytes.
use Rattle.std.proofs.Common.{◌≡◌, ◌*◌, ◌<◌, ◌++◌, ◌∷◌, [], ℕ, List, length, take, get_or, ◌∙◌, ap, append_assoc, arith, add-one}
use Rattle.std.proofs.Math.Seq.{take-suc}
use Rattle.std.proofs.lemmas.List.{take_all}
use Rattle.bitpacking.specs.Words.{word}
use Rattle.bitpacking.proofs.ForCallers.{length-bytes_of_words, words_read_back}
use Rattle.bitpack_lists.proofs.lemmas.blocks.PartLemmas.{word-drop}
use Rattle.bitpack_lists.proofs.numbers.read_all.Goals as goal

pub loop-index-preserved : goal.loop-index-preserved
loop-index-preserved c =
    let i : ℕ = c.loop-index.index in
    let old : List ℕ = c.args.out.now.items in
    record {
      items = λ values words e.
          let long : length c.args.bytes.now ≡ 4 * length values = ap length e ∙ length-bytes_of_words values in
          let lt : i < length values = omega arith in
          let one : c.read_one.result ≡ get_or values i 0 =
          c.read_one.ensures ∙ word-drop c.args.bytes.now i ∙ ap (λ zs. word zs i) e ∙ words_read_back values i words lt in
          rw (c.push_reserved.ensures.items, one, add-one, take-suc values i 0 lt)
          (ap (λ zs. zs ++ get_or values i 0 ∷ []) (c.loop-index.invariant.items values words e)
          ∙ append_assoc old (take i values) (get_or values i 0 ∷ []));
      room = omega arith;
    }

pub returns : goal.returns
returns c = record {
  items = λ values words e.
      let long : length c.args.bytes.now ≡ 4 * length values = ap length e ∙ length-bytes_of_words values in
      let all : take c.loop-index.index values ≡ values = take_all c.loop-index.index values (omega arith) in
      rw all at (c.loop-index.invariant.items values words e);
}
