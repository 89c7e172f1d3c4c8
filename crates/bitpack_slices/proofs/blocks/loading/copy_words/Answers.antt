-- One slice more is copied.
use Rattle.std.proofs.Common.{◌≡◌, ◌*◌, ◌+◌, ◌-◌, ◌%◌, ◌∙◌, ap, arith, drop, inl, inr, length, sym, take, ℕ, List}
use Rattle.std.proofs.lemmas.Bool.{cases_eq}
use Rattle.bitpack_groups.proofs.ForCallers.{length-written}
use Rattle.bitpack_slices.proofs.lemmas.bodies.LoadLaws.{bit_own, bit_rest, four_words}
use Rattle.bitpack_slices.proofs.blocks.loading.copy_words.Goals as goal
use Rattle.bitpack_slices.specs.Bitmaps.{has_bit}
use Rattle.bitpack_slices.specs.Reads.{has}
use Rattle.bitpack_slices.specs.Slices.{number_of, ones_from}

pub loop-i-preserved : goal.loop-i-preserved
loop-i-preserved c =
    let size = c.loop-i.invariant.size in
    let n : ℕ = c.loop-i.i in
    let from : ℕ = 4 * n in
    let words : List ℕ = c.loop-i.words in
    let new : List ℕ = c.copy_from_slice.new.self in
    let long : from + 4 - from ≡ 4 = omega arith in
    let four : length new ≡ 4 = c.copy_from_slice.ensures.len ∙ four_words from words (omega arith) in
    let whole : 32 * n + 32 - 32 * n ≡ 32 = omega arith in
    record {
      size = length-written from (from + 4 - from) words new (omega arith) (four ∙ sym long) (omega arith) ∙ size;
      copied = λ high i lt small. elim (cases_eq high n) [
        | inl same ↦ (
            let place : (256 * high + i) % 256 ≡ i = omega arith in
            bit_own from (from + 4 - from) n (256 * high + i) words new (omega arith) long four (omega arith) (omega arith)
            ∙ ap (has_bit new) place ∙ ap (λ (l : List ℕ). has_bit l i) c.copy_from_slice.ensures.after ∙ c.words_of-bits.ensures i small
            ∙ ap (λ (k : ℕ). has i (ones_from (number_of (take k (drop (32 * n) c.args.bytes.now))) 0 256)) whole
            ∙ ap (λ (k : ℕ). has i (ones_from (number_of (take 32 (drop (32 * k) c.args.bytes.now))) 0 256)) (sym same))
        | inr other ↦
            bit_rest from (from + 4 - from) n (256 * high + i) words new (omega arith) long four (omega arith) (λ e. other (omega arith))
            ∙ c.loop-i.invariant.copied high i (omega arith) small
      ];
    }

pub returns : goal.returns
returns c high i lt small = c.loop-i.invariant.copied high i (omega arith) small
