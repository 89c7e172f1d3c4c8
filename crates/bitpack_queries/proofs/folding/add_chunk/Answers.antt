-- High bytes that are new are cleared before, or only shared ones are combined.
use Rattle.std.proofs.Common.{◌≡◌, ◌/◌, ◌&&◌, ℕ, Bool, false, List, ap, sym, ◌∙◌, arith}
use Rattle.bitpack_slices.specs.Bitmaps.{has_bit}
use Rattle.bitpack_sets.specs.Chunks.{lows_between}
use Rattle.bitpack_queries.specs.Folds.{has_number}
use Rattle.bitpack_slices.specs.Operations.{apply}
use Rattle.bitpack_slices.specs.Reads.{has}
use Rattle.bitpack_queries.proofs.lemmas.two.LoneLaws.{first_kept, none_between}
use Rattle.bitpack_queries.proofs.lemmas.two.AnswerLaws.{listed_has, listed_rise}
use Rattle.bitpack_queries.proofs.lemmas.many.FoldLaws.{cut_has, joined_has, no_high}
use Rattle.bitpack_queries.proofs.folding.add_chunk.Goals as goal
use Rattle.bitpack_queries.proofs.folding.add_chunk.Goals.{then-retains_right, else-retains_right}

pub clear_highs-requires : goal.clear_highs-requires
clear_highs-requires c = listed_rise _ _ c.unpack_bits-count.ensures.values

-- without an id in the set all stay
pub returns-then-retains_left : goal.returns-then-retains_left
returns-then-retains_left c x small =
    let now : Bool = has_number c.args.highs.now c.args.words.now x in
    sym (ap (λ (l : List ℕ). apply c.args.operation now (has x l)) (none_between c.args.set.now c.args.position c.args.end c.if-position-end.true)
    ∙ first_kept c.args.operation now (sym c.retains_left.ensures ∙ c.if-retains_left.true))

pub returns : goal.returns
unfolding has_number
returns c x small =
    let lows : List ℕ = lows_between c.args.set.now c.args.position c.args.end in
    let next = c.next_highs.ensures (x / 256) (omega arith) in
    let none : has_bit c.highs-own.result (x / 256) ≡ false → has x lows ≡ false = λ e. no_high x lows (sym (c.highs-own.ensures (x / 256) (omega arith)) ∙ e) in
    elim c.if-retains_right.branch [
      | then-retains_right w ↦
          ap (λ (ws : List ℕ). has_bit c.next_highs.result (x / 256) && has_bit ws x) w.words-is
          ∙ joined_has c.args.operation (has_bit c.args.highs.now (x / 256)) (has_bit c.highs-own.result (x / 256)) (has_bit c.args.words.now x) (has_bit w.clear_highs.new.words x)
          (has_bit w.combine_words.new.words x) (has x lows) (has_bit c.next_highs.result (x / 256)) (sym c.retains_right.ensures ∙ w.if-retains_right.true) next none
          (λ e. w.clear_highs.ensures.own x small (listed_has _ _ (x / 256) w.unpack_bits-count.ensures.values (omega arith) ∙ w.combined_words.ensures (x / 256) (omega arith) ∙ e))
          (λ e. w.clear_highs.ensures.rest x small (listed_has _ _ (x / 256) w.unpack_bits-count.ensures.values (omega arith) ∙ w.combined_words.ensures (x / 256) (omega arith) ∙ e))
          (w.combine_words.ensures.own x small) (w.combine_words.ensures.rest x small)
      | else-retains_right w ↦
          ap (λ (ws : List ℕ). has_bit c.next_highs.result (x / 256) && has_bit ws x) w.words-is
          ∙ cut_has c.args.operation (has_bit c.args.highs.now (x / 256)) (has_bit c.highs-own.result (x / 256)) (has_bit c.args.words.now x)
          (has_bit w.combine_words-else-retains_right.new.words x) (has x lows) (has_bit c.next_highs.result (x / 256)) (sym c.retains_right.ensures ∙ w.if-retains_right.false) next none
          (λ e. w.combine_words-else-retains_right.ensures.own x small (w.combined_words-shared.ensures (x / 256) (omega arith) ∙ e))
          (λ e. w.combine_words-else-retains_right.ensures.rest x small (w.combined_words-shared.ensures (x / 256) (omega arith) ∙ e))
    ]
