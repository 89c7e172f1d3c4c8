-- The bits of the high byte are cleared before, if it does not occur.
use Rattle.std.proofs.Common.{◌/◌, ◌||◌, ◌==◌, ℕ, Bool, List, false, eq-eqb, ap, sym, ◌∙◌}
use Rattle.std.proofs.lemmas.Bool.{ne_eqb}
use Rattle.bitpack_slices.specs.Bitmaps.{has_bit}
use Rattle.bitpack_queries.specs.Folds.{has_number}
use Rattle.bitpack_queries.proofs.lemmas.many.KeysLaws.{insert_new, insert_old}
use Rattle.bitpack_queries.proofs.folding.insert.Goals as goal
use Rattle.bitpack_queries.proofs.folding.insert.Goals.{then-not-test_bit, else-not-test_bit}

pub returns : goal.returns
returns c x small = elim c.if-not-test_bit.branch [
  | then-not-test_bit w ↦
      ap (λ (hs : List ℕ). has_number hs c.set_bit-2.new.words x) w.highs-is
      ∙ insert_new c.args.low x c.args.highs.now w.set_bit.new.words c.args.words.now c.if-not-test_bit.words c.set_bit-2.new.words (sym c.test_bit.ensures ∙ w.if-not-test_bit.true)
      w.set_bit.ensures
      (λ same. ap (λ (ws : List ℕ). has_bit ws x) w.words-is ∙ w.clear_highs.ensures.own x small (ap (λ (b : Bool). b || false) (eq-eqb (c.args.low / 256) (x / 256) (sym same))))
      (λ apart. ap (λ (ws : List ℕ). has_bit ws x) w.words-is ∙ w.clear_highs.ensures.rest x small (ap (λ (b : Bool). b || false) (ne_eqb (c.args.low / 256) (x / 256) (λ e. apart (sym e)))))
      (c.set_bit-2.ensures x)
  | else-not-test_bit w ↦
      ap (λ (hs : List ℕ). has_number hs c.set_bit-2.new.words x) w.highs-is
      ∙ insert_old c.args.low x c.args.highs.now c.args.words.now c.set_bit-2.new.words (sym c.test_bit.ensures ∙ w.if-not-test_bit.false)
      (c.set_bit-2.ensures x ∙ ap (λ (ws : List ℕ). (x == c.args.low) || has_bit ws x) w.words-is)
]
