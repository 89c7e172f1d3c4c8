-- One word more.
use Rattle.std.proofs.Common.{◌∙◌, arith, length-set, ℕ}
use Rattle.bitpack_slices.proofs.ForCallers.{changes}
use Rattle.bitpack_slices.specs.Bitmaps.{has_bit}
use Rattle.bitpack_roaring.proofs.ChangeLaws.{bounds_found, changes_more, first_word, later_word}
use Rattle.bitpack_roaring.proofs.changes.find_changes.Goals as goal

pub loop-index-init : goal.loop-index-init
loop-index-init c =
    let long = c.told-found in
    record {
      some = omega arith;
      long = length-set c.args.found.now 0 _ ∙ long;
      are = λ q lt. changes_more (changes (has_bit c.args.words.now)) c.args.found.now 0 _ q (omega arith) (first_word c.args.words.now) (λ k less. absurd (omega arith)) (omega arith);
    }

pub loop-index-preserved : goal.loop-index-preserved
loop-index-preserved c =
    let words = c.args.words.now in
    let i : ℕ = c.loop-index.index in
    let long = c.loop-index.invariant.long in
    let some = c.loop-index.invariant.some in
    record {
      some = omega arith;
      long = length-set c.loop-index.found i _ ∙ long;
      are = λ q lt. changes_more (changes (has_bit words)) c.loop-index.found i _ q (omega arith) (later_word words i _ some c.highest_bit.ensures) c.loop-index.invariant.are lt;
    }

pub returns : goal.returns
returns c = let end = c.loop-index-test.false in bounds_found c.args.words.now c.loop-index.found (λ q lt. c.loop-index.invariant.are q (omega arith))
