-- One id more.
use Rattle.std.proofs.Common.{◌≡◌, ◌-◌, ◌/◌, ◌^◌, ℕ, List, [], ap, refl, ◌∙◌, get_or, length, arith, rules, sym}
use Rattle.std.proofs.lemmas.List.{nil_from_length}
use Rattle.bitpack_slices.specs.Bodies.{parts}
use Rattle.bitpack_sets.proofs.ForCallers.{counted_done, counted_next, counted_start, step_few}
use Rattle.bitpack_wide.proofs.WrittenLaws.{low_more, low_start}
use Rattle.bitpack_wide.proofs.encoding.order.split_words.Goals as goal

pub loop-index-init : goal.loop-index-init
loop-index-init c = record {
  rises = λ e k lt. absurd (omega arith);
  few = omega arith;
  counted = counted_start (2 ^ 32) c.args.ids.now;
  filled = low_start c.args.ids.now c.args.lows.now (omega arith) c.requires.size;
}

pub overflow_add-words : goal.overflow_add-words
overflow_add-words c =
    let one = step_few (get_or c.args.ids.now c.loop-index.index 0 / 2 ^ 32) (get_or c.args.ids.now (c.loop-index.index - 1) 0 / 2 ^ 32) in
    let few = c.requires.few in
    omega arith

pub loop-index-preserved : goal.loop-index-preserved
loop-index-preserved c =
    let one = step_few (get_or c.args.ids.now c.loop-index.index 0 / 2 ^ 32) (get_or c.args.ids.now (c.loop-index.index - 1) 0 / 2 ^ 32) in
    record {
      rises = search rules;
      few = omega arith;
      counted = counted_next (2 ^ 32) c.loop-index.words c.loop-index.index c.args.ids.now (omega arith) c.loop-index-test.true c.loop-index.invariant.counted;
      filled = low_more c.args.ids.now c.loop-index.lows c.loop-index.index c.loop-index-test.true c.loop-index.invariant.filled;
    }

pub returns-clause-words : goal.returns-clause-words
returns-clause-words c = counted_done (2 ^ 32) c.loop-index.words c.loop-index.index c.args.ids.now (omega arith) (omega arith) c.loop-index.invariant.counted

none_counted : 0 ≡ length (parts (2 ^ 32) [])
unfolding parts
none_counted = refl

pub returns-then-ids-eq0-clause-words : goal.returns-then-ids-eq0-clause-words
returns-then-ids-eq0-clause-words c = none_counted ∙ sym (ap (λ (l : List ℕ). length (parts (2 ^ 32) l)) (nil_from_length c.args.ids.now (omega arith)))
