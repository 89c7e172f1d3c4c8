-- One id more.
use Rattle.std.proofs.Common.{◌≡◌, ◌-◌, ◌/◌, ℕ, List, [], ap, refl, ◌∙◌, get_or, length, arith, sym}
use Rattle.std.proofs.lemmas.List.{nil_from_length}
use Rattle.bitpack_slices.specs.Bodies.{parts}
use Rattle.bitpack_sets.proofs.lemmas.written.CountedRuns.{counted_next, step_few}
use Rattle.bitpack_sets.proofs.lemmas.written.FallLaws.{counted_done, counted_start}
use Rattle.bitpack_sets.proofs.encoding.measuring.count_chunks.Goals as goal

pub loop-index-init : goal.loop-index-init
loop-index-init c = record { few = omega arith; counted = counted_start 65536 c.args.ids.now }

pub overflow_add-count : goal.overflow_add-count
overflow_add-count c =
    let one = step_few (get_or c.args.ids.now c.loop-index.index 0 / 65536) (get_or c.args.ids.now (c.loop-index.index - 1) 0 / 65536) in
    let few = c.requires.few in
    omega arith

pub loop-index-preserved : goal.loop-index-preserved
loop-index-preserved c =
    let one = step_few (get_or c.args.ids.now c.loop-index.index 0 / 65536) (get_or c.args.ids.now (c.loop-index.index - 1) 0 / 65536) in
    record {
      few = omega arith;
      counted = counted_next 65536 c.loop-index.count c.loop-index.index c.args.ids.now (omega arith) c.loop-index-test.true c.loop-index.invariant.counted;
    }

pub returns-clause-count : goal.returns-clause-count
returns-clause-count c =
    counted_done 65536 c.loop-index.count c.loop-index.index c.args.ids.now (omega arith) (omega arith) c.loop-index.invariant.counted

none_counted : 0 ≡ length (parts 65536 [])
unfolding parts
none_counted = refl

pub returns-then-ids-eq0-clause-count : goal.returns-then-ids-eq0-clause-count
returns-then-ids-eq0-clause-count c = none_counted ∙ sym (ap (λ (l : List ℕ). length (parts 65536 l)) (nil_from_length c.args.ids.now (omega arith)))
