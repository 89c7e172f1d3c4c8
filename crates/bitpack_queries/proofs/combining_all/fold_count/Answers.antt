-- The ids of several keys more are counted.
use Rattle.std.proofs.Common.{◌+◌, ◌*◌, ◌/◌, ◌^◌, ℕ, length, map, ap, arith, refl}
use Rattle.std.proofs.lemmas.List.{length-map}
use Rattle.bitpack_queries.specs.Folds.{found, swapped}
use Rattle.bitpack_queries.specs.Operations.{folded}
use Rattle.bitpack_slices.specs.Reads.{has}
use Rattle.bitpack_queries.proofs.lemmas.two.AnswerLaws.{counted_all}
use Rattle.bitpack_slices.proofs.ForCallers.{those_few}
use Rattle.bitpack_queries.proofs.lemmas.many.HeldLaws.{later_held, none_held}
use Rattle.bitpack_queries.proofs.lemmas.many.KeysLaws.{all_left, keys_counted, keys_first, none_from}
use Rattle.bitpack_queries.proofs.combining_all.fold_count.Goals as goal

pub loop-base-init : goal.loop-base-init
loop-base-init g c =
    let f = g.S.AsSet.its_ids in
    let long = length-map c.args.sets.now f in
    let within = c.first_of-first.ensures.within in
    let all = ap length (all_left c.args.operation c.first_of-first.result (map f c.args.sets.now) (omega arith) c.first_of-first.ensures.may) in
    record { most = omega arith; whole = refl; held = none_held 16384 0 (swapped c.first_of-first.result (map f c.args.sets.now)); counted = record { rest = omega arith } }

pub overflow_add-count : goal.overflow_add-count
overflow_add-count g c =
    let f = g.S.AsSet.its_ids in
    let rest = c.loop-base.invariant.counted.rest in
    let all = those_few (2 ^ 32) (λ (x : ℕ). folded c.args.operation (map (has x) (map f c.args.sets.now))) in
    let few = those_few 524288 (found c.combine_keys-next.new.highs c.combine_keys-next.new.words) in
    let more = c.count_keys-count.ensures in
    record { fits = omega arith }

pub loop-base-preserved : goal.loop-base-preserved
loop-base-preserved g c =
    let inv = c.loop-base.invariant in
    let f = g.S.AsSet.its_ids in
    let next = c.combine_keys-next.ensures in
    let least = next.later in
    let last = next.most in
    let whole = inv.whole in
    let under = c.loop-base-test.true in
    record {
      most = omega arith;
      whole = omega arith;
      held = later_held c.combine_keys-next.new.held (c.loop-base.base + 8) (c.combine_keys-next.result / 8 * 8) (swapped c.first_of-first.result (map f c.args.sets.now)) (omega arith) next.held;
      counted = keys_counted c.loop-base.count (c.loop-base.count + c.count_keys-count.result) c.loop-base.base c.combine_keys-next.new.highs c.combine_keys-next.new.words _ _ _ inv.counted
          (keys_first c.args.operation c.first_of-first.result c.loop-base.base (c.combine_keys-next.result / 8 * 8) c.combine_keys-next.result (map f c.args.sets.now)
          c.combine_keys-next.new.highs c.combine_keys-next.new.words (omega arith) (omega arith) (omega arith) next.own next.none)
          (ap (λ (n : ℕ). c.loop-base.count + n) c.count_keys-count.ensures);
    }

pub returns : goal.returns
returns g c =
    let past = c.loop-base-test.false in
    counted_all _ _ _ c.loop-base.invariant.counted (none_from c.args.operation c.first_of-first.result c.loop-base.base (map g.S.AsSet.its_ids c.args.sets.now) (omega arith))
