-- The ids of several keys more are written.
use Rattle.std.proofs.Common.{◌+◌, ◌*◌, ◌/◌, ◌^◌, ℕ, length, length-append, map, ap, sym, ◌∙◌, arith, refl}
use Rattle.std.proofs.lemmas.List.{length-map}
use Rattle.bitpack_queries.specs.Folds.{found, ids_of_keys, swapped}
use Rattle.bitpack_slices.specs.Operations.{those}
use Rattle.bitpack_queries.proofs.lemmas.two.AnswerLaws.{counted_so, length_all, written_all}
use Rattle.bitpack_queries.proofs.lemmas.many.HeldLaws.{later_held, none_held}
use Rattle.bitpack_queries.proofs.lemmas.many.KeysLaws.{all_left, keys_first, keys_written, left_from, none_from}
use Rattle.bitpack_queries.proofs.combining_all.fold_to.Goals as goal

pub loop-base-init : goal.loop-base-init
loop-base-init g c =
    let f = g.S.AsSet.its_ids in
    let long = length-map c.args.sets.now f in
    let within = c.first_of-first.ensures.within in
    record {
      most = omega arith;
      whole = refl;
      held = none_held 16384 0 (swapped c.first_of-first.result (map f c.args.sets.now));
      written = record { within = omega arith; parts = sym (all_left c.args.operation c.first_of-first.result (map f c.args.sets.now) (omega arith) c.first_of-first.ensures.may) };
      long = refl;
    }

pub returns-clause-ids : goal.returns-clause-ids
returns-clause-ids g c =
    let past = c.loop-base-test.false in
    written_all _ _ _ _ c.loop-base.invariant.written (none_from c.args.operation c.first_of-first.result c.loop-base.base (map g.S.AsSet.its_ids c.args.sets.now) (omega arith))

pub returns-clause-len : goal.returns-clause-len
returns-clause-len g c =
    let past = c.loop-base-test.false in
    length_all _ _ _ _ c.loop-base.invariant.written (none_from c.args.operation c.first_of-first.result c.loop-base.base (map g.S.AsSet.its_ids c.args.sets.now) (omega arith))

pub loop-base-preserved : goal.loop-base-preserved
loop-base-preserved g c =
    let inv = c.loop-base.invariant in
    let f = g.S.AsSet.its_ids in
    let next = c.combine_keys-next.ensures in
    let least = next.later in
    let last = next.most in
    let whole = inv.whole in
    let under = c.loop-base-test.true in
    record {
      most = omega arith;
      whole = omega arith;
      held = later_held c.combine_keys-next.new.held (c.loop-base.base + 8) (c.combine_keys-next.result / 8 * 8) (swapped c.first_of-first.result (map f c.args.sets.now)) (omega arith) next.held;
      written = keys_written c.loop-base.out c.unpack_keys.new.out c.loop-base.at c.in-Some.end c.loop-base.base c.combine_keys-next.new.highs c.combine_keys-next.new.words _ _ _ inv.written
          (keys_first c.args.operation c.first_of-first.result c.loop-base.base (c.combine_keys-next.result / 8 * 8) c.combine_keys-next.result (map f c.args.sets.now)
          c.combine_keys-next.new.highs c.combine_keys-next.new.words (omega arith) (omega arith) (omega arith) next.own next.none)
          c.in-Some.ensures.within c.in-Some.ensures.values;
      long = c.unpack_keys.auto.out ∙ inv.long;
    }

pub returns-in_default-clause-room : goal.returns-in_default-clause-room
returns-in_default-clause-room g c =
    let inv = c.loop-base.invariant in
    let f = g.S.AsSet.its_ids in
    let next = c.combine_keys-next.ensures in
    let least = next.later in
    let whole = inv.whole in
    let under = c.loop-base-test.true in
    let highs = c.combine_keys-next.new.highs in
    let words = c.combine_keys-next.new.words in
    let after = left_from c.args.operation c.first_of-first.result (map f c.args.sets.now) (c.combine_keys-next.result / 8 * 8) in
    let split = ap length (keys_first c.args.operation c.first_of-first.result c.loop-base.base (c.combine_keys-next.result / 8 * 8) c.combine_keys-next.result (map f c.args.sets.now)
    highs words (omega arith) (omega arith) (omega arith) next.own next.none)
    ∙ length-append (ids_of_keys highs words c.loop-base.base) (those (2 ^ 32) after)
    ∙ ap (λ (n : ℕ). n + length (those (2 ^ 32) after)) (length-map (those 524288 (found highs words)) (λ i. c.loop-base.base * 65536 + i)) in
    let rest = (counted_so _ _ _ _ inv.written).rest in
    let long = inv.long in
    let short = c.in_default.ensures.none refl in
    omega arith
