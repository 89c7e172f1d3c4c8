-- The bytes that are one of four others more get all bits, and at the end each has its bit.
use Rattle.std.proofs.Common.{◌*◌, ◌+◌, ◌-◌, ◌/◌, ◌≡◌, ◌∙◌, ap, arith, eqb, get_or, length, lit≤, w8}
use Rattle.std.proofs.lemmas.Simd.{bitmask_splat}
use Rattle.bitpack_slices.proofs.lemmas.bytes.EqualLaws.{either_at, either_long, fours_done, fours_more, full_match, lane, none_matched, tail_whole}
use Rattle.bitpack_slices.proofs.lemmas.slices.MatchLaws.{matches_first, matches_small}
use Rattle.bitpack_slices.proofs.slice.matches.matches_of_bytes.Goals as goal
use Rattle.bitpack_slices.specs.Reads.{has}

pub loop-step-init : goal.loop-step-init
loop-step-init c = record {
  length = c.equal_to_four-found.ensures.length;
  bytes = λ i lt.
      let x = get_or c.args.bytes i 0 in
      let others = c.args.others.now in
      c.equal_to_four-found.ensures.bytes i lt ∙ ap lane (c.four_of.ensures x ∙ ap (has x) (tail_whole (4 * ((length others - 1) / 4)) others));
}

pub loop-step-preserved : goal.loop-step-preserved
loop-step-preserved c =
    let four : 4 * c.loop-step.step + 4 - 4 * c.loop-step.step ≡ 4 = omega arith in
    let found = c.loop-step.found in
    let own = c.equal_to_four-found-in-loop-step in
    record {
      length = either_long found own.result c.loop-step.invariant.length own.ensures.length;
      bytes = λ i lt. either_at found own.result i _ _ c.loop-step.invariant.length own.ensures.length lt (c.loop-step.invariant.bytes i lt) (own.ensures.bytes i lt)
          ∙ ap lane (fours_more (get_or c.args.bytes i 0) c.args.others.now c.loop-step.step _ _ four);
    }

pub overflow_cast-result : goal.overflow_cast-result
overflow_cast-result c = record {
  fits = matches_small c.loop-step.found 255 _ c.loop-step.invariant.length (bitmask_splat w8 eqb c.loop-step.found 32 255 c.loop-step.invariant.length (lit≤ tt));
}

pub returns : goal.returns
returns c i small =
    matches_first _ c.args.count i (has (get_or c.args.bytes i 0) c.args.others.now) c.requires.count
    (full_match c.loop-step.found _ i _ c.loop-step.invariant.length (bitmask_splat w8 eqb c.loop-step.found 32 255 c.loop-step.invariant.length (lit≤ tt)) small
    (c.loop-step.invariant.bytes i small ∙ ap lane (fours_done (get_or c.args.bytes i 0) c.args.others.now c.loop-step.step _ (omega arith))))

pub returns-then-others-eq0 : goal.returns-then-others-eq0
returns-then-others-eq0 c i small = none_matched (get_or c.args.bytes i 0) c.args.count i c.args.others.now c.if-others-eq0.true
