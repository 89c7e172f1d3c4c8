-- One id set more is measured.
use Rattle.std.proofs.Common.{◌≡◌, ◌^◌, length, arith, rules}
use Rattle.bitpack_sets.proofs.ForCallers.{parts_end}
use Rattle.bitpack_sets.specs.Sets.{encoding}
use Rattle.bitpack_wide.proofs.WrittenLaws.{later_lows, next_few, next_parts, own_set}
use Rattle.bitpack_wide.proofs.encoding.words.measure_bodies.Goals as goal

pub loop-left-init : goal.loop-left-init
loop-left-init c = record { parts = record { rising = c.requires.set.rising; sized = omega arith; small = omega arith }; low = c.requires.lows }

pub measure-bodies-requires : goal.measure-bodies-requires
measure-bodies-requires c =
    own_set c.args.ids.now c.loop-left.left.now c.loop-left.low.now c.loop-left.bodies c.word_len-run.result c.requires.set.few c.loop-left.invariant.parts c.loop-left.invariant.low c.word_len-run.ensures

pub overflow_add-bodies : goal.overflow_add-bodies
overflow_add-bodies c =
    let few = c.requires.set.few in
    let small = next_few c.args.ids.now c.loop-left.left.now c.loop-left.low.now c.loop-left.bodies c.word_len-run.result c.requires.set.few c.loop-left.invariant.parts c.loop-left.invariant.low
    c.word_len-run.ensures c.measure-bodies.result.len c.measure-bodies.ensures.len_is in
    omega arith

pub loop-left-preserved : goal.loop-left-preserved
loop-left-preserved c = record {
  parts = next_parts c.args.ids.now c.loop-left.left.now c.loop-left.low.now c.loop-left.bodies c.word_len-run.result c.requires.set.few c.loop-left.invariant.parts c.loop-left.invariant.low
      c.word_len-run.ensures c.measure-bodies.result.len c.measure-bodies.ensures.len_is;
  low = later_lows c.word_len-run.result c.loop-left.left.now c.loop-left.low.now c.loop-left.invariant.low;
}

pub returns-clause-size : goal.returns-clause-size
returns-clause-size c =
    let none : length c.loop-left.left.now ≡ 0 = search rules in
    parts_end (2 ^ 64) (2 ^ 32) 15 encoding c.args.ids.now c.loop-left.left.now c.loop-left.bodies c.loop-left.invariant.parts none

pub returns-clause-small : goal.returns-clause-small
returns-clause-small c = let small = c.loop-left.invariant.parts.small in omega arith
