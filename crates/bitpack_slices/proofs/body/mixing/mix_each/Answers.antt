-- The numbers of one high byte more are written.
use Rattle.std.proofs.Common.{List, ℕ, ◌+◌, ◌*◌, ◌++◌, ap, arith, drop, get_or, map, refl, sym, take}
use Rattle.std.proofs.lemmas.List.{length-map}
use Rattle.bitpack_slices.proofs.lemmas.bytes.DecodeLaws.{rising_top}
use Rattle.bitpack_slices.proofs.lemmas.bytes.FollowLaws.{follow_as, left_as, left_first, left_more, left_none}
use Rattle.bitpack_slices.proofs.lemmas.bodies.MixLaws.{are_highs, lows_mixed, mixes}
use Rattle.bitpack_slices.proofs.lemmas.bits.UnpackLaws.{by_high, high_more, highs_done, lows, numbers_few}
use Rattle.bitpack_slices.proofs.body.mixing.mix_each.Goals as goal
use Rattle.bitpack_slices.specs.Selections.{numbers_at}

pub loop-high-init : goal.loop-high-init
loop-high-init c = record {
  highs = are_highs c.args.operation c.args.blocks.now c.args.others.now c.args.words.now c.possible_highs.result _ c.possible_highs.ensures.both c.possible_highs.ensures.left c.possible_highs.ensures.right c.unpack_bits-many.ensures.values;
  size = refl;
  left = left_first _ c.args.out.now c.args.at;
}

pub slice-slice-requires : goal.slice-slice-requires
slice-slice-requires c = rising_top 0 256 c.loop-high.high-index _ c.loop-high.invariant.highs.rising c.loop-high-test.true

pub put_mixed-next-requires-clause-high : goal.put_mixed-next-requires-clause-high
put_mixed-next-requires-clause-high c = rising_top 0 256 c.loop-high.high-index _ c.loop-high.invariant.highs.rising c.loop-high-test.true

pub overflow_mul-start : goal.overflow_mul-start
overflow_mul-start c = let few = rising_top 0 256 c.loop-high.high-index _ c.loop-high.invariant.highs.rising c.loop-high-test.true in omega arith

pub overflow_add-start : goal.overflow_add-start
overflow_add-start c = let few = rising_top 0 256 c.loop-high.high-index _ c.loop-high.invariant.highs.rising c.loop-high-test.true in omega (arith, c.requires.fits)

pub put_mixed-next-requires-clause-fits : goal.put_mixed-next-requires-clause-fits
put_mixed-next-requires-clause-fits c =
    let few = rising_top 0 256 c.loop-high.high-index _ c.loop-high.invariant.highs.rising c.loop-high-test.true in omega (arith, c.requires.fits)

pub put_mixed-next-requires-clause-start : goal.put_mixed-next-requires-clause-start
put_mixed-next-requires-clause-start c =
    let highs = take c.unpack_bits-many.result c.unpack_bits-many.new.out in
    let P = mixes c.args.operation c.args.blocks.now c.args.others.now c.args.words.now in
    let few = numbers_few P highs c.loop-high.invariant.highs.rising in
    let size = length-map (by_high P highs) (λ i. c.args.base + i) in
    let count = c.loop-high.invariant.left.count in
    omega (arith, c.requires.start)

pub loop-high-preserved : goal.loop-high-preserved
loop-high-preserved c =
    let highs : List ℕ = take c.unpack_bits-many.result c.unpack_bits-many.new.out in
    let P = mixes c.args.operation c.args.blocks.now c.args.others.now c.args.words.now in
    let i = c.loop-high.high-index in
    let high = get_or highs i 0 in
    let base = c.args.base in
    let all = map (λ j. base + j) (by_high P highs) in
    let numbers = lows_mixed c.args.operation c.args.blocks.now c.args.others.now c.args.words.now (numbers_at c.slice-slice.result) high c.slice-slice.ensures in
    let own = map (λ j. base + 256 * high + j) (lows P high) in
    let rest = map (λ j. base + j) (by_high P (drop (i + 1) highs)) in
    let size = c.loop-high.invariant.size in
    record {
      highs = c.loop-high.invariant.highs;
      size = omega arith;
      left = left_more all c.args.out.now c.loop-high.out c.put_mixed-next.new.out c.args.at c.loop-high.next c.put_mixed-next.result own rest (omega arith)
          (left_as all c.args.out.now c.loop-high.out c.args.at c.loop-high.next (map (λ j. base + j) (by_high P (drop i highs))) (own ++ rest) (high_more P base i highs c.loop-high-test.true)
          c.loop-high.invariant.left)
          (follow_as _ _ c.loop-high.out c.put_mixed-next.new.out c.loop-high.next c.put_mixed-next.result (ap (map (λ j. base + 256 * high + j)) numbers) c.put_mixed-next.ensures);
    }

pub returns : goal.returns
returns c =
    let highs : List ℕ = take c.unpack_bits-many.result c.unpack_bits-many.new.out in
    let P = mixes c.args.operation c.args.blocks.now c.args.others.now c.args.words.now in
    let f : List ℕ → List ℕ = λ xs. map (λ j. c.args.base + j) xs in
    follow_as _ _ c.args.out.now c.loop-high.out c.args.at c.loop-high.next (ap f (sym c.loop-high.invariant.highs.all))
    (left_none (f (by_high P highs)) c.args.out.now c.loop-high.out c.args.at c.loop-high.next (f (by_high P (drop c.loop-high.high-index highs)))
    (ap f (highs_done P c.loop-high.high-index highs c.loop-high-test.false)) c.loop-high.invariant.left)
