-- The numbers of one high byte more are written.
use Rattle.std.proofs.Common.{ℕ, List, ◌+◌, ◌*◌, ◌++◌, map, take, drop, get_or, length, ap, sym, ◌∙◌, arith, append_assoc, append-nil}
use Rattle.bitpack_slices.proofs.lemmas.bytes.DecodeLaws.{rising_top}
use Rattle.bitpack_slices.proofs.lemmas.bits.UnpackLaws.{by_high, high_counted, high_more, highs_done, lows, lows_cut, those_by_high}
use Rattle.bitpack_slices.proofs.bitmap.unpacking.unpack_bitmap.Goals as goal
use Rattle.bitpack_slices.specs.Bitmaps.{has_bit}

pub slice_bounds-unpack_bits_within-end : goal.slice_bounds-unpack_bits_within-end
slice_bounds-unpack_bits_within-end c =
    let top = rising_top 0 256 c.loop-high.high-index c.args.highs.now c.requires.highs c.loop-high-test.true in
    omega arith

pub unpack_bits_within-next-requires-clause-room : goal.unpack_bits_within-next-requires-clause-room
unpack_bits_within-next-requires-clause-room c =
    let more = high_counted (has_bit c.args.words.now) c.loop-high.high-index c.args.highs.now c.loop-high-test.true in
    let cut = ap length (lows_cut (get_or c.args.highs.now c.loop-high.high-index 0) c.args.words.now) in
    let all = ap length (those_by_high (has_bit c.args.words.now) c.args.highs.now c.requires.highs) in
    omega arith

pub loop-high-preserved : goal.loop-high-preserved
loop-high-preserved c =
    let high = get_or c.args.highs.now c.loop-high.high-index 0 in
    let words = c.args.words.now in
    let more = high_counted (has_bit words) c.loop-high.high-index c.args.highs.now c.loop-high-test.true in
    let cut = ap length (lows_cut high words) in
    let f : ℕ → List ℕ → List ℕ = λ base xs. map (λ i. base + i) xs in
    let front = take c.loop-high.next c.loop-high.out in
    let base = c.args.base + 256 * high in
    let rest = f c.args.base (by_high (has_bit words) (drop (c.loop-high.high-index + 1) c.args.highs.now)) in
    record {
      count = omega arith;
      values = ap (λ (l : List ℕ). l ++ rest) (c.unpack_bits_within-next.ensures.values ∙ ap (λ (l : List ℕ). front ++ f base l) (lows_cut high words))
          ∙ append_assoc front (f base (lows (has_bit words) high)) rest
          ∙ ap (λ (l : List ℕ). front ++ l) (sym (high_more (has_bit words) c.args.base c.loop-high.high-index c.args.highs.now c.loop-high-test.true))
          ∙ c.loop-high.invariant.values;
    }

pub returns-clause-end : goal.returns-clause-end
returns-clause-end c =
    let none = ap length (highs_done (has_bit c.args.words.now) c.loop-high.high-index c.args.highs.now c.loop-high-test.false) in
    let all = ap length (those_by_high (has_bit c.args.words.now) c.args.highs.now c.requires.highs) in
    omega arith

pub returns-clause-values : goal.returns-clause-values
returns-clause-values c =
    let f : List ℕ → List ℕ = λ xs. map (λ i. c.args.base + i) xs in
    let front = take c.loop-high.next c.loop-high.out in
    sym (append-nil front) ∙ ap (λ (l : List ℕ). front ++ f l) (sym (highs_done (has_bit c.args.words.now) c.loop-high.high-index c.args.highs.now c.loop-high-test.false))
    ∙ c.loop-high.invariant.values ∙ ap (λ (l : List ℕ). take c.args.at c.args.out.now ++ f l) (sym (those_by_high (has_bit c.args.words.now) c.args.highs.now c.requires.highs))
