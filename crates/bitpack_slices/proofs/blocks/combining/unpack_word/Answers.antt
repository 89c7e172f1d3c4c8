-- The numbers of the lowest high byte that is left are written.
use Rattle.std.proofs.Common.{List, ℕ, ◌+◌, ◌*◌, ◌++◌, ◌<◌, ◌∙◌, ap, append-nil, append_assoc, arith, eqb, length, map, refl, sym, take, w64}
use Rattle.std.proofs.lemmas.Bool.{not-true}
use Rattle.std.specs.Int.{trailing_zeros}
use Rattle.bitpack_slices.proofs.lemmas.bits.FourLaws.{cleared, next_is}
use Rattle.bitpack_slices.proofs.lemmas.bits.BitmapLaws.{those_few}
use Rattle.bitpack_slices.proofs.lemmas.slices.SelectionLaws.{IsUnpacked, lows_combined, no_numbers, only_left, only_right, passes, unpacked_as, unpacked_at}
use Rattle.bitpack_slices.proofs.lemmas.bits.UnpackLaws.{by_high, lows}
use Rattle.bitpack_slices.proofs.lemmas.bits.WordLaws.{no_high_left, still_there, word_counted, word_numbers, word_written}
use Rattle.bitpack_slices.proofs.blocks.combining.unpack_word.Given.{Over}
use Rattle.bitpack_slices.proofs.blocks.combining.unpack_word.Goals as goal
use Rattle.bitpack_slices.proofs.blocks.combining.unpack_word.Goals.{then-out-next-lt256+in_ok-next, else-out-next-lt256+then-y-eq0+then-retains_left, else-out-next-lt256+else-y-eq0+then-x-eq0+then-retains_right, else-out-next-lt256+else-y-eq0+else-x-eq0+then-few-lt32+then-not-retains_right, else-out-next-lt256+else-y-eq0+else-x-eq0+else-few-lt32}
use Rattle.bitpack_slices.specs.Bitmaps.{has_bit}
use Rattle.bitpack_slices.specs.Operations.{apply, combined, those}
use Rattle.bitpack_slices.specs.Reads.{has}
use Rattle.bitpack_slices.specs.Selections.{numbers_at, parts_numbers, word_highs}

pub overflow_add-high : goal.overflow_add-high
overflow_add-high g c = let next = next_is c.loop-left.left (omega (arith, c.loop-left-test.true)) c.loop-left.auto.left-fits.fits in omega (arith, next.within, c.requires.within)

pub slice_of-x-requires-clause-within : goal.slice_of-x-requires-clause-within
slice_of-x-requires-clause-within g c = let next = next_is c.loop-left.left (omega (arith, c.loop-left-test.true)) c.loop-left.auto.left-fits.fits in omega (arith, next.within, c.requires.within)

pub slice_of-y-requires-clause-within : goal.slice_of-y-requires-clause-within
slice_of-y-requires-clause-within g c = let next = next_is c.loop-left.left (omega (arith, c.loop-left-test.true)) c.loop-left.auto.left-fits.fits in omega (arith, next.within, c.requires.within)

pub slice_of-x-requires-clause-occurs : goal.slice_of-x-requires-clause-occurs
slice_of-x-requires-clause-occurs g c = λ e. let next = next_is c.loop-left.left (omega (arith, c.loop-left-test.true)) c.loop-left.auto.left-fits.fits in
    c.requires.in_left (sym c.retains_right.ensures ∙ not-true _ e) (trailing_zeros w64 c.loop-left.left) next.within (c.loop-left.invariant.bits (trailing_zeros w64 c.loop-left.left) (ap (λ (n : ℕ). eqb n 1) next.one))

pub slice_of-y-requires-clause-occurs : goal.slice_of-y-requires-clause-occurs
slice_of-y-requires-clause-occurs g c = λ e. let next = next_is c.loop-left.left (omega (arith, c.loop-left-test.true)) c.loop-left.auto.left-fits.fits in
    c.requires.in_right (sym c.retains_left.ensures ∙ not-true _ e) (trailing_zeros w64 c.loop-left.left) next.within (c.loop-left.invariant.bits (trailing_zeros w64 c.loop-left.left) (ap (λ (n : ℕ). eqb n 1) next.one))

pub loop-left-smaller : goal.loop-left-smaller
loop-left-smaller g c = let next = next_is c.loop-left.left (omega (arith, c.loop-left-test.true)) c.loop-left.auto.left-fits.fits in next.less

pub loop-left-init : goal.loop-left-init
loop-left-init g c = record { bits = λ k e. e; room = c.requires.start; count = refl; values = refl }

-- what the loop writes for a high byte
own_written : (g : Over) (c : goal.Joined-out-next-lt256 g) → IsUnpacked (c.args.base + 256 * (c.args.first + trailing_zeros w64 c.loop-left.left))
    (combined 256 c.args.operation (numbers_at c.slice_of-x.result) (numbers_at c.slice_of-y.result))
    c.loop-left.out c.if-out-next-lt256.out c.loop-left.next c.if-out-next-lt256.next
own_written g c =
    let x = c.slice_of-x.result in
    let y = c.slice_of-y.result in
    let op = c.args.operation in
    let base : ℕ = c.args.base + 256 * (c.args.first + trailing_zeros w64 c.loop-left.left) in
    let all : List ℕ = combined 256 op (numbers_at x) (numbers_at y) in
    let few = those_few 256 (λ i. apply op (has i (numbers_at x)) (has i (numbers_at y))) in
    elim c.if-out-next-lt256.branch [
      | then-out-next-lt256+in_ok-next w ↦ unpacked_at base all _ _ _ _ _ _ w.out-is w.next-is
          (unpacked_as base all all _ _ _ _ refl w.in_ok-next.ensures.end w.in_ok-next.ensures.room w.in_ok-next.ensures.values)
      | else-out-next-lt256+then-y-eq0+then-retains_left w ↦
          let size = x.there.slice.count_is in
          let most = x.there.few in
          let room = w.if-out-next-lt256.false in
          unpacked_at base all _ _ _ _ _ _ w.out-is w.next-is
          (unpacked_as base (numbers_at x) all _ _ _ _ (only_left op (numbers_at x) (numbers_at y) x.there.slice.rising
          (no_numbers y.slices.now y.start y.count w.if-y-eq0.true) (sym w.retains_left-then-y-eq0.ensures ∙ w.if-retains_left.true))
          (omega (arith, w.unpack.ensures.end)) (omega (arith, w.unpack.ensures.end, c.loop-left.invariant.room)) w.unpack.ensures.values)
      | else-out-next-lt256+else-y-eq0+then-x-eq0+then-retains_right w ↦
          let size = y.there.slice.count_is in
          let most = y.there.few in
          let room = w.if-out-next-lt256.false in
          unpacked_at base all _ _ _ _ _ _ w.out-is w.next-is
          (unpacked_as base (numbers_at y) all _ _ _ _ (only_right op (numbers_at x) (numbers_at y) y.there.slice.rising
          (no_numbers x.slices.now x.start x.count w.if-x-eq0.true) (sym w.retains_right-then-x-eq0.ensures ∙ w.if-retains_right.true))
          (omega (arith, w.unpack-then-retains_right.ensures.end)) (omega (arith, w.unpack-then-retains_right.ensures.end, c.loop-left.invariant.room)) w.unpack-then-retains_right.ensures.values)
      | else-out-next-lt256+else-y-eq0+else-x-eq0+then-few-lt32+then-not-retains_right w ↦
          let same = ap length c.fewer_first.ensures.numbers in
          let room = w.if-out-next-lt256.false in
          unpacked_at base all _ _ _ _ _ _ w.out-is w.next-is
          (unpacked_as base (combined 256 op (numbers_at c.fewer_first.result.0) (numbers_at c.fewer_first.result.1)) all _ _ _ _ c.fewer_first.ensures.numbers
          w.unpack_matches.ensures.end (omega (arith, w.unpack_matches.ensures.end, c.loop-left.invariant.room)) w.unpack_matches.ensures.values)
      | else-out-next-lt256+else-y-eq0+else-x-eq0+else-few-lt32 w ↦
          let same = ap length w.combined_bits.ensures in
          let room = w.if-out-next-lt256.false in
          unpacked_at base all _ _ _ _ _ _ w.out-is w.next-is
          (unpacked_as base (those 256 (has_bit w.combined_bits.result)) all _ _ _ _ w.combined_bits.ensures
          w.unpack_bits.ensures.end (omega (arith, w.unpack_bits.ensures.end, c.loop-left.invariant.room)) w.unpack_bits.ensures.values)
    ]

pub loop-left-preserved : goal.loop-left-preserved
loop-left-preserved g c =
    let a = c.args.a.now in
    let b = c.args.b.now in
    let P = passes c.args.operation a b in
    let left = c.loop-left.left in
    let first = c.args.first in
    let some : 0 < left = omega (arith, c.loop-left-test.true) in
    let small = c.loop-left.auto.left-fits.fits in
    let high : ℕ = first + trailing_zeros w64 left in
    let written = own_written g c in
    let numbers = lows_combined c.args.operation high (numbers_at c.slice_of-x.result) (numbers_at c.slice_of-y.result) (parts_numbers a) (parts_numbers b) c.slice_of-x.ensures c.slice_of-y.ensures in
    let own = ap length numbers in
    let more = word_counted P first left some small in
    let f : ℕ → List ℕ → List ℕ = λ base xs. map (λ i. base + i) xs in
    let front = take c.loop-left.next c.loop-left.out in
    let base : ℕ = c.args.base + 256 * high in
    let rest = f c.args.base (by_high P (word_highs first (cleared left))) in
    let end = written.end_is in
    record {
      bits = still_there left c.args.word c.loop-left.invariant.bits;
      room = omega (arith, written.room, c.if-out-next-lt256.auto.out);
      count = omega (arith, c.loop-left.invariant.count);
      values = ap (λ (l : List ℕ). l ++ rest) (written.written ∙ ap (λ (l : List ℕ). front ++ f base l) numbers)
          ∙ append_assoc front (f base (lows P high)) rest
          ∙ ap (λ (l : List ℕ). front ++ l) (sym (word_written P first left some small c.args.base))
          ∙ c.loop-left.invariant.values;
    }

pub returns-in_err-next-clause-none : goal.returns-in_err-next-clause-none
returns-in_err-next-clause-none g c = λ e.
    let a = c.args.a.now in
    let b = c.args.b.now in
    let P = passes c.args.operation a b in
    let left = c.loop-left.left in
    let first = c.args.first in
    let high : ℕ = first + trailing_zeros w64 left in
    let own = ap length (lows_combined c.args.operation high (numbers_at c.slice_of-x.result) (numbers_at c.slice_of-y.result) (parts_numbers a) (parts_numbers b) c.slice_of-x.ensures c.slice_of-y.ensures) in
    let more = word_counted P first left (omega (arith, c.loop-left-test.true)) c.loop-left.auto.left-fits.fits in
    let all = ap length (word_numbers P first c.args.word c.requires.within) in
    let short = c.in_err-next.ensures.none refl in
    omega (arith, c.loop-left.invariant.count, c.loop-left.auto.out)

pub returns-clause-end : goal.returns-clause-end
returns-clause-end g c =
    let P = passes c.args.operation c.args.a.now c.args.b.now in
    let none = ap length (no_high_left P c.args.first c.loop-left.left c.loop-left-test.false) in
    let all = ap length (word_numbers P c.args.first c.args.word c.requires.within) in
    omega (arith, c.loop-left.invariant.count)

pub returns-clause-values : goal.returns-clause-values
returns-clause-values g c =
    let P = passes c.args.operation c.args.a.now c.args.b.now in
    let f : List ℕ → List ℕ = λ xs. map (λ i. c.args.base + i) xs in
    let front = take c.loop-left.next c.loop-left.out in
    sym (append-nil front) ∙ ap (λ (l : List ℕ). front ++ f l) (sym (no_high_left P c.args.first c.loop-left.left c.loop-left-test.false))
    ∙ c.loop-left.invariant.values ∙ ap (λ (l : List ℕ). take c.args.at c.args.out.now ++ f l) (sym (word_numbers P c.args.first c.args.word c.requires.within))
