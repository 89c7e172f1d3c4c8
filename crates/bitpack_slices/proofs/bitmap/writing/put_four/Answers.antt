-- Four numbers more are written.
use Rattle.std.proofs.Common.{ℕ, ◌≡◌, ◌+◌, ◌-◌, ◌^◌, ◌≤◌, ◌∙◌, ap, sym, subst, arith, rules, take, drop, length}
use borrow.Rule.Slice.PartMut.{put_mid}
use Rattle.bitpack_slices.proofs.lemmas.bits.CountLaws.{ones_counted}
use Rattle.bitpack_slices.proofs.lemmas.bits.FourLaws.{AreOut, AreWritten, all_out, fewer_left, four_long, four_more, next_written, none_out, none_written, room_for}
use Rattle.bitpack_slices.proofs.bitmap.writing.put_four.Goals as goal
use Rattle.bitpack_slices.specs.Slices.{ones_from}

pub loop-left-init : goal.loop-left-init
loop-left-init c = record { start = omega arith; written = none_out c.args.base c.args.at (c.args.at - c.args.at) c.args.word c.args.out.now (omega arith) }

-- there is room for four
fit : (c : goal.In-loop-left) → c.loop-left.next + 4 ≤ length c.loop-left.out
fit c =
    let o = c.loop-left.invariant.written in
    room_for c.args.at c.loop-left.next c.loop-left.left c.args.word (length c.loop-left.out) c.loop-left-test.true c.loop-left.auto.left-fits.fits c.loop-left.invariant.start o.fours o.rest
    (omega arith)

pub overflow_add-four : goal.overflow_add-four
overflow_add-four c = let few = fit c in omega arith

pub slice_bounds-four-end : goal.slice_bounds-four-end
slice_bounds-four-end c = let few = fit c in search rules

pub loop-i-init : goal.loop-i-init
loop-i-init c = none_written c.args.base c.loop-left.left (take (c.loop-left.next + 4 - c.loop-left.next) (drop c.loop-left.next c.loop-left.out))

pub loop-i-preserved : goal.loop-i-preserved
loop-i-preserved c =
    let o = c.loop-left.invariant.written in
    let room = room_for c.args.at c.loop-left.next c.loop-left.left c.args.word (length c.loop-left.out) c.loop-left-test.true c.loop-left.auto.left-fits.fits c.loop-left.invariant.start o.fours
    o.rest (omega arith) in
    let size = four_long c.loop-left.next c.loop-left.out c.loop-i.four room c.loop-i.auto.four in
    next_written (2 ^ 8) c.args.base c.loop-i.i c.loop-i.left c.loop-i.four (ones_from c.loop-left.left 0 64) c.requires.fits c.loop-i.auto.left-fits.fits (omega arith) c.loop-i.invariant

-- the four are written
written : (c : goal.After-slice_known-1) → AreWritten c.args.base 4 c.loop-i.left c.loop-i.four (ones_from c.loop-left.left 0 64)
written c =
    let e : c.loop-i.i ≡ 4 = omega arith in
    subst (λ (n : ℕ). AreWritten c.args.base n c.loop-i.left c.loop-i.four (ones_from c.loop-left.left 0 64)) e c.loop-i.invariant

pub loop-left-smaller : goal.loop-left-smaller
loop-left-smaller c = fewer_left c.args.base c.loop-left.left c.loop-i.left c.loop-i.four (omega arith) c.loop-left.auto.left-fits.fits (written c)

pub loop-left-preserved : goal.loop-left-preserved
loop-left-preserved c =
    let o = c.loop-left.invariant.written in
    let room = room_for c.args.at c.loop-left.next c.loop-left.left c.args.word (length c.loop-left.out) c.loop-left-test.true c.loop-left.auto.left-fits.fits c.loop-left.invariant.start o.fours
    o.rest (omega arith) in
    let e : c.loop-left.next - c.args.at + 4 ≡ c.loop-left.next + 4 - c.args.at = omega arith in
    let out = put_mid c.loop-left.next (c.loop-left.next + 4 - c.loop-left.next) c.loop-left.out c.loop-i.four in
    record {
      start = omega arith;
      written = subst (λ (n : ℕ). AreOut c.args.base c.args.at n c.loop-i.left c.args.out.now out (ones_from c.args.word 0 64)) e
          (four_more c.args.base c.args.at (c.loop-left.next - c.args.at) c.loop-left.next (c.loop-left.next + 4 - c.loop-left.next) c.loop-left.left c.loop-i.left c.args.out.now
          c.loop-left.out c.loop-i.four (ones_from c.args.word 0 64) (omega arith) c.loop-left.auto.left-fits.fits (omega arith) room
          (four_long c.loop-left.next c.loop-left.out c.loop-i.four room c.loop-i.auto.four) o (written c));
    }

pub returns-clause-end : goal.returns-clause-end
returns-clause-end c = ap (λ (n : ℕ). c.args.at + n) (sym (ones_counted c.args.word 64 c.ranges.word.fits))

pub returns-clause-values : goal.returns-clause-values
returns-clause-values c =
    ap (λ (n : ℕ). take (c.args.at + n) c.loop-left.out) (sym (ones_counted c.args.word 64 c.ranges.word.fits))
    ∙ all_out c.args.base c.args.at (c.loop-left.next - c.args.at) c.loop-left.left c.args.word c.args.out.now c.loop-left.out c.loop-left-test.false c.loop-left.invariant.written
