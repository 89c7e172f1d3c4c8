-- A part more rises, or falls.
use Rattle.std.proofs.Common.{◌≡◌, ◌<◌, ℕ, length, length-take-le, take, refl, arith}
use Rattle.bitpack_columns.specs.Opened.{values}
use Rattle.bitpack_wide.proofs.WideSeen.{found_fall, is_part, part_rises, rises_start}
use Rattle.bitpack_wide.proofs.wide_column.seeing.falls.Goals as goal

pub loop-from-init : goal.loop-from-init
loop-from-init c = record { within = omega arith; rises = rises_start _; start = λ e. refl }

pub returns-then-falls_after : goal.returns-then-falls_after
returns-then-falls_after c =
    let it = c.loop-from.invariant in
    let n : ℕ = c.copy_range-len.result in
    let long : length (take n c.copy_range-len.new.out) ≡ n = length-take-le n c.copy_range-len.new.out (omega (arith, c.copy_range-len.ensures.len, c.copy_range-len.auto.out)) in
    found_fall (values c.args.column.now) c.copy_range-len.new.out c.loop-from.from n c.falls_after.result
    (c.falls_after.ensures _ c.loop-from.from (is_part (values c.args.column.now) c.copy_range-len.new.out c.loop-from.from n c.copy_range-len.ensures.values) it.rises it.start)
    c.if-falls_after.true (omega (arith, long, c.copy_range-len.ensures.len, it.within))

pub loop-from-preserved : goal.loop-from-preserved
loop-from-preserved c =
    let it = c.loop-from.invariant in
    let n : ℕ = c.copy_range-len.result in
    let some : 0 < n = omega (arith, c.copy_range-len.ensures.len, c.loop-from-test.true, c.len.ensures) in
    let long : length (take n c.copy_range-len.new.out) ≡ n = length-take-le n c.copy_range-len.new.out (omega (arith, c.copy_range-len.ensures.len, c.copy_range-len.auto.out)) in
    record {
      within = omega (arith, c.copy_range-len.ensures.len, it.within);
      rises =
          part_rises (values c.args.column.now) c.copy_range-len.new.out c.loop-from.from n c.falls_after.result
          (c.falls_after.ensures _ c.loop-from.from (is_part (values c.args.column.now) c.copy_range-len.new.out c.loop-from.from n c.copy_range-len.ensures.values) it.rises it.start)
          c.if-falls_after.false c.copy_range-len.ensures.values some long;
      start = λ none. absurd (omega (arith, some, none));
    }
