-- Of the bytes that are read the first few are the numbers.
use Rattle.std.proofs.Common.{ℕ, ◌≡◌, ◌+◌, ◌-◌, ◌++◌, ◌≤◌, length, take, drop, map, ap, ◌∙◌, arith}
use Rattle.bitpack_groups.proofs.ForCallers.{lent_len}
use Rattle.bitpack_slices.proofs.lemmas.bytes.BytesWritten.{first_few}
use Rattle.bitpack_slices.proofs.slice.reading.unpack_from.Goals as goal
use Rattle.bitpack_slices.specs.Slices.{slice_len, slice_numbers}

pub returns-then-out-at-ge8-clause-values : goal.returns-then-out-at-ge8-clause-values
returns-then-out-at-ge8-clause-values c =
    let room : c.args.start + 8 ≤ length c.args.slices.now = omega arith in
    first_few 8 c.args.base c.args.count c.args.start c.args.at (c.args.at + 8) c.args.out.now c.args.slices.now c.unpack_8.new.out (omega arith) (omega arith) (omega arith)
    (omega (arith, lent_len c.args.start 8 c.args.slices.now room)) room c.unpack_8.ensures

pub returns-then-out-at-ge32-clause-values : goal.returns-then-out-at-ge32-clause-values
returns-then-out-at-ge32-clause-values c =
    let room : c.args.start + 32 ≤ length c.args.slices.now = omega arith in
    first_few 32 c.args.base c.args.count c.args.start c.args.at (c.args.at + 32) c.args.out.now c.args.slices.now c.unpack_32.new.out (omega arith) c.if-count-lt32.true (omega arith)
    (omega (arith, lent_len c.args.start 32 c.args.slices.now room)) room c.unpack_32.ensures

pub returns-clause-values : goal.returns-clause-values
returns-clause-values c =
    let cut : c.args.start + c.byte_len.result - c.args.start ≡ slice_len c.args.count = omega (arith, c.byte_len.ensures) in
    c.unpack_within.ensures.values
    ∙ ap (λ (s : ℕ). take c.args.at c.args.out.now ++ map (λ i. c.args.base + i) (slice_numbers c.args.count (take s (drop c.args.start c.args.slices.now)))) cut
