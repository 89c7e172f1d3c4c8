-- Each turn writes the positions of a block, as many as fit.
use Rattle.std.proofs.Common.{◌≡◌, ◌≤◌, ◌<◌, ◌+◌, ◌-◌, ◌*◌, ◌/◌, ℕ, min, length, ap, arith}
use Rattle.bitpack_columns.specs.Counted.{is_undecided}
use Rattle.bitpack_columns.specs.Opened.{blocks_of, values}
use Rattle.bitpack_columns.proofs.CountedLaws.{passed, passed_fewer, passed_more}
use Rattle.bitpack_columns.proofs.WithinLaws.{found_end, found_full, found_next, found_started}
use Rattle.bitpack_columns.proofs.column.Column.find_by_blocks.Goals as goal

pub loop-block-init : goal.loop-block-init
loop-block-init c =
    let column = c.args.self.now in
    record {
      found = found_started c.args.low c.args.high (values column) c.args.from (omega (arith, c.if-from-len.false, c.len.ensures)) c.args.out.now;
      reads = omega arith;
    }

pub loop-block-preserved : goal.loop-block-preserved
loop-block-preserved c =
    let column = c.args.self.now in
    let here = c.loop-block in
    let from : ℕ = c.args.from in
    let more = c.find_in_block-more in
    let start : from / 128 ≤ here.block = omega (arith, here.auto.block) in
    let inside : here.block ≤ blocks_of column = omega (arith, c.loop-block-test.true, c.blocks-block-end.ensures) in
    let some : from < length (values column) = omega (arith, c.if-from-len.false, c.len.ensures) in
    let index : c.saturating_sub-index.result ≡ from - 128 * here.block = omega (arith, c.saturating_sub-index.ensures) in
    let left : here.done < length c.args.out.now = omega (arith, c.if-done-out.false, here.invariant.found.count, here.invariant.found.long) in
    let room : more.result ≤ length more.new.found = omega (arith, more.ensures.few, more.array_long2) in
    let fit : c.min-fits.result ≡ min more.result (length c.args.out.now - here.done) = omega (arith, c.min-fits.ensures, here.invariant.found.long) in
    record {
      found = found_next c.args.low c.args.high (values column) from some c.args.out.now here.block here.done here.out here.invariant.found start inside left
          more.result c.min-fits.result more.new.found c.copy_from_slice.new.self room (rw index at more.ensures.found) fit c.copy_from_slice.ensures.after;
      reads = passed_more (is_undecided column c.args.low c.args.high) (from / 128) here.block c.args.reads.now.blocks here.reads.blocks more.new.reads.blocks start
          here.invariant.reads more.ensures.reads;
    }

pub returns-then-done-out-clause-found : goal.returns-then-done-out-clause-found
returns-then-done-out-clause-found c =
    let column = c.args.self.now in
    let here = c.loop-block in
    found_full c.args.low c.args.high (values column) c.args.from (omega (arith, c.if-from-len.false, c.len.ensures)) c.args.out.now here.block here.done here.out
    here.invariant.found (omega (arith, c.if-done-out.true, here.invariant.found.long))

pub returns-clause-found : goal.returns-clause-found
returns-clause-found c =
    let column = c.args.self.now in
    let here = c.loop-block in
    let some : c.args.from < length (values column) = omega (arith, c.if-from-len.false, c.len.ensures) in
    found_end c.args.low c.args.high (values column) c.args.from some c.args.out.now here.block here.done here.out
    (omega (arith, c.loop-block-test.false, here.auto.block-end, c.blocks-block-end.ensures, some)) here.invariant.found

pub returns-then-done-out-clause-reads : goal.returns-then-done-out-clause-reads
returns-then-done-out-clause-reads c =
    let column = c.args.self.now in
    let here = c.loop-block in
    let inside : here.block ≤ blocks_of column + 1 = omega (arith, c.loop-block-test.true, c.blocks-block-end.ensures) in
    omega (
      arith,
      here.invariant.reads,
      passed_fewer (is_undecided column c.args.low c.args.high) (c.args.from / 128) here.block (blocks_of column + 1) here.auto.block inside,
    )

pub returns-clause-reads : goal.returns-clause-reads
returns-clause-reads c =
    let column = c.args.self.now in
    let here = c.loop-block in
    let last : here.block ≡ blocks_of column + 1 =
    omega (arith, c.loop-block-test.false, here.auto.block-end, c.blocks-block-end.ensures, c.if-from-len.false, c.len.ensures) in
    let all : here.block - c.args.from / 128 ≡ blocks_of column + 1 - c.args.from / 128 = omega (arith, last) in
    omega (arith, here.invariant.reads, ap (passed (is_undecided column c.args.low c.args.high) (c.args.from / 128)) all)
