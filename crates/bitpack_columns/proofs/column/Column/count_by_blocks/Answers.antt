-- Each turn counts the values of a block, and the last those of the tail.
use Rattle.std.proofs.Common.{◌≡◌, ◌≤◌, ◌+◌, ◌-◌, length, ◌∙◌, ap, arith}
use Rattle.bitpack_columns.specs.Counted.{is_undecided}
use Rattle.bitpack_columns.specs.Opened.{blocks_of, values}
use Rattle.bitpack_columns.specs.Searches.{positions_in_range}
use Rattle.bitpack_columns.proofs.CountedLaws.{passed, passed_fewer, passed_more}
use Rattle.bitpack_columns.proofs.OpenedLaws.{few_values}
use Rattle.bitpack_columns.proofs.WithinLaws.{counted_few, counted_more, upto}
use Rattle.bitpack_columns.proofs.column.Column.count_by_blocks.Goals as goal

pub overflow_add-block-end : goal.overflow_add-block-end
overflow_add-block-end c = omega (arith, few_values c.args.self.now, c.blocks-block-end.ensures)

pub overflow_add-count : goal.overflow_add-count
overflow_add-count c =
    let column = c.args.self.now in
    let inside : c.loop-block.block ≤ blocks_of column = omega (arith, c.loop-block-test.true, c.blocks-block-end.ensures) in
    omega (
      arith,
      few_values column,
      counted_few c.args.low c.args.high (values column) c.loop-block.block c.loop-block.count c.count_in_block-count.result inside c.loop-block.invariant.count
          c.count_in_block-count.ensures.count,
    )

pub loop-block-preserved : goal.loop-block-preserved
loop-block-preserved c =
    let column = c.args.self.now in
    let inside : c.loop-block.block ≤ blocks_of column = omega (arith, c.loop-block-test.true, c.blocks-block-end.ensures) in
    record {
      count = counted_more c.args.low c.args.high (values column) c.loop-block.block c.loop-block.count c.count_in_block-count.result inside
          c.loop-block.invariant.count c.count_in_block-count.ensures.count;
      reads = passed_more (is_undecided column c.args.low c.args.high) 0 c.loop-block.block c.args.reads.now.blocks c.loop-block.reads.blocks
          c.count_in_block-count.new.reads.blocks (omega arith) c.loop-block.invariant.reads c.count_in_block-count.ensures.reads;
    }

pub returns-clause-count : goal.returns-clause-count
returns-clause-count c =
    let column = c.args.self.now in
    let all : upto c.args.low c.args.high (values column) c.loop-block.block ≡ length (values column) - 0 =
    omega (arith, c.loop-block-test.false, c.loop-block.auto.block-end, c.blocks-block-end.ensures) in
    c.loop-block.invariant.count ∙ ap (λ n. length (positions_in_range c.args.low c.args.high 0 n (values column))) all

pub returns-clause-reads : goal.returns-clause-reads
returns-clause-reads c =
    let column = c.args.self.now in
    let inside : c.loop-block.block ≤ blocks_of column + 1 = omega (arith, c.loop-block.auto.block-end, c.blocks-block-end.ensures) in
    let all : blocks_of column + 1 - 0 ≡ blocks_of column + 1 = omega arith in
    omega (
      arith,
      c.loop-block.invariant.reads,
      passed_fewer (is_undecided column c.args.low c.args.high) 0 c.loop-block.block (blocks_of column + 1) (omega arith) inside,
      ap (passed (is_undecided column c.args.low c.args.high) 0) all,
    )
