-- The values of a block are counted if its bounds do not decide how many are within the range.
use Rattle.std.proofs.Common.{◌≡◌, Some, true, false, ◌∙◌, ap, arith}
use Rattle.bitpack_columns.specs.Opened.{blocks_of, values}
use Rattle.bitpack_columns.proofs.CountedLaws.{undecided_one}
use Rattle.bitpack_columns.proofs.WithinLaws.{all_counted, block_counted, decided_whole, none_counted}
use Rattle.bitpack_columns.proofs.column.Column.count_in_block.Goals as goal

pub returns-in-Some-true-clause-count : goal.returns-in-Some-true-clause-count
returns-in-Some-true-clause-count c =
    let decided = c.decide.ensures in
    let is : c.decide.result ≡ Some true = c.in-Some-true.is ∙ ap Some c.in-Some-true.field-0-test in
    all_counted c.args.low c.args.high (values c.args.self.now) c.args.block (decided_whole c.args.block (blocks_of c.args.self.now) c.decide.result true c.requires.block decided.tail is) (decided.all is)

pub returns-in-Some-false-clause-count : goal.returns-in-Some-false-clause-count
returns-in-Some-false-clause-count c =
    let decided = c.decide.ensures in
    let is : c.decide.result ≡ Some false = c.in-Some-false.is ∙ ap Some c.in-Some-false.field-0-test in
    none_counted c.args.low c.args.high (values c.args.self.now) c.args.block (decided_whole c.args.block (blocks_of c.args.self.now) c.decide.result false c.requires.block decided.tail is) (decided.none is)

pub returns-in-None-clause-count : goal.returns-in-None-clause-count
returns-in-None-clause-count c =
    let read = c.unpack_block-len in
    c.count_in.ensures
    ∙ block_counted c.args.low c.args.high (values c.args.self.now) c.args.block read.result read.new.out read.ensures.len read.ensures.values

pub returns-in-None-clause-reads : goal.returns-in-None-clause-reads
returns-in-None-clause-reads c =
    let decided = c.decide.ensures in
    let one = undecided_one c.args.self.now c.args.low c.args.high c.args.block c.decide.result decided.block c.in-None.is in
    omega (arith, one, c.unpack_block-len.ensures.reads.blocks, decided.reads)
