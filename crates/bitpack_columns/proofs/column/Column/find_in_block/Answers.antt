-- The positions of a block are written if its bounds do not decide which values are within the range.
use Rattle.std.proofs.Common.{◌≡◌, ◌-◌, ◌*◌, ◌+◌, ℕ, Some, true, false, length, take, drop, ◌∙◌, ap, arith}
use Rattle.std.specs.List.{range_with_len}
use Rattle.std.proofs.lemmas.List.{length-take, length-take-le}
use Rattle.bitpack_columns.specs.Opened.{blocks_of, values}
use Rattle.bitpack_columns.proofs.OpenedLaws.{few_values}
use Rattle.bitpack_columns.proofs.CountedLaws.{undecided_one}
use Rattle.bitpack_columns.proofs.WithinLaws.{all_found, block_found, decided_whole, none_found}
use Rattle.bitpack_columns.proofs.column.Column.find_in_block.Goals as goal

pub overflow_mul-start : goal.overflow_mul-start
overflow_mul-start c = omega (arith, few_values c.args.self.now, c.requires.block)

pub overflow_add-start : goal.overflow_add-start
overflow_add-start c = omega (arith, few_values c.args.self.now, c.requires.block, c.requires.index)

pub count_up-requires : goal.count_up-requires
count_up-requires c =
    omega (arith, few_values c.args.self.now, c.requires.block, c.requires.index, length-take (128 - c.args.index) c.args.found.now)

pub find_in-requires-clause-start : goal.find_in-requires-clause-start
find_in-requires-clause-start c =
    let read = c.unpack_block-len in
    omega (
      arith,
      few_values c.args.self.now,
      c.requires.block,
      c.requires.index,
      read.ensures.len,
      length-take (read.result - c.args.index) (drop c.args.index read.new.out),
    )

pub returns-in-Some-true-clause-found : goal.returns-in-Some-true-clause-found
returns-in-Some-true-clause-found c =
    let column = c.args.self.now in
    let decided = c.decide.ensures in
    let is : c.decide.result ≡ Some true = c.in-Some-true.is ∙ ap Some c.in-Some-true.field-0-test in
    let whole = decided_whole c.args.block (blocks_of column) c.decide.result true c.requires.block decided.tail is in
    let count : ℕ = 128 - c.args.index in
    let long : length (take count c.args.found.now) ≡ count = length-take-le count c.args.found.now (omega arith) in
    let written : c.count_up.new.out ≡ range_with_len (128 * c.args.block + c.args.index) count =
    c.count_up.ensures ∙ ap (range_with_len (128 * c.args.block + c.args.index)) long in
    all_found c.args.low c.args.high (values column) c.args.block whole c.args.index count c.count_up.new.out (drop count c.args.found.now) c.requires.index
    (omega arith) written (decided.all is)

pub returns-in-Some-false-clause-found : goal.returns-in-Some-false-clause-found
returns-in-Some-false-clause-found c =
    let column = c.args.self.now in
    let decided = c.decide.ensures in
    let is : c.decide.result ≡ Some false = c.in-Some-false.is ∙ ap Some c.in-Some-false.field-0-test in
    let whole = decided_whole c.args.block (blocks_of column) c.decide.result false c.requires.block decided.tail is in
    none_found c.args.low c.args.high (values column) c.args.block whole c.args.index c.requires.index (decided.none is)

pub returns-in-None-clause-found : goal.returns-in-None-clause-found
returns-in-None-clause-found c =
    let read = c.unpack_block-len in
    c.find_in.ensures.positions
    ∙ block_found c.args.low c.args.high (values c.args.self.now) c.args.block read.result read.new.out read.ensures.len read.ensures.values c.args.index
    (omega (arith, read.ensures.len, c.requires.index))

pub returns-in-None-clause-reads : goal.returns-in-None-clause-reads
returns-in-None-clause-reads c =
    let decided = c.decide.ensures in
    let one = undecided_one c.args.self.now c.args.low c.args.high c.args.block c.decide.result decided.block c.in-None.is in
    omega (arith, one, c.unpack_block-len.ensures.reads.blocks, decided.reads)
