-- There are as many values as were counted.
use Rattle.std.proofs.Common.{arith, rules}
use Rattle.bitpack_columns.specs.Gathering.{AreWithin}
use Rattle.bitpack_columns.proofs.OpenedLaws.{count_is}
use Rattle.bitpack_columns.proofs.column.Column.gather.Goals as goal

pub returns-in-Some-clause-err : goal.returns-in-Some-clause-err
returns-in-Some-clause-err c =
    let long = count_is c.args.self.now in
    let is = c.in-Some.ensures in
    record {
      here = is.0;
      beyond = omega (arith, long, is.1);
      before = λ k lt. omega (arith, long, is.2 k lt);
    }

pub returns-clause-within : goal.returns-clause-within
returns-clause-within c =
    let within : AreWithin c.args.self.now.count c.args.positions.now = search rules in
    λ k lt. let less = within k lt in omega (arith, less, count_is c.args.self.now)
