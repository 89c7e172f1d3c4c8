-- A column that has a block begins with its first value.
use Rattle.std.proofs.Common.{◌<◌, ◌++◌, ◌∙◌, arith}
use Rattle.bitpack_columns.specs.Opened.{blocks_of}
use Rattle.bitpack_columns.proofs.CopiedLaws.{first_copied}
use Rattle.bitpack_columns.proofs.OpenedLaws.{first_is}
use Rattle.bitpack_columns.proofs.appending.planning.first_of_all.Goals as goal

pub returns : goal.returns
returns c = λ is.
    let column = c.args.column.now in
    let some : 0 < blocks_of column = omega arith in
    first_is column is ∙ first_copied column (c.args.filled.now ++ c.args.later.now) some
