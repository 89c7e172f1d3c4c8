-- There are as many values as the count.
use Rattle.std.proofs.Common.{sym}
use Rattle.bitpack_columns.proofs.ReadLaws.{is_read}
use Rattle.bitpack_columns.proofs.column.Column.parts.Goals as goal

pub returns-clause-count : goal.returns-clause-count
returns-clause-count c =
    let column = c.args.self.now in
    sym (is_read column.bytes.bytes.now column.kind column.count column.first column.rest.bytes.now column.are_bytes column.states).len
