-- The column is read from the bytes, which have no fault.
use Rattle.bitpacking.proofs.ForCallers.{AreBytes-from_slice}
use Rattle.bitpack_columns.proofs.OpeningLaws.{column_of}
use Rattle.bitpack_columns.proofs.column.Column.from_parts.Goals as goal

pub returns-clause-column : goal.returns-clause-column
returns-clause-column c =
    let parts = c.args.parts in
    rw c.new.ensures (column_of c.args.bytes.now parts.kind parts.count parts.first parts.rest.bytes.now (AreBytes-from_slice c.args.bytes.now c.type_inv.bytes) c.requires).0

pub returns-clause-encoding : goal.returns-clause-encoding
returns-clause-encoding c =
    let parts = c.args.parts in
    rw c.new.ensures (column_of c.args.bytes.now parts.kind parts.count parts.first parts.rest.bytes.now (AreBytes-from_slice c.args.bytes.now c.type_inv.bytes) c.requires).1
