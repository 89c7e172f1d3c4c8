-- The values are read from the bytes, which have no fault.
use Rattle.bitpacking.proofs.ForCallers.{AreBytes-from_slice}
use Rattle.bitpack_wide.proofs.WideLaws.{values_are_read}
use Rattle.bitpack_wide.proofs.wide_column.WideColumn.open.Goals as goal

pub returns-clause-column : goal.returns-clause-column
returns-clause-column c = (values_are_read c.args.bytes.now (AreBytes-from_slice c.args.bytes.now c.type_inv.bytes) c.in_ok-count.ensures.fault).0

pub returns-clause-encoding : goal.returns-clause-encoding
returns-clause-encoding c = (values_are_read c.args.bytes.now (AreBytes-from_slice c.args.bytes.now c.type_inv.bytes) c.in_ok-count.ensures.fault).1
