-- The ids are read from the bytes, which have no fault.
use Rattle.bitpacking.proofs.ForCallers.{AreBytes-from_slice}
use Rattle.bitpack_wide.proofs.EncodingLaws.{ids_are_read}
use Rattle.bitpack_wide.proofs.wide_set.WideSet.from_parts.Goals as goal

pub returns-clause-set : goal.returns-clause-set
returns-clause-set c = (ids_are_read c.args.bytes.now (AreBytes-from_slice c.args.bytes.now c.type_inv.bytes) c.requires.none).0

pub returns-clause-encoding : goal.returns-clause-encoding
returns-clause-encoding c = (ids_are_read c.args.bytes.now (AreBytes-from_slice c.args.bytes.now c.type_inv.bytes) c.requires.none).1
