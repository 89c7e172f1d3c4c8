-- The law `one_layout`: codes that fit have bytes, and bytes have codes.
use Rattle.std.proofs.Common.{arith}
use Rattle.bitpacking.specs.Layout.{codes_of}
use Rattle.bitpack_uses.proofs.by_law.codes_and_bytes_are_free.Goals as goal

pub returns-clause-bytes : goal.returns-clause-bytes
returns-clause-bytes c = λ codes count fits. let (bytes, are, layout, _) = c.one_layout.ensures.bytes 1 3 codes (omega arith) count fits in (bytes, are, layout)

pub returns-clause-codes : goal.returns-clause-codes
returns-clause-codes c = λ bytes count. (codes_of 1 3 bytes, (c.one_layout.ensures.codes 1 3 bytes count).0)
