-- The bytes that are not above those before them are matched.
use Rattle.std.proofs.Common.{arith}
use Rattle.bitpack_slices.proofs.lemmas.bits.IncreaseLaws.{rises_tested}
use Rattle.bitpack_slices.proofs.slice.testing.is_increasing_from.Goals as goal

pub returns : goal.returns
returns c = rises_tested c.min-from.result c.args.start c.args.count c.args.bytes.now c.requires.some c.requires.count (omega arith) (omega arith) (omega arith)
