-- The bytes are read at once where there are as many.
use Rattle.std.proofs.Common.{arith}
use Rattle.std.proofs.lemmas.Simd.{get_or-chunk, length-chunk}
use Rattle.bitpack_slices.proofs.slice.matches.bytes_from.Goals as goal

pub returns-then-bytes-start-ge32-clause-length : goal.returns-then-bytes-start-ge32-clause-length
returns-then-bytes-start-ge32-clause-length c = length-chunk c.args.start 32 c.args.bytes.now (omega arith)

pub returns-then-bytes-start-ge32-clause-bytes : goal.returns-then-bytes-start-ge32-clause-bytes
returns-then-bytes-start-ge32-clause-bytes c i small room = get_or-chunk c.args.start 32 c.args.bytes.now i 0 small
