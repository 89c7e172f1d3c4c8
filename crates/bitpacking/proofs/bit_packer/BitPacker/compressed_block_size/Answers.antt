-- 32 bits for each lane and bit of the width are 4 bytes.
use Rattle.std.proofs.Common.{◌≡◌, ◌*◌, ◌∙◌, arith}
use Rattle.bitpacking.proofs.bit_packer.BitPacker.compressed_block_size.Goals as goal

pub returns : goal.returns
returns g c =
    let len : c.BLOCK_LEN.result ≡ 32 * g.Self.BitPacker.lanes = c.BLOCK_LEN.ensures ∙ g.met.Self.BitPacker.block_len in
    rw len (omega arith)
