-- The header and the tail are added to the blocks.
use Rattle.std.proofs.Common.{◌≡◌, ◌*◌, ◌∙◌, arith}
use Rattle.bitpack_lists.proofs.v2.writing.encoding_len.Goals as goal

pub returns-clause-room : goal.returns-clause-room
returns-clause-room g c =
    let whole : c.BLOCK_LEN.result ≡ 32 * g.P.BitPacker.lanes = c.BLOCK_LEN.ensures ∙ g.met.P.BitPacker.block_len in
    rw whole (omega (arith, c.blocks_len-size.ensures.room))

pub returns-clause-len : goal.returns-clause-len
returns-clause-len g c = λ all long are.
    let whole : c.BLOCK_LEN.result ≡ 32 * g.P.BitPacker.lanes = c.BLOCK_LEN.ensures ∙ g.met.P.BitPacker.block_len in
    rw whole (omega (arith, c.blocks_len-size.ensures.len all long are))
