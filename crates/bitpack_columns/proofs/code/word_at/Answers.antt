-- A word is its four bytes.
use Rattle.std.proofs.Common.{arith}
use Rattle.bitpack_columns.proofs.CodeWords.{word_is}
use Rattle.bitpack_columns.proofs.code.word_at.Goals as goal

pub returns : goal.returns
returns c =
    let e = word_is c.args.bytes.now c.args.index in
    omega (arith, c.from_le_bytes.ensures)
