-- 4,096 blocks are a number of 13 binary digits.
use Rattle.std.proofs.Common.{arith}
use Rattle.bitpack_uses.proofs.reads.search.Goals as goal

pub returns : goal.returns
returns c = λ long.
    let reads = rw long at c.seek.ensures.reads in
    (omega (arith, reads.entries 13 (omega arith), c.new-reads.ensures.entries), omega (arith, reads.blocks, c.new-reads.ensures.blocks))
