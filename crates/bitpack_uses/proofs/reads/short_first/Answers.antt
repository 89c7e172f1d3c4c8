-- 100 values have 3 blocks of 32, and 1,000,000 have 7,812 blocks of 128: a number of 13 binary digits.
use Rattle.std.proofs.Common.{arith}
use Rattle.bitpack_uses.proofs.reads.short_first.Goals as goal

pub returns-clause-short : goal.returns-clause-short
returns-clause-short c = λ short long.
    let reads = c.intersect.ensures.reads_a in
    let entries = rw short at reads.entries in
    let blocks = rw (short, long) at reads.blocks in
    (entries, omega (arith, blocks))

pub returns-clause-long : goal.returns-clause-long
returns-clause-long c = λ short long.
    let reads = c.intersect.ensures.reads_b in
    let entries = rw short at (reads.entries 13 (rw long (omega arith))) in
    let blocks = rw (short, long) at reads.blocks in
    (entries, omega (arith, blocks))
