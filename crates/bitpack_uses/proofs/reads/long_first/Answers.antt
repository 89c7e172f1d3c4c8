-- The same numbers: 3 blocks are a number of two binary digits, and two for each of 100 values and one are 201.
use Rattle.std.proofs.Common.{arith}
use Rattle.bitpack_uses.proofs.reads.long_first.Goals as goal

pub returns-clause-short : goal.returns-clause-short
returns-clause-short c = λ short long.
    let reads = c.intersect.ensures.reads_b in
    let entries = rw long at (reads.entries 2 (rw short (omega arith))) in
    let blocks = rw (short, long) at reads.blocks in
    (entries, omega (arith, blocks))

pub returns-clause-long : goal.returns-clause-long
returns-clause-long c = λ short long.
    let reads = c.intersect.ensures.reads_a in
    let entries = rw long at reads.entries in
    let blocks = rw (short, long) at reads.blocks in
    (entries, omega (arith, blocks))
