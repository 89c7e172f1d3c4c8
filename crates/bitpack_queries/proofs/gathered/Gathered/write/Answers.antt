-- The directory is written of what is gathered, if there is room.
use Rattle.std.proofs.Common.{arith, drop}
use Rattle.bitpack_queries.proofs.lemmas.two.GatheredLaws.{gathered_encoding, gathered_fills}
use Rattle.bitpack_queries.proofs.gathered.Gathered.write.Goals as goal

pub returns-then-len-out-clause-written : goal.returns-then-len-out-clause-written
returns-then-len-out-clause-written c ids rise so =
    let it = c.args.self in
    let len = c.chunks_len-len in
    gathered_fills ids c.args.keys.now c.args.counts.now c.args.sizes.now c.args.out.now it.count it.chunks it.size so rise (omega arith) (omega arith) (omega arith) len.result len.ensures _
    (λ room. gathered_encoding ids c.args.keys.now c.args.counts.now c.args.sizes.now c.args.out.now it.count it.chunks it.size so rise (omega arith) (omega arith) (omega arith) len.result len.ensures
    c.write_gathered.new.out (drop len.result c.args.out.now) (omega arith) c.write_gathered.ensures)

pub returns-else-len-out-clause-written : goal.returns-else-len-out-clause-written
returns-else-len-out-clause-written c ids rise so =
    let it = c.args.self in
    let len = c.chunks_len-len in
    gathered_fills ids c.args.keys.now c.args.counts.now c.args.sizes.now c.args.out.now it.count it.chunks it.size so rise (omega arith) (omega arith) (omega arith) len.result len.ensures _
    (λ room. absurd (omega arith))
