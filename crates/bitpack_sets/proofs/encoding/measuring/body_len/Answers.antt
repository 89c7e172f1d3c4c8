-- The shorter of the two forms.
use Rattle.std.proofs.Common.{arith}
use Rattle.bitpack_sets.proofs.lemmas.written.MeasureLaws.{blocks_shorter, numbers_shorter}
use Rattle.bitpack_sets.proofs.encoding.measuring.body_len.Goals as goal

pub returns-then-blocks-numbers-clause-len : goal.returns-then-blocks-numbers-clause-len
returns-then-blocks-numbers-clause-len c = λ numbers other a b d.
    let long = c.byte_len.ensures in
    let e = blocks_shorter c.args.len c.args.count c.args.size numbers other (omega arith) a b d in
    omega arith

pub returns-else-blocks-numbers-clause-len : goal.returns-else-blocks-numbers-clause-len
returns-else-blocks-numbers-clause-len c = λ numbers other a b d.
    let long = c.byte_len.ensures in
    numbers_shorter c.args.len c.args.count c.args.size numbers other (omega arith) a b d
