-- The list of one word, joined with another.
use Rattle.bitpacking_register.proofs.WordLemmas.{word-mod, or-fits}
use Rattle.bitpacking_register.proofs.word.U32Register.or.Goals as goal

pub returns : goal.returns
returns c =
    let left = word-mod c.args.self c.ranges.self in
    let right = word-mod c.args.other c.ranges.other in
    let both = word-mod _ (or-fits c.args.self c.args.other c.ranges.self c.ranges.other) in
    simp (left, right, both)
