-- What follows is refused as all values are.
use Rattle.std.proofs.Common.{refl}
use Rattle.bitpack_columns.proofs.encoding.order.test_pushed.Goals as goal

pub returns : goal.returns
returns c =
    c.test_more.ensures c.args.so_far.now
    (record { count_is = refl; right = c.requires.ordered; none = λ _. c.last_of.ensures.none; some = λ _. c.last_of.ensures.some })
