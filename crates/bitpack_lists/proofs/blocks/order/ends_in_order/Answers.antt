-- The values of each kind, if the last one is where it has to be.
use Rattle.std.proofs.lemmas.Bool.{leb-true}
use Rattle.bitpack_lists.proofs.lemmas.blocks.SumsOfCodes.{rising_sorted, rising_strict}
use Rattle.bitpack_lists.proofs.blocks.order.ends_in_order.Goals as goal

pub returns-then-is_narrow : goal.returns-then-is_narrow
returns-then-is_narrow c = λ above codes long fits small ends.
    let is = c.in-Sorted.is in
    rw is (rising_sorted c.args.width c.args.len (c.is_narrow.ensures c.if-is_narrow.true) c.requires.1 c.in-Sorted.initial c.args.last
    (leb-true _ _ above) codes long fits (rw is at small) (rw is at ends))

pub returns-then-is_narrow-2 : goal.returns-then-is_narrow-2
returns-then-is_narrow-2 c = λ above codes long fits small ends.
    let is = c.in-StrictlySorted.is in
    rw is (rising_strict c.args.width c.args.len (c.is_narrow-in-StrictlySorted.ensures c.if-is_narrow-2.true) c.requires.1 c.in-StrictlySorted.initial
    c.args.last (c.is_above.ensures above) codes long fits (rw is at small) (rw is at ends))
