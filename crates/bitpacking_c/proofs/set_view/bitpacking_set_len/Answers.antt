-- The view has the number of its ids.
use Rattle.bitpacking_c.proofs.set_view.bitpacking_set_len.Goals as goal

pub returns : goal.returns
returns c = c.args.view.now.counted
