-- The view has the number of its ids.
use Rattle.bitpacking_c.proofs.wide_set_view.bitpacking_wide_set_len.Goals as goal

pub returns : goal.returns
returns c = c.args.view.now.counted
