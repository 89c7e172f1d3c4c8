-- All are missing if there are as many ids.
use Rattle.std.proofs.Common.{◌^◌}
use Rattle.bitpack_sets.specs.Opened.{ids}
use Rattle.bitpack_wide.proofs.WideFilled.{all_missing}
use Rattle.bitpack_wide.proofs.WideSame.{set_rises}
use Rattle.bitpack_wide.proofs.wide_column.bounds.are_missing.Goals as goal

pub returns : goal.returns
returns c =
    let set = c.args.missing.now in
    all_missing c.args.begin 0 (2 ^ 32) (ids set) (set_rises set) c.args.len c.count_between.result c.count_between.ensures.count
