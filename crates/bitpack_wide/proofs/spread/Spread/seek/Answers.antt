-- The id at the rank of the target.
use Rattle.std.proofs.Common.{◌^◌, ◌∙◌, sym}
use Rattle.bitpack_sets.proofs.ForCallers.{none_there}
use Rattle.bitpack_wide.specs.Forms.{spread_ids}
use Rattle.bitpack_wide.proofs.SeekLaws.{seeks_none, seeks_some}
use Rattle.bitpack_wide.proofs.spread.Spread.seek.Goals as goal

pub returns-in-Some : goal.returns-in-Some
returns-in-Some c =
    seeks_some c.args.target c.place_of-position.result.0 c.in-Some.id 0 (2 ^ 64) (spread_ids c.args.self) c.args.self.rising c.place_of-position.ensures.rank (sym c.select.ensures ∙ c.in-Some.is)

pub returns-in-None : goal.returns-in-None
returns-in-None c =
    seeks_none c.args.target c.place_of-position.result.0 (spread_ids c.args.self) c.place_of-position.ensures.rank (none_there (spread_ids c.args.self) c.place_of-position.result.0 (sym c.select.ensures ∙ c.in-None.is))
