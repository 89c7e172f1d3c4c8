-- The law is a lemma.
use Rattle.bitpacking.proofs.ForCallers.{lanes_are_one_lane_layouts}
use Rattle.bitpacking.proofs.laws.lanes_are_one_lane_layouts.Goals as goal

pub returns : goal.returns
returns c = lanes_are_one_lane_layouts
