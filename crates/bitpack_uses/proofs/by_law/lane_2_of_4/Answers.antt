-- The law `lanes_are_one_lane_layouts`.
use Rattle.std.proofs.Common.{arith}
use Rattle.bitpack_uses.proofs.by_law.lane_2_of_4.Goals as goal

pub returns : goal.returns
returns c = λ width codes bytes layout. c.lanes_are_one_lane_layouts.ensures 4 width 2 codes bytes (omega arith) layout
