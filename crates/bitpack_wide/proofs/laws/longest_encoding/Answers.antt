-- The law of the longest encoding.
use Rattle.bitpack_wide.proofs.RoomLaws.{longest_encoding}
use Rattle.bitpack_wide.proofs.laws.longest_encoding.Goals as goal

pub returns : goal.returns
returns c = longest_encoding
