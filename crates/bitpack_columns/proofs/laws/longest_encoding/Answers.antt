-- The longest encoding.
use Rattle.bitpack_columns.proofs.EncodingLaws.{longest_encoding as law}
use Rattle.bitpack_columns.proofs.laws.longest_encoding.Goals as goal

pub returns : goal.returns
returns c = law
