-- The law of wide columns is a lemma.
use Rattle.bitpack_wide.proofs.WideLaws.{values_are_read}
use Rattle.bitpack_wide.proofs.laws.one_column_encoding.Goals as goal

pub returns : goal.returns
returns c = record { read = values_are_read }
