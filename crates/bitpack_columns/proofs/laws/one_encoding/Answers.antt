-- The laws of encoded columns.
use Rattle.bitpack_columns.proofs.EncodingLaws.{encoding_is_read, no_fault, one_column, values_are_read}
use Rattle.bitpack_columns.proofs.laws.one_encoding.Goals as goal

pub returns : goal.returns
returns c = record { column = one_column; fault = no_fault; read = values_are_read; back = encoding_is_read }
