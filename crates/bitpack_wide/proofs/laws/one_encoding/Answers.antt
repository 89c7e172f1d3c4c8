-- The laws are lemmas.
use Rattle.bitpack_wide.proofs.EncodingLaws.{encoding_is_read, ids_are_read, no_fault, one_wide}
use Rattle.bitpack_wide.proofs.laws.one_encoding.Goals as goal

pub returns : goal.returns
returns c = record { set = one_wide; fault = no_fault; read = ids_are_read; back = encoding_is_read }
