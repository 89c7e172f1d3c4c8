-- The laws of encodings.
use Rattle.bitpack_sets.proofs.lemmas.encodings.EncodingLaws.{encoding_is_read, ids_are_read, no_fault, one_set}
use Rattle.bitpack_sets.proofs.laws.one_encoding.Goals as goal

pub returns : goal.returns
returns c = record { set = one_set; fault = no_fault; read = ids_are_read; back = encoding_is_read }
