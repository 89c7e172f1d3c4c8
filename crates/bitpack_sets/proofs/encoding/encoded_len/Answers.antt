-- The ids are a set, whose encoding is measured.
use Rattle.std.proofs.Common.{refl}
use Rattle.bitpack_sets.proofs.lemmas.encodings.EncodeLaws.{accepted}
use Rattle.bitpack_sets.proofs.encoding.encoded_len.Goals as goal

pub returns : goal.returns
returns c = record {
  set = c.in_ok-test_ids.ensures.set;
  len = c.measure-measured.ensures.len_is;
  fault = accepted c.args.ids.now _ c.in_ok-test_ids.ensures.fault refl;
}
