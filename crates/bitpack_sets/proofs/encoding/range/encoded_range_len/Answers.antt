-- The ids are a set, whose encoding is measured.
use Rattle.std.proofs.Common.{length, refl, sym, ap, ◌∙◌}
use Rattle.bitpack_sets.proofs.lemmas.encodings.EncodeLaws.{accepted}
use Rattle.bitpack_sets.proofs.encoding.range.encoded_range_len.Goals as goal
use Rattle.bitpack_sets.specs.Ranges.{ids_within}
use Rattle.bitpack_sets.specs.Sets.{encoding}

pub returns : goal.returns
returns c = record {
  set = c.in_ok-count.ensures.set;
  len = c.measure_range-measured.ensures.measured.len_is ∙ sym (ap (λ l. length (encoding l)) c.in_ok-count.ensures.ids);
  fault = accepted (ids_within c.args.first c.args.end) _ c.in_ok-count.ensures.fault refl;
}
