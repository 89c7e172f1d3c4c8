-- The plan has the length.
use Rattle.std.proofs.Common.{refl}
use Rattle.bitpack_columns.proofs.EncodeLaws.{accepted}
use Rattle.bitpack_columns.proofs.encoding.encoded_len.Goals as goal

pub returns : goal.returns
returns c = record {
  column = c.in_ok-plan.ensures.column;
  len = c.in_ok-plan.ensures.plan.len_is;
  fault = accepted c.args.kind c.args.values.now _ c.in_ok-plan.ensures.fault refl;
}
