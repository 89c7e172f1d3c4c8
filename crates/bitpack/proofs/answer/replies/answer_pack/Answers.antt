-- The width that was tested fits the codes.
use Rattle.std.proofs.Common.{arith, take}
use Rattle.std.proofs.lemmas.Nat.{mul-le}
use Rattle.std.proofs.lemmas.Result.{IfOk-weaker}
use Rattle.bitpacking.proofs.ForCallers.{fits_greater}
use Rattle.bitpack.specs.Answers.{Passed}
use Rattle.bitpack.proofs.answer.replies.answer_pack.Goals as goal

pub pack_counted-byte_len-requires : goal.pack_counted-byte_len-requires
pack_counted-byte_len-requires g c = record {
  whole = omega (arith, g.met.P.BitPacker.block_len, c.BLOCK_LEN.ensures, c.if-values-BLOCK_LEN.false);
  narrow = omega arith;
  room = omega (arith, mul-le g.P.BitPacker.lanes c.args.width 8 32 g.met.P.BitPacker.few_lanes (omega arith));
  fits = fits_greater _ c.width_counted.result c.args.width (omega arith) c.width_counted.ensures.width.fits;
}

pub returns : goal.returns
returns g c =
    IfOk-weaker c.format_bytes.result _ _ (λ answer is.
    Passed (λ other. other (omega (arith, g.met.P.BitPacker.block_len, c.BLOCK_LEN.ensures, c.if-values-BLOCK_LEN.false))) (Passed (λ wide. omega arith) (Passed (λ none. none (fits_greater _ c.width_counted.result c.args.width (omega arith) c.width_counted.ensures.width.fits)) (record {
      thing = take c.pack_counted-byte_len.result c.pack_counted-byte_len.new.compressed;
      fact = (c.format_bytes.ensures.range, rw c.pack_counted-byte_len.ensures.size c.pack_counted-byte_len.ensures.packed.bytes);
      answer_is = is;
    })))) c.format_bytes.ensures.answer
