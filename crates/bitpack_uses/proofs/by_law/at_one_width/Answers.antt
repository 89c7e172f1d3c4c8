-- The law `one_least_width`: codes that fit a width fit every greater one.
use Rattle.std.proofs.Common.{◌*◌, arith}
use Rattle.std.proofs.lemmas.Nat.{mul-le}
use Rattle.bitpack_uses.proofs.by_law.at_one_width.Goals as goal

pub compress-requires : goal.compress-requires
compress-requires g c = record {
  whole = omega (arith, g.met.P.BitPacker.block_len);
  narrow = omega arith;
  room = omega (arith, g.met.P.BitPacker.block_len, mul-le (4 * g.P.BitPacker.lanes) c.max-width.result (4 * g.P.BitPacker.lanes) 32 (omega arith) (omega arith));
  fits = c.one_least_width.ensures.greater _ _ _ (omega arith) c.num_bits.ensures.width.fits;
}

pub compress-requires-2 : goal.compress-requires-2
compress-requires-2 g c = record {
  whole = omega (arith, g.met.P.BitPacker.block_len);
  narrow = omega arith;
  room = omega (arith, g.met.P.BitPacker.block_len, mul-le (4 * g.P.BitPacker.lanes) c.max-width.result (4 * g.P.BitPacker.lanes) 32 (omega arith) (omega arith));
  fits = c.one_least_width.ensures.greater _ _ _ (omega arith) c.num_bits-2.ensures.width.fits;
}
