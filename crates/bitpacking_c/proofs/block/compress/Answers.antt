use Rattle.std.proofs.Common.{arith, rules}
use Rattle.bitpacking.specs.Codes.{codes}
use Rattle.bitpacking_c.proofs.block.compress.Goals as goal

pub pack_counted-requires : goal.pack_counted-requires
pack_counted-requires g c = record {
  whole = search rules;
  narrow = omega (arith, c.if-num_bits-gt-MAX_WIDTH.false);
  room = search rules;
  fits = c.one_least_width.ensures.greater (codes c.args.kind c.args.decompressed.now) c.width_counted.result c.args.num_bits
      (omega (arith, c.if-width_counted-num_bits.false)) c.width_counted.ensures.width.fits;
}
