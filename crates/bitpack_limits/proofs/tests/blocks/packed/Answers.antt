-- A block of the test has codes that fit its width.
use Rattle.std.proofs.Common.{◌≤◌, rules}
use Rattle.bitpacking.specs.Codes.{codes}
use Rattle.bitpack_limits.proofs.tests.blocks.packed.Goals as goal

-- the width is at least the least
pub compress_kind-requires : goal.compress_kind-requires
compress_kind-requires g c =
    let wide : c.num_bits_kind-least.result ≤ c.args.num_bits = search rules in
    record {
      whole = search rules;
      narrow = search rules;
      room = search rules;
      fits = c.one_least_width.ensures.greater (codes c.args.kind c.args.block.now) c.num_bits_kind-least.result c.args.num_bits wide
          c.num_bits_kind-least.ensures.width.fits;
    }
