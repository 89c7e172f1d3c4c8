-- The values of the codes found are the block, for each kind.
use Rattle.std.proofs.Common.{◌*◌, ◌^◌, ◌<◌, ℕ, take, arith}
use Rattle.bitpacking.specs.declared.kind.Kind.TheVariants.{Sorted, StrictlySorted}
use Rattle.bitpacking.specs.Codes.{start}
use Rattle.bitpacking.specs.Layout.{size}
use Rattle.bitpacking.proofs.Blocks.{Holds-values_of}
use Rattle.bitpacking.proofs.by_kind.unpack_kind.Goals as goal

pub returns-in-Sorted : goal.returns-in-Sorted
returns-in-Sorted g c =
    let lanes : ℕ = g.R.Register.LANES in
    let width : ℕ = c.args.num_bits in
    let unpacked = c.unpack_codes-in-Sorted.ensures.unpacked in
    let found = unpacked.block in
    let small : c.in-Sorted.initial < 2 ^ 32 = omega arith in
    rw c.in-Sorted.is (record {
      count = unpacked.count;
      unpacked = record {
        block = Holds-values_of lanes width (Sorted c.in-Sorted.initial) found.0
            (take (32 * lanes) c.unpack_codes-in-Sorted.new.decompressed) (take (size lanes width) c.args.compressed.now)
            c.requires.narrow small found.1 found.2;
        rest = unpacked.rest;
      };
      moves = c.unpack_codes-in-Sorted.ensures.counts;
    })

pub returns-in-StrictlySorted : goal.returns-in-StrictlySorted
returns-in-StrictlySorted g c =
    let lanes : ℕ = g.R.Register.LANES in
    let width : ℕ = c.args.num_bits in
    let unpacked = c.unpack_codes-in-StrictlySorted.ensures.unpacked in
    let found = unpacked.block in
    let small : start (StrictlySorted c.in-StrictlySorted.initial) < 2 ^ 32 =
    rw c.strict_start-start.ensures at c.strict_start-start.type_inv in
    rw c.in-StrictlySorted.is (record {
      count = unpacked.count;
      unpacked = record {
        block = Holds-values_of lanes width (StrictlySorted c.in-StrictlySorted.initial) found.0
            (take (32 * lanes) c.unpack_codes-in-StrictlySorted.new.decompressed) (take (size lanes width) c.args.compressed.now)
            c.requires.narrow small found.1 (rw c.strict_start-start.ensures at found.2);
        rest = unpacked.rest;
      };
      moves = c.unpack_codes-in-StrictlySorted.ensures.counts;
    })
