-- The bit stands in its byte.
use Rattle.std.proofs.Common.{◌∙◌, ◌/◌, ◌%◌, ap, sym, eqb, ℕ, get_or}
use Rattle.std.proofs.lemmas.Nat.Bits.{shr_and_one}
use Rattle.bitpack_slices.proofs.lemmas.bits.CountLaws.{bytes_are}
use Rattle.bitpack_slices.proofs.lemmas.bodies.ReadLaws.{has_bit}
use Rattle.bitpack_slices.proofs.slice.search.in_bits.Goals as goal

pub returns : goal.returns
returns c =
    ap (λ (n : ℕ). eqb n 1) (shr_and_one (get_or c.args.bytes.now (c.args.number / 8) 0) (c.args.number % 8))
    ∙ sym (has_bit c.args.bytes.now c.args.number (bytes_are c.args.bytes.now (λ k. (c.type_inv.bytes k).fits)) c.requires c.ranges.number.fits)
