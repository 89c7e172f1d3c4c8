-- The bits of one word more are counted.
use Rattle.std.proofs.Common.{◌*◌, ap, arith}
use Rattle.std.specs.Int.RustNames.{count_ones}
use Rattle.std.proofs.lemmas.Nat.{ones-le}
use Rattle.bitpack_slices.proofs.lemmas.bits.CountLaws.{bits_done, bytes_are}
use Rattle.bitpack_slices.proofs.lemmas.bits.IncreaseLaws.{word_bits}
use Rattle.bitpack_slices.proofs.slice.testing.count_in_words.Goals as goal

pub loop-i-preserved : goal.loop-i-preserved
loop-i-preserved c =
    let next = word_bits c.loop-i.i c.args.bytes.now (bytes_are c.args.bytes.now (λ k. (c.type_inv.bytes k).fits)) in
    let few = ones-le 64 c.word_at.result c.word_at.type_inv in
    let same = ap count_ones c.word_at.ensures in
    record { few = omega arith; counted = omega arith }

pub returns : goal.returns
returns c = let none = bits_done c.args.bytes.now (8 * c.loop-i.i) (omega arith) in omega arith
