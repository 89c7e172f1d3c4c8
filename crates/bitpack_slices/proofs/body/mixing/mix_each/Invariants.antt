-- The numbers of the high bytes that are left come next.
use Rattle.std.proofs.Common.{◌≡◌, ◌+◌, drop, length, map}
use Rattle.bitpack_slices.proofs.lemmas.bytes.FollowLaws.{IsLeft}
use Rattle.bitpack_slices.proofs.lemmas.bodies.MixLaws.{AreHighs, mixes}
use Rattle.bitpack_slices.proofs.lemmas.bits.UnpackLaws.{by_high}
use Rattle.bitpack_slices.proofs.body.mixing.mix_each.Given as goal

abbrev pub invariant-loop-high : goal.invariant-loop-high
invariant-loop-high l = record {
  highs : AreHighs (mixes l.operation l.blocks l.others l.words) l.high-items;
  size : length l.out ≡ length l.fn.out;
  left : IsLeft (map (λ i. l.base + i) (by_high (mixes l.operation l.blocks l.others l.words) l.high-items)) l.fn.out l.out l.at l.next
      (map (λ i. l.base + i) (by_high (mixes l.operation l.blocks l.others l.words) (drop l.high-index l.high-items)));
}
