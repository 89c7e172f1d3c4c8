-- The law `strict_saves_at_most_a_bit`, with the two widths.
use Rattle.std.proofs.Common.{◌≡◌, ◌⊎◌, ◌+◌, ◌^◌, ◌<◌, ◌∷◌, arith}
use Rattle.std.proofs.lemmas.List.Elements.{All-cons}
use Rattle.bitpacking.specs.Codes.{AreWords}
use Rattle.bitpacking.proofs.ForCallers.{AreWords-from_slice}
use Rattle.bitpack_uses.proofs.Sizes.{saved}
use Rattle.bitpack_uses.proofs.by_law.saved_bits.Goals as goal

law : (g : _) (c : goal.After-num_bits_strictly_sorted g) → (c.num_bits_strictly_sorted.result ≡ c.num_bits_sorted-sorted.result) ⊎ (c.num_bits_strictly_sorted.result + 1 ≡ c.num_bits_sorted-sorted.result)
law g c =
    let words : AreWords (c.args.initial ∷ c.args.block.now) = All-cons (λ v. v < 2 ^ 32) _ _ (omega arith) (AreWords-from_slice _ c.type_inv.block) in
    c.strict_saves_at_most_a_bit.ensures c.args.initial c.args.block.now _ _ words c.requires.order
    c.num_bits_sorted-sorted.ensures.width c.num_bits_strictly_sorted.ensures.width

pub overflow_sub-result : goal.overflow_sub-result
overflow_sub-result g c = (saved _ _ (law g c)).0

pub returns-clause-few : goal.returns-clause-few
returns-clause-few g c = (saved _ _ (law g c)).1

pub returns-clause-saved : goal.returns-clause-saved
returns-clause-saved g c = (_, _, c.num_bits_sorted-sorted.ensures.width, c.num_bits_strictly_sorted.ensures.width, omega (arith, (saved _ _ (law g c)).0))
