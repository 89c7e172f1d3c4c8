-- The bitmap has the low 16 bits of the list.
use Rattle.std.proofs.Common.{List, ℕ, ◌∙◌, ◌+◌, ◌*◌, ap, map}
use Rattle.bitpack_slices.proofs.lemmas.bits.BitmapLaws.{has_none}
use Rattle.bitpack_slices.proofs.lemmas.bytes.FollowLaws.{follow_as}
use Rattle.bitpack_slices.proofs.lemmas.numbers.KeyLaws.{lows_in, mixed_of_key}
use Rattle.bitpack_slices.proofs.body.mix_list.Goals as goal
use Rattle.bitpack_slices.specs.Lists.{listed_ids}
use Rattle.bitpack_slices.specs.Operations.{combined}
use Rattle.bitpack_slices.specs.Selections.{parts_numbers}

pub set_bits-highs-requires : goal.set_bits-highs-requires
set_bits-highs-requires c x = has_none 1024 x

pub returns : goal.returns
returns c =
    let f : List ℕ → List ℕ = λ xs. map (λ low. c.args.key * 65536 + low) xs in
    let xs = lows_in (listed_ids c.args.list.now) in
    follow_as _ _ _ _ _ _ (ap f (mixed_of_key c.args.operation (parts_numbers c.new-blocks.result) xs c.set_bits-highs.result c.set_bits-highs.new.words c.set_bits-highs.ensures.bits c.set_bits-highs.ensures.highs
    ∙ ap (λ (numbers : List ℕ). combined 65536 c.args.operation numbers xs) c.new-blocks.ensures)) c.mix.ensures
