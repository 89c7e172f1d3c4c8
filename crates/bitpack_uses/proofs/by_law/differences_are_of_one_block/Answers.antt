-- The law `one_block`: words are the codes of no other block.
use Rattle.std.proofs.Common.{◌∙◌, refl, sym}
use Rattle.bitpacking.specs.declared.kind.Kind.TheVariants.{Sorted}
use Rattle.bitpack_uses.proofs.by_law.differences_are_of_one_block.Goals as goal

pub returns : goal.returns
returns c = λ initial block other small are others words same.
    let (_, _, only) = c.one_block.ensures (Sorted initial) _ small words in only other others same ∙ sym (only block are refl)
