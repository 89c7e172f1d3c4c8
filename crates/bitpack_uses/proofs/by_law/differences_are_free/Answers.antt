-- The law `one_block`.
use Rattle.bitpacking.specs.declared.kind.Kind.TheVariants.{Sorted}
use Rattle.bitpacking.specs.Codes.{values_of}
use Rattle.bitpack_uses.proofs.by_law.differences_are_free.Goals as goal

pub returns : goal.returns
returns c = λ initial words small are.
    let (words_too, same, _) = c.one_block.ensures (Sorted initial) words small are in (values_of (Sorted initial) words, words_too, same)
