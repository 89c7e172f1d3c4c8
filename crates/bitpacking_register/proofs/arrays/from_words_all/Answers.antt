-- The array is the words.
use Rattle.std.proofs.Common.{ap, ◌∙◌}
use Rattle.bitpacking_register.specs.Words.{first_words}
use Rattle.bitpacking_register.proofs.WordLemmas.{AreWords-array, first_words-whole}
use Rattle.bitpacking_register.proofs.arrays.from_words_all.Goals as goal

pub returns : goal.returns
returns g c =
    ap (first_words _) c.copy_from_slice.ensures.after
    ∙ first_words-whole _ c.args.values.now (AreWords-array _ c.args.values.now c.requires c.type_inv.values)
