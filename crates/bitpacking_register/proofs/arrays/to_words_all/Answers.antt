-- The words are the array.
use Rattle.std.proofs.Common.{rules, sym, ◌∙◌}
use Rattle.bitpacking_register.proofs.WordLemmas.{AreWords-array, first_words-whole}
use Rattle.bitpacking_register.proofs.arrays.to_words_all.Goals as goal

pub returns : goal.returns
returns g c =
    c.copy_from_slice.ensures.after
    ∙ sym (first_words-whole _ c.args.words (AreWords-array _ _ (search rules) (search rules)))
