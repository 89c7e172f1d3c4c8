-- Each lane has the word.
use Rattle.std.proofs.Common.{replicate}
use Rattle.bitpacking_register.proofs.WordLemmas.{AreWords-replicate, first_words-whole}
use Rattle.bitpacking_register.proofs.arrays.splat_all.Goals as goal

pub returns : goal.returns
returns g c =
    first_words-whole _ (replicate _ c.args.word) (AreWords-replicate _ c.args.word c.ranges.word)
