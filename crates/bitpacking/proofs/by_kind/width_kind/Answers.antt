-- The codes of each kind are words.
use Rattle.bitpacking_register.specs.Deltas.{differences}
use Rattle.bitpacking.proofs.Blocks.{AreWords-differences, AreWords-less}
use Rattle.bitpacking.proofs.by_kind.width_kind.Goals as goal

pub width-requires-in-Sorted-clause-words : goal.width-requires-in-Sorted-clause-words
width-requires-in-Sorted-clause-words g c =
    rw c.new-source.ensures.words (AreWords-differences c.in-Sorted.initial c.args.decompressed.now)

pub width-requires-in-StrictlySorted-clause-words : goal.width-requires-in-StrictlySorted-clause-words
width-requires-in-StrictlySorted-clause-words g c =
    rw c.new-source.ensures.words (AreWords-less (differences c.strict_start.result c.args.decompressed.now))
