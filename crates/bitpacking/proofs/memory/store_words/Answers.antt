-- What is after the register is as it was.
use Rattle.bitpacking.proofs.WordsOfParts.{drop-slots}
use Rattle.bitpacking.proofs.memory.store_words.Goals as goal

pub returns-clause-rest : goal.returns-clause-rest
returns-clause-rest g c =
    drop-slots g.R.Register.LANES c.args.index c.LANES-len.result c.args.words.now c.to_words.new.values
    c.LANES-len.ensures c.requires c.to_words.auto.values
