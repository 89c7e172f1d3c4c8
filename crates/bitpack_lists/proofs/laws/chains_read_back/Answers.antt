-- The law is a lemma on chains.
use Rattle.bitpack_lists.proofs.lemmas.blocks.ChainLemmas.{chains_read_back}
use Rattle.bitpack_lists.proofs.laws.chains_read_back.Goals as goal

pub returns : goal.returns
returns c = chains_read_back
