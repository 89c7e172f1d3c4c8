-- The count that the encoding states is that of its ids.
use Rattle.std.proofs.Common.{◌∙◌}
use Rattle.bitpack_sets.proofs.lemmas.encodings.EncodingLaws.{count_stated}
use Rattle.bitpack_sets.proofs.id_set.IdSet.parts.Goals as goal

pub returns-clause-count : goal.returns-clause-count
returns-clause-count c = let set = c.args.self.now in set.states.count_is ∙ count_stated set.bytes.now set.are_bytes set.states.none
