-- The first byte that is not below, or all of them.
use Rattle.std.proofs.Common.{◌∙◌}
use Rattle.bitpack_slices.proofs.lemmas.slices.RankLaws.{rank_found}
use Rattle.bitpack_slices.proofs.slice.matches.rank_of_bytes.Goals as goal

pub returns : goal.returns
returns c = c.min.ensures ∙ rank_found c.args.number c.args.count c.args.bytes c.requires.length c.requires.count c.requires.rising
