-- All ids are below a number that is above all.
use Rattle.std.proofs.Common.{◌^◌, ◌∙◌, arith, sym}
use Rattle.bitpack_sets.proofs.ForCallers.{rank_whole}
use Rattle.bitpack_sets.specs.Opened.{ids}
use Rattle.bitpack_queries.proofs.lemmas.two.CountLaws.{set_is}
use Rattle.bitpack_queries.proofs.shifting.rank_below.Goals as goal

pub returns-else-number-lt-END_OF_IDS : goal.returns-else-number-lt-END_OF_IDS
returns-else-number-lt-END_OF_IDS c =
    c.len.ensures ∙ sym (rank_whole c.args.number 0 (2 ^ 32) (ids c.args.set.now) (set_is c.args.set.now).rising (omega (arith, c.if-number-lt-END_OF_IDS.false)))
