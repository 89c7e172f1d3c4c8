-- All ids are at most the greatest number.
use Rattle.std.proofs.Common.{◌+◌, ◌^◌, ◌∙◌, arith, sym}
use Rattle.bitpack_sets.proofs.lemmas.encodings.EncodingLaws.{ids_are_read}
use Rattle.bitpack_sets.proofs.lemmas.reads.CountLaws.{rank_whole}
use Rattle.bitpack_sets.proofs.id_set.IdSet.rank_after.Goals as goal
use Rattle.bitpack_sets.specs.Opened.{ids}

pub returns-then-id-eq4294967295 : goal.returns-then-id-eq4294967295
returns-then-id-eq4294967295 c =
    let set = c.args.self.now in
    let rising = (ids_are_read set.bytes.now set.are_bytes set.states.none).0.rising in
    c.len.ensures ∙ sym (rank_whole (c.args.id + 1) 0 (2 ^ 32) (ids set) rising (omega (arith, c.if-id-eq4294967295.true)))
