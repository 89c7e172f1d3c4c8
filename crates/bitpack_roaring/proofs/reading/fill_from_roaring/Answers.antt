-- The ids of all containers are counted.
use Rattle.std.proofs.Common.{◌∙◌, sym, ap, length}
use Rattle.bitpack_roaring.proofs.ChunkLaws.{all_counted}
use Rattle.bitpack_roaring.specs.Roaring.{ids_of}
use Rattle.bitpack_roaring.proofs.reading.fill_from_roaring.Goals as goal

pub write-requires-clause-count : goal.write-requires-clause-count
write-requires-clause-count c =
    c.in_ok-head.ensures.count ∙ sym (all_counted c.args.bytes.now (λ k. (c.type_inv.bytes k).fits) c.in_ok-head.ensures.fault) ∙ sym (ap (λ l. length (ids_of l)) c.in_ok-head.ensures.bytes)
