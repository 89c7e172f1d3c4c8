-- The ids of all containers are counted.
use Rattle.std.proofs.Common.{◌∙◌, sym}
use Rattle.bitpack_roaring.specs.Roaring.{containers}
use Rattle.bitpack_roaring.proofs.ChunkLaws.{each_tested, ids_counted}
use Rattle.bitpack_roaring.proofs.testing.test_roaring.Goals as goal

pub returns-clause-count : goal.returns-clause-count
returns-clause-count c =
    c.in_ok-count.ensures.count
    ∙ sym (ids_counted c.args.bytes.now (containers c.args.bytes.now) (each_tested c.args.bytes.now (λ k. (c.type_inv.bytes k).fits) c.in_ok-count.ensures.fault))
