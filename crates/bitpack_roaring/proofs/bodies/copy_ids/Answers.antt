-- There is room for all of them.
use Rattle.bitpack_sets.specs.Opened.{ids}
use Rattle.bitpack_roaring.proofs.PartLaws.{copied}
use Rattle.bitpack_roaring.proofs.bodies.copy_ids.Goals as goal

pub returns : goal.returns
returns c =
    copied (ids c.args.set.now) c.copy_range.new.out c.args.out.now c.args.part.from c.args.part.count c.copy_range.result c.requires.size c.copy_range.ensures.len c.copy_range.ensures.ids
    c.copy_range.ensures.rest c.requires.within
