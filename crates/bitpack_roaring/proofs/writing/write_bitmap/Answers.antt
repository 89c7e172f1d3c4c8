-- The parts have their lengths, and are the bitmap.
use Rattle.bitpack_sets.specs.Opened.{ids}
use Rattle.bitpack_roaring.proofs.WriteSteps.{bitmap_is}
use Rattle.bitpack_roaring.proofs.writing.write_bitmap.Goals as goal

pub returns : goal.returns
returns c =
    bitmap_is (ids c.args.set.now) c.args.measured.containers c.args.keys c.args.start c.args.measured.runs c.args.offsets c.args.flags.now c.requires.containers c.requires.runs c.requires.keys
    c.requires.offsets c.requires.start c.requires.flags _ _ _ _ c.write_cookie.ensures c.write_containers.ensures.entries c.write_containers.ensures.starts c.write_containers.ensures.bodies
