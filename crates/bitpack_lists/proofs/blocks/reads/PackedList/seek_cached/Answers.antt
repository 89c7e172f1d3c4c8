-- Where no block ends with the target or more, all values of the blocks are below it.
use Rattle.std.proofs.Common.{arith}
use Rattle.bitpack_lists.specs.inner.Searching.{blocks_of}
use Rattle.bitpack_lists.proofs.lemmas.opened.OpenedLists.{opened_before}
use Rattle.bitpack_lists.proofs.blocks.reads.PackedList.seek_cached.Goals as goal

pub returns-in-None-clause-found : goal.returns-in-None-clause-found
returns-in-None-clause-found g c =
    c.seek_in_tail.ensures.found
    (opened_before c.args.self.now g.met.P.BitPacker.some_lanes c.requires.ordered c.args.target (blocks_of c.args.self.now) c.in-None.ensures.found.before (omega arith))
