-- The body of a block unpacks to the block.
use Rattle.std.proofs.Common.{ℕ, ◌∙◌, ap}
use Rattle.bitpacking.specs.Codes.{values_of}
use Rattle.bitpack_lists.specs.inner.BlockCodes.{codes_of_list}
use Rattle.bitpack_lists.proofs.blocks.reads.PackedList.unpack_block.Goals as goal

pub returns-clause-block : goal.returns-clause-block
returns-clause-block g c =
    let list = c.args.self.now in
    let number : ℕ = c.args.block.number in
    c.unpack_block_as.ensures.block ∙ ap (λ kind. values_of kind (codes_of_list list number)) c.requires.block.kind_is
