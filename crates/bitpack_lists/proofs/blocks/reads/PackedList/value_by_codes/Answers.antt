-- The codes of the block determine its values.
use Rattle.std.proofs.Common.{ℕ, take, get_or, ◌∙◌, ap, arith}
use Rattle.bitpacking.specs.Codes.{values_of}
use Rattle.bitpack_lists.specs.inner.BlockCodes.{codes_of_list}
use Rattle.bitpack_lists.proofs.blocks.reads.PackedList.value_by_codes.Goals as goal

pub returns-clause-value : goal.returns-clause-value
returns-clause-value g c =
    let list = c.args.self.now in
    let number : ℕ = c.args.number in
    let codes = ap (λ len. take len c.unpack_block_as.new.values) c.BLOCK_LEN.ensures ∙ c.unpack_block_as.ensures.block in
    c.value_of_codes.ensures ∙ ap (λ codes. get_or (values_of c.kind_of_block-kind.result codes) c.args.index 0) codes
    ∙ ap (λ kind. get_or (values_of kind (codes_of_list list number)) c.args.index 0) c.kind_of_block-kind.ensures.kind

pub returns-clause-reads : goal.returns-clause-reads
returns-clause-reads g c =
    let (entries, blocks) = c.unpack_block_as.ensures.reads in
    record {
      entries = omega (arith, c.kind_of_block-kind.ensures.one, entries);
      blocks = omega (arith, c.kind_of_block-kind.ensures.reads.blocks, blocks);
    }
