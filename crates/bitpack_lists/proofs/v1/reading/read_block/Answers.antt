-- The zeros that were appended become the block.
use Rattle.std.proofs.Common.{◌≡◌, ℕ, List, length, replicate, arith}
use Rattle.bitpack_lists.proofs.lemmas.blocks.ReadSteps.{written_over}
use Rattle.bitpack_lists.proofs.v1.reading.read_block.Goals as goal

pub returns : goal.returns
returns g c =
    let old : List ℕ = c.args.out.now.items in
    let zeros : List ℕ = replicate c.BLOCK_LEN.result 0 in
    let block : List ℕ = c.unpack_block.new.block in
    let from : c.len-from.result ≡ length old = omega (arith, c.len-from.ensures, c.args.out.now.ok) in
    let long : length block ≡ length zeros =
    omega (arith, c.unpack_block.auto.block, c.slice_mut.ensures.len, c.append_zeros.ensures.len, c.len-from.ensures) in
    let all : c.append_zeros.new.out.len ≡ length c.append_zeros.new.out.items = omega (arith, c.append_zeros.new.out.ok) in
    let items = written_over old zeros c.append_zeros.new.out.items block c.len-from.result c.append_zeros.new.out.len c.append_zeros.ensures.items from long all in
    record {
      block = (
        block,
        record {
          items = items;
          len = omega (arith, c.append_zeros.ensures.len, long);
          capacity = omega (arith, c.append_zeros.ensures.capacity);
        },
        c.unpack_block.ensures.block,
      );
    }
