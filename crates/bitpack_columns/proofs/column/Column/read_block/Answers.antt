-- A block, or the tail after all blocks.
use Rattle.std.proofs.Common.{◌≡◌, ◌<◌, ◌*◌, ◌%◌, ℕ, List, length, sym, ◌∙◌, ap, arith}
use Rattle.std.proofs.lemmas.List.{length-drop, length-take, take_all, take_at}
use borrow.Rule.Slice.PartMut.{post_of}
use Rattle.bitpack_columns.specs.Columns.{block_of}
use Rattle.bitpack_columns.specs.Opened.{blocks_of, values}
use Rattle.bitpack_columns.proofs.OpenedLaws.{length-block_of, some_values}
use Rattle.bitpack_columns.proofs.TailReads.{last_block, left_is}
use Rattle.bitpack_columns.proofs.column.Column.read_block.Goals as goal

pub returns-then-block-blocks-clause-values : goal.returns-then-block-blocks-clause-values
returns-then-block-blocks-clause-values c =
    let self = c.args.self.now in
    let e = c.unpack_block.ensures in
    let lt : c.args.block < blocks_of self = omega (arith, c.blocks-2.ensures, c.if-block-blocks.true) in
    take_all 128 c.unpack_block.new.out (omega (arith, ap length e, length-block_of (values self) c.args.block (some_values self c.args.block lt))) ∙ e

pub unpack_tail-requires : goal.unpack_tail-requires
unpack_tail-requires c = omega (arith, length-take (c.args.self.now.count % 128) c.args.out.now, left_is c.args.self.now)

pub returns-clause-values : goal.returns-clause-values
returns-clause-values c =
    let self = c.args.self.now in
    let all : List ℕ = values self in
    let count : ℕ = self.count % 128 in
    let e = c.unpack_tail.ensures in
    let here : blocks_of self ≡ c.args.block = omega (arith, c.requires, c.blocks-2.ensures, c.if-block-blocks.false) in
    let long : length c.unpack_tail.new.out ≡ count = omega (arith, ap length e, length-drop (128 * blocks_of self) all, left_is self) in
    take_at c.unpack_tail.new.out (post_of 0 count c.args.out.now) count long ∙ e ∙ sym (last_block all (blocks_of self) (omega arith))
    ∙ ap (λ m. block_of m all) here
