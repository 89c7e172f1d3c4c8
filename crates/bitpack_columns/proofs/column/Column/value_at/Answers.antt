-- The value is in its block, or in the tail.
use Rattle.std.proofs.Common.{◌≡◌, ◌+◌, ◌*◌, ◌%◌, get_or, ◌∙◌, ap, arith}
use Rattle.std.proofs.lemmas.List.{get_or-drop}
use Rattle.bitpack_columns.specs.Opened.{blocks_of, values}
use Rattle.bitpack_columns.proofs.OpenedLaws.{value_in_its_block}
use Rattle.bitpack_columns.proofs.column.Column.value_at.Goals as goal

pub returns-then-block-blocks-clause-value : goal.returns-then-block-blocks-clause-value
returns-then-block-blocks-clause-value c = c.value_in_block.ensures.value ∙ value_in_its_block (values c.args.self.now) c.args.position

pub value_in_tail-requires : goal.value_in_tail-requires
value_in_tail-requires c =
    let lt = c.requires in
    omega (arith, c.blocks-2.ensures, c.if-block-blocks.false)

pub returns-clause-value : goal.returns-clause-value
returns-clause-value c =
    let self = c.args.self.now in
    let lt = c.requires in
    let here : 128 * blocks_of self + c.args.position % 128 ≡ c.args.position = omega (arith, c.blocks-2.ensures, c.if-block-blocks.false) in
    c.value_in_tail.ensures.value ∙ get_or-drop (128 * blocks_of self) (values self) (c.args.position % 128) 0 ∙ ap (λ n. get_or (values self) n 0) here
