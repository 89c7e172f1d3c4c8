-- The value before a block is the last of the block before it.
use Rattle.std.proofs.Common.{◌≡◌, ◌+◌, ◌-◌, ◌*◌, ◌∙◌, ap, get_or, arith}
use Rattle.bitpack_columns.specs.Opened.{values}
use Rattle.bitpack_columns.proofs.OpenedLaws.{first_is, last_is, mark_is}
use Rattle.bitpack_columns.proofs.column.Column.value_before.Goals as goal

pub returns-then-block-eq0-clause-first : goal.returns-then-block-eq0-clause-first
returns-then-block-eq0-clause-first c = λ _. first_is c.args.self.now c.requires.sorted

pub returns-else-block-eq0-clause-later : goal.returns-else-block-eq0-clause-later
returns-else-block-eq0-clause-later c = λ some.
    let self = c.args.self.now in
    let block = c.args.block in
    let lt = c.requires.block in
    let same : 128 * (block - 1) + 127 ≡ 128 * block - 1 = omega arith in
    c.mark.ensures ∙ mark_is self (block - 1) (omega arith) ∙ last_is self c.requires.sorted (block - 1) (omega arith)
    ∙ ap (λ n. get_or (values self) n 0) same
