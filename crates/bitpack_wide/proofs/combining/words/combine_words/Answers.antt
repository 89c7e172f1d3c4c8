-- All high words are written.
use Rattle.std.proofs.Common.{[], ap, ◌∙◌, arith}
use Rattle.bitpack_slices.proofs.ForCallers.{left_none}
use Rattle.bitpack_wide.proofs.HeadLaws.{nothing_left, word_end}
use Rattle.bitpack_wide.proofs.combining.words.combine_words.Goals as goal
use Rattle.bitpack_wide.specs.Combined.{answer}
use Rattle.bitpack_wide.specs.Forms.{directory_ids}
use Rattle.bitpack_wide.specs.inner.Merging.{left_of}

pub returns-clause-written : goal.returns-clause-written
returns-clause-written c =
    let a = c.args.a in
    let b = c.args.b in
    left_none (answer c.args.operation (directory_ids a) (directory_ids b)) c.args.out.now c.loop-i.out 0 c.loop-i.at (answer c.args.operation (left_of a c.loop-i.i) (left_of b c.loop-i.j))
    (ap (λ xs. answer c.args.operation xs (left_of b c.loop-i.j)) (word_end a c.loop-i.i (omega (arith, c.if-i-a.false))) ∙ ap (answer c.args.operation []) (word_end b c.loop-i.j (omega (arith, c.if-j-b.false))) ∙ nothing_left c.args.operation)
    c.loop-i.invariant.left
