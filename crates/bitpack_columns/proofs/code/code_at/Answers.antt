-- The bits of a code are in two words.
use Rattle.bitpacking.proofs.ForCallers.{AreBytes-from_slice}
use Rattle.bitpack_columns.proofs.CodeWords.{code_by_words, no_code}
use Rattle.bitpack_columns.proofs.code.code_at.Goals as goal

pub returns-then-width-eq0 : goal.returns-then-width-eq0
returns-then-width-eq0 c = no_code c.args.width c.args.body.now c.args.index c.if-width-eq0.true c.requires.index

pub returns : goal.returns
returns c =
    let body = c.args.body.now in
    let code = code_by_words c.args.width c.args.index body (AreBytes-from_slice body c.type_inv.body) c.requires.width c.requires.body c.requires.index
    c.min-next.result c.min-next.ensures in
    rw (c.word_at-low.ensures, c.word_at-high.ensures) code
