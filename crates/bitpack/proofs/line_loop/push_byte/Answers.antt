-- The prefix of a line grows by the byte, or is full.
use Rattle.std.proofs.Common.{◌∙◌, arith}
use Rattle.bitpack.proofs.LineLemmas.{line_prefix-grows, line_prefix-full}
use Rattle.bitpack.proofs.line_loop.push_byte.Goals as goal

pub returns-in_ok-push : goal.returns-in_ok-push
returns-in_ok-push c = λ started e. c.in_ok-push.ensures.items ∙ line_prefix-grows _ started c.args.byte e (omega arith)

pub returns-else-len-le-LINE_LIMIT : goal.returns-else-len-le-LINE_LIMIT
returns-else-len-le-LINE_LIMIT c = λ started e. line_prefix-full _ started c.args.byte e (omega arith)
