-- The values so far were put.
use Rattle.std.proofs.Common.{◌∷◌, ◌++◌, get_or, take}
use Rattle.bitpack.specs.Answers.{printed_values}
use Rattle.bitpack.specs.Lines.{AppendsBut}
use Rattle.bitpack.proofs.answer.printing.put_values.Given as goal

abbrev pub invariant-loop-value : goal.invariant-loop-value
invariant-loop-value g l = AppendsBut (g.W.Write.contents l.fn.writer) (g.W.Write.contents l.writer)
    (l.fn.output ++ printed_values (get_or l.values 0 0 ∷ take l.value-index l.rest)) l.output
