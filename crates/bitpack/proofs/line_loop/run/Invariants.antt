-- How far the input was handled.
use Rattle.std.proofs.Common.{◌≡◌, ℕ, List, []}
use Rattle.std.specs.Io.KnownBytes.{Consumes}
use Rattle.bitpack.specs.Lines.{AnsweredSoFar}
use Rattle.bitpack.proofs.line_loop.run.Given as goal

-- the lines that ended were answered, the answers are written, and the prefix of the unfinished line is there
abbrev pub invariant-loop : goal.invariant-loop
invariant-loop g l = (input : List ℕ) × Consumes (g.R.Read.remaining l.fn.reader) (g.R.Read.remaining l.reader) input
    × AnsweredSoFar (g.W.Write.contents l.fn.writer) (g.W.Write.contents l.writer) l.output input l.line.items × (l.output ≡ [])
