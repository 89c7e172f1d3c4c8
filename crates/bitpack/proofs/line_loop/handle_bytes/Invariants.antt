-- How far the bytes were handled.
use Rattle.std.proofs.Common.{ℕ, Option, List, ◌++◌, take}
use Rattle.bitpack.specs.Lines.{AnsweredSoFar}
use Rattle.bitpack.proofs.line_loop.handle_bytes.Given as goal

-- the bytes so far were handled
abbrev pub invariant-loop-byte : goal.invariant-loop-byte
invariant-loop-byte g l = (before : Option (List ℕ)) (input : List ℕ) → AnsweredSoFar before (g.W.Write.contents l.fn.writer) l.fn.output input l.fn.line.items
    → AnsweredSoFar before (g.W.Write.contents l.writer) l.output (input ++ take l.byte-index l.bytes) l.line.items
