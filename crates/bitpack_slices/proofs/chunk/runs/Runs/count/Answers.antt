-- Two boundaries make a run, and the last may be alone.
use Rattle.std.proofs.Common.{arith}
use Rattle.bitpack_slices.proofs.lemmas.numbers.HalfLaws.{pairs_len}
use Rattle.bitpack_slices.proofs.chunk.runs.Runs.count.Goals as goal

pub returns-clause-below : goal.returns-clause-below
returns-clause-below c index h = let size = pairs_len c.args.self.bounds.now in omega arith

pub returns-clause-all : goal.returns-clause-all
returns-clause-all c = let size = pairs_len c.args.self.bounds.now in omega arith
