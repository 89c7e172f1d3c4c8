-- All scores are 0.
use Rattle.std.proofs.Common.{ℕ, arith}
use Rattle.std.proofs.lemmas.Simd.{get_or-replicate}
use Rattle.bitpack_ranked.proofs.among.copy.Goals as goal

pub returns-clause-scores : goal.returns-clause-scores
returns-clause-scores c = λ k lt. get_or-replicate {A = ℕ} 128 k 0 0 (omega (arith, lt, c.requires))
