-- The first part of a row is a bound of those of its row and of the rows before.
use Rattle.bitpack_ranked.proofs.ScoreLemmas.{part_most}
use Rattle.std.proofs.Common.{◌≤◌, subst, sym, ℕ}
use Rattle.bitpack_ranked.specs.Scores.{part_at}
use Rattle.bitpack_ranked.proofs.parts.Parts.most.Goals as goal

pub returns : goal.returns
returns c = λ less class le.
    let parts = c.args.self.now in
    subst (λ (n : ℕ). part_at parts.table.now less class ≤ n) (sym c.part.ensures) (part_most parts.table.now parts.right less c.args.count class le)
