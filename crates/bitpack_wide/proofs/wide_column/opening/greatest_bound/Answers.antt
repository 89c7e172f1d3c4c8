-- One bound more.
use Rattle.std.proofs.Common.{ℕ, add-one, ap, max, sym, ◌∙◌}
use Rattle.bitpack_groups.specs.Numbers.{greatest}
use Rattle.bitpack_wide.specs.WideColumnReads.{bound_at}
use Rattle.bitpack_wide.proofs.WideTables.{most_is}
use Rattle.bitpack_wide.proofs.wide_column.opening.greatest_bound.Goals as goal

pub loop-index-preserved : goal.loop-index-preserved
loop-index-preserved c =
    c.max-most.ensures ∙ most_is c.loop-index.most c.bound_at.result ∙ ap (λ (n : ℕ). max n c.bound_at.result) c.loop-index.invariant
    ∙ ap (max (greatest (bound_at c.args.rest.now) c.loop-index.index)) c.bound_at.ensures ∙ ap (greatest (bound_at c.args.rest.now)) (sym (add-one c.loop-index.index))
