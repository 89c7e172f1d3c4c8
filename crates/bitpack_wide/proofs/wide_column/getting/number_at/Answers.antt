-- After the last number there is none.
use Rattle.std.proofs.Common.{ℕ, List, Option, get_or, ap, sym, ◌∙◌}
use Rattle.std.specs.Prelude.{unwrap_or}
use Rattle.std.proofs.lemmas.Option.{unwrap_or-slice_get}
use Rattle.bitpack_columns.specs.Opened.{values}
use Rattle.bitpack_columns.specs.Stated.{values_in}
use Rattle.bitpack_wide.proofs.wide_column.getting.number_at.Goals as goal

pub returns-in-None : goal.returns-in-None
returns-in-None c =
    ap (λ (o : Option ℕ). unwrap_or o 0) (sym c.in-None.is ∙ c.get.ensures) ∙ unwrap_or-slice_get (values c.of_tested.result) c.args.position 0
    ∙ ap (λ (l : List ℕ). get_or (values_in l) c.args.position 0) c.of_tested.ensures.bytes
