-- Where the values are not spelled, no request is.
use Rattle.std.proofs.Common.{Err, Global, Vec, [], ◌∷◌, ap, codes, ℕ, ◌∙◌}
use Rattle.std.proofs.lemmas.Result.{err_from_is_err_and}
use Rattle.bitpack.specs.Grammar.{SpellsValues}
use Rattle.bitpack.proofs.Requests.{fails_at}
use Rattle.bitpack.proofs.line.forms.parse_with_three.Goals as goal

pub returns-in_err-parse_values-in-pack : goal.returns-in_err-parse_values-in-pack
returns-in_err-parse_values-in-pack c =
    let p = err_from_is_err_and c.from_residual-in_err-parse_values-in-pack.result c.from_residual-in_err-parse_values-in-pack.ensures.1 in
    rw (c.in-pack.is) (fails_at (codes "pack") (c.args.first.now ∷ c.args.second.now ∷ c.args.third.now ∷ []) (λ (values : Vec ℕ Global). values.items) (SpellsValues c.args.third.now) _ c.in_err-parse_values-in-pack.field-0.0
    (p.1 ∙ ap Err p.2) c.in_err-parse_values-in-pack.ensures (λ spelled. (_, spelled.3)))
