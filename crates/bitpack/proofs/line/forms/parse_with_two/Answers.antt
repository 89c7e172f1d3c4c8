-- Where the values are not spelled, no request is.
use Rattle.std.proofs.Common.{Err, Global, Vec, [], ◌∷◌, ap, codes, ℕ, ◌∙◌}
use Rattle.std.proofs.lemmas.Result.{err_from_is_err_and}
use Rattle.bitpack.specs.Grammar.{SpellsValues}
use Rattle.bitpack.proofs.Requests.{fails_at}
use Rattle.bitpack.proofs.line.forms.parse_with_two.Goals as goal

pub returns-in_err-parse_values-in-width : goal.returns-in_err-parse_values-in-width
returns-in_err-parse_values-in-width c =
    let p = err_from_is_err_and c.from_residual-in_err-parse_values-in-width.result c.from_residual-in_err-parse_values-in-width.ensures.1 in
    rw (c.in-width.is) (fails_at (codes "width") (c.args.first.now ∷ c.args.second.now ∷ []) (λ (values : Vec ℕ Global). values.items) (SpellsValues c.args.second.now) _ c.in_err-parse_values-in-width.field-0.0
    (p.1 ∙ ap Err p.2) c.in_err-parse_values-in-width.ensures (λ spelled. (_, spelled.2)))

pub returns-in_err-parse_values-in-enc : goal.returns-in_err-parse_values-in-enc
returns-in_err-parse_values-in-enc c =
    let p = err_from_is_err_and c.from_residual-in_err-parse_values-in-enc.result c.from_residual-in_err-parse_values-in-enc.ensures.1 in
    rw (c.in-enc.is) (fails_at (codes "enc") (c.args.first.now ∷ c.args.second.now ∷ []) (λ (values : Vec ℕ Global). values.items) (SpellsValues c.args.second.now) _ c.in_err-parse_values-in-enc.field-0.0
    (p.1 ∙ ap Err p.2) c.in_err-parse_values-in-enc.ensures (λ spelled. (_, spelled.2)))
