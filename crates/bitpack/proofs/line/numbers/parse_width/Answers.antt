-- A number above those of widths is no width.
use Rattle.std.proofs.Common.{◌≡◌, ◌∙◌, arith, sym}
use Rattle.std.proofs.lemmas.Fmt.{decimal_injective}
use Rattle.bitpack.proofs.line.numbers.parse_width.Goals as goal

pub returns-then-number-gt-MOST_SMALL : goal.returns-then-number-gt-MOST_SMALL
returns-then-number-gt-MOST_SMALL c n (spelled, small) =
    let (string_is, word) = c.in_ok-number.ensures in
    let same : c.in_ok-number.number ≡ n = decimal_injective _ n (omega arith) (omega arith) (sym string_is ∙ spelled) in
    omega arith
