-- A number outside the range of counts is no count.
use Rattle.std.proofs.Common.{◌≡◌, ◌∙◌, arith, sym}
use Rattle.std.proofs.lemmas.Fmt.{decimal_injective}
use Rattle.bitpack.proofs.line.numbers.parse_count.Goals as goal
use Rattle.bitpack.proofs.line.numbers.parse_count.Goals.{then-count-lt-LEAST_COUNT-via-then-count-lt-LEAST_COUNT, then-count-lt-LEAST_COUNT-via-else-count-lt-LEAST_COUNT+then-count-gt-MOST_COUNT}

-- the number of the string is no count
pub returns-then-count-lt-LEAST_COUNT : goal.returns-then-count-lt-LEAST_COUNT
returns-then-count-lt-LEAST_COUNT c n (spelled, counts) =
    let (string_is, word) = c.in_ok-count.ensures in
    let same : c.in_ok-count.count ≡ n = decimal_injective _ n (omega arith) (omega arith) (sym string_is ∙ spelled) in
    elim c.then-count-lt-LEAST_COUNT.branch [
      | then-count-lt-LEAST_COUNT-via-then-count-lt-LEAST_COUNT w ↦ omega arith
      | then-count-lt-LEAST_COUNT-via-else-count-lt-LEAST_COUNT+then-count-gt-MOST_COUNT w ↦ omega arith
    ]
