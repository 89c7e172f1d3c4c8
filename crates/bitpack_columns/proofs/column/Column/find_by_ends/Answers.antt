-- The positions between the ends are written, as many as fit.
use Rattle.std.proofs.Common.{◌≡◌, ◌-◌, ℕ, min, max, length, take, ◌∙◌, ap, arith}
use Rattle.std.specs.List.{range_with_len}
use Rattle.std.proofs.lemmas.List.{length-take-le}
use Rattle.bitpack_columns.specs.Opened.{values}
use Rattle.bitpack_columns.proofs.WithinLaws.{ends_written}
use Rattle.bitpack_columns.proofs.column.Column.find_by_ends.Goals as goal

pub returns-clause-found : goal.returns-clause-found
returns-clause-found c =
    let ends = c.ends_of-first in
    let count : ℕ = c.min-count.result in
    let start : c.max-start.result ≡ max ends.result.0 c.args.from = omega (arith, c.max-start.ensures) in
    let fits : count ≡ min (ends.result.1 - max ends.result.0 c.args.from) (length c.args.out.now) =
    omega (arith, start, c.saturating_sub.ensures, c.min-count.ensures) in
    let long : length (take count c.args.out.now) ≡ count = length-take-le count c.args.out.now (omega (arith, fits)) in
    let written : c.count_up.new.out ≡ range_with_len (max ends.result.0 c.args.from) count =
    c.count_up.ensures ∙ ap (λ n. range_with_len n (length (take count c.args.out.now))) start
    ∙ ap (range_with_len (max ends.result.0 c.args.from)) long in
    ends_written c.args.low c.args.high (values c.args.self.now) c.args.from ends.result.0 ends.result.1 count c.args.out.now c.count_up.new.out
    ends.ensures.from ends.ensures.end fits written
