-- Each position is in the column, whose values are the view's.
use Rattle.std.proofs.Common.{ℕ, List, length, Some, sym, subst, ◌∙◌, ap, arith, rules, get_or}
use Rattle.std.proofs.lemmas.Option.{slice_get-get_or}
use Rattle.bitpack_columns.specs.Gathering.{AreWithin}
use Rattle.bitpack_columns.specs.Ranges.{HasAll}
use Rattle.bitpack_columns.specs.Stated.{values_in}
use Rattle.bitpacking_c.proofs.column_queries.bitpacking_column_gather.Goals as goal

pub returns-in-Ok : goal.returns-in-Ok
returns-in-Ok c =
    let is = c.in-Ok.ensures in
    let positions : List ℕ = c.args.positions.now in
    let all : List ℕ = values_in c.args.view.now.bytes.now in
    let within : AreWithin (length all) positions = subst (λ xs. AreWithin (length xs) positions) c.column.ensures.values is.within in
    let has : HasAll all positions c.gather.new.out = subst (λ xs. HasAll xs positions c.gather.new.out) c.column.ensures.values is.ok in
    record {
      short = λ less. absurd (omega (arith, less, c.if-values-positions.false));
      beyond = λ room k lt past. let here = within k lt in absurd (omega (arith, here, past));
      gathered = λ room are.
          (search rules, (λ k lt. slice_get-get_or all (get_or positions k 0) 0 (within k lt) ∙ ap Some (sym (has.each k lt))), is.rest);
    }
