-- A set that was opened has increasing ids, and the table that was tested is that of the term.
use Rattle.std.proofs.Common.{length, sym, ap, ◌∙◌, subst}
use Rattle.bitpack_ranked.specs.Scores.{IsTable}
use Rattle.bitpack_sets.specs.Sets.{IsSet}
use Rattle.bitpacking_c.proofs.TermSteps.{of_table}
use Rattle.bitpacking_c.proofs.ranking.bitpacking_term_start.Goals as goal

pub invariant_of-term : goal.invariant_of-term
invariant_of-term c =
    let set = c.as_set.result in record {
      is_set = subst (λ ids. IsSet ids) c.as_set.ensures (c.one_encoding.ensures.read set.bytes.now set.are_bytes set.states.none).0;
      pairs = ap length (sym c.column.ensures.values) ∙ sym c.len-2.ensures ∙ sym c.if-len.false ∙ c.len.ensures ∙ ap length c.as_set.ensures;
      right = of_table c.args.table.now (subst (λ table. IsTable table) c.in-Some.ensures.table c.in-Some.field-0.right);
    }
