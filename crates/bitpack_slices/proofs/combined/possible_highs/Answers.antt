-- A high byte that is left out is in neither, or for `And` not in both.
use Rattle.std.proofs.Common.{true, false, ◌∙◌, ap, sym}
use Rattle.std.proofs.lemmas.Bool.{and_parts, true≢false}
use Rattle.bitpack_slices.proofs.lemmas.bits.CombineLaws.{IsLeftOut, left_out_and, left_out_or, retains_one}
use Rattle.bitpack_slices.proofs.combined.possible_highs.Goals as goal
use Rattle.bitpack_slices.proofs.combined.possible_highs.Goals.{in-And, in_default}
use Rattle.bitpack_slices.specs.Bitmaps.{has_bit}
use Rattle.bitpack_slices.specs.Operations.{apply}
use Rattle.bitpack_slices.specs.declared.operation.Operation.{Operation}

pub returns-clause-both : goal.returns-clause-both
returns-clause-both c h small none =
    let e = sym (c.combined_words.ensures h small) ∙ none in
    let out : IsLeftOut c.args.operation (has_bit c.args.a.now h) (has_bit c.args.b.now h) = elim c.match-operation.branch [
      | in-And w ↦ left_out_and c.args.operation c.match-operation.wider (has_bit c.args.a.now h) (has_bit c.args.b.now h) w.in-And.is w.wider-is e
      | in_default w ↦ left_out_or c.args.operation c.match-operation.wider (has_bit c.args.a.now h) (has_bit c.args.b.now h) w.wider-is e
    ] in
    out.0

pub returns-clause-left : goal.returns-clause-left
returns-clause-left c h small none =
    let e = sym (c.combined_words.ensures h small) ∙ none in
    let out : IsLeftOut c.args.operation (has_bit c.args.a.now h) (has_bit c.args.b.now h) = elim c.match-operation.branch [
      | in-And w ↦ left_out_and c.args.operation c.match-operation.wider (has_bit c.args.a.now h) (has_bit c.args.b.now h) w.in-And.is w.wider-is e
      | in_default w ↦ left_out_or c.args.operation c.match-operation.wider (has_bit c.args.a.now h) (has_bit c.args.b.now h) w.wider-is e
    ] in
    out.1

pub returns-clause-right : goal.returns-clause-right
returns-clause-right c h small none =
    let e = sym (c.combined_words.ensures h small) ∙ none in
    let out : IsLeftOut c.args.operation (has_bit c.args.a.now h) (has_bit c.args.b.now h) = elim c.match-operation.branch [
      | in-And w ↦ left_out_and c.args.operation c.match-operation.wider (has_bit c.args.a.now h) (has_bit c.args.b.now h) w.in-And.is w.wider-is e
      | in_default w ↦ left_out_or c.args.operation c.match-operation.wider (has_bit c.args.a.now h) (has_bit c.args.b.now h) w.wider-is e
    ] in
    out.2

pub returns-clause-in_left : goal.returns-clause-in_left
returns-clause-in_left c = λ lacks h small is.
    let e = sym (c.combined_words.ensures h small) ∙ is in
    elim c.match-operation.branch [
      | in-And w ↦ (and_parts _ _ (sym (ap (λ (o : Operation). apply o (has_bit c.args.a.now h) (has_bit c.args.b.now h)) w.wider-is) ∙ e)).0
      | in_default w ↦ absurd (true≢false (sym (retains_one c.args.operation w.in_default.not-And w.in_default.not-AndNot).1 ∙ lacks))
    ]

pub returns-clause-in_right : goal.returns-clause-in_right
returns-clause-in_right c = λ lacks h small is.
    let e = sym (c.combined_words.ensures h small) ∙ is in
    elim c.match-operation.branch [
      | in-And w ↦ (and_parts _ _ (sym (ap (λ (o : Operation). apply o (has_bit c.args.a.now h) (has_bit c.args.b.now h)) w.wider-is) ∙ e)).1
      | in_default w ↦ absurd (true≢false (sym (retains_one c.args.operation w.in_default.not-And w.in_default.not-AndNot).0 ∙ lacks))
    ]

pub returns-in-AndNot-clause-in_right : goal.returns-in-AndNot-clause-in_right
returns-in-AndNot-clause-in_right c = λ lacks h small is. absurd (true≢false (sym (ap (λ (o : Operation). apply o true false) c.in-AndNot.is) ∙ lacks))
