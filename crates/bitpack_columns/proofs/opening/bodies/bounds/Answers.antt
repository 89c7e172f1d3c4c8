-- One code more.
use Rattle.std.proofs.Common.{◌≡◌, ◌≤◌, ℕ, List, add-one, ap, arith, get_or, length, max, min, refl, slice_index, sym, ◌∙◌}
use Rattle.std.proofs.lemmas.List.{take_all}
use Rattle.bitpack_columns.specs.Columns.{least}
use Rattle.bitpack_columns.specs.Numbers.{greatest}
use Rattle.bitpack_columns.proofs.LeastLaws.{least_more, least_none, most_of}
use Rattle.bitpack_columns.proofs.opening.bodies.bounds.Goals as goal

pub loop-index-init : goal.loop-index-init
loop-index-init c = record { least = sym least_none; greatest = refl }

pub loop-index-preserved : goal.loop-index-preserved
loop-index-preserved c =
    let codes : List ℕ = c.args.codes.now in
    let i : ℕ = c.loop-index.index in
    record {
      least =
          c.min-least.ensures ∙ ap (λ (n : ℕ). min n (get_or codes i 0)) c.loop-index.invariant.least
          ∙ sym (least_more codes i c.loop-index-test.true);
      greatest =
          c.max-greatest.ensures ∙ most_of c.loop-index.greatest (get_or codes i 0) ∙ ap (λ (n : ℕ). max n (get_or codes i 0)) c.loop-index.invariant.greatest
          ∙ ap (greatest (slice_index codes)) (sym (add-one i));
    }

pub returns-clause-least : goal.returns-clause-least
returns-clause-least c =
    let all : length c.args.codes.now ≤ c.loop-index.index = omega arith in
    c.loop-index.invariant.least ∙ ap least (take_all c.loop-index.index c.args.codes.now all)

pub returns-clause-greatest : goal.returns-clause-greatest
returns-clause-greatest c =
    let e : c.loop-index.index ≡ length c.args.codes.now = omega arith in
    c.loop-index.invariant.greatest ∙ ap (greatest (slice_index c.args.codes.now)) e
