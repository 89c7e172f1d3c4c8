-- One value more is compared.
use Rattle.std.proofs.Common.{◌≡◌, ◌+◌, ◌≤◌, ℕ, List, ap, arith, drop, get_or, length, sym, ◌∙◌}
use Rattle.std.proofs.lemmas.List.{drop_all, drop_more}
use Rattle.bitpack_columns.specs.Faults.{first_below}
use Rattle.bitpack_columns.proofs.OutLaws.{below_done, below_here, below_next}
use Rattle.bitpack_columns.proofs.opening.order.first_fall.Goals as goal

pub loop-index-init : goal.loop-index-init
loop-index-init c =
    let e : c.args.position + 0 ≡ c.args.position = omega arith in
    record { values = c.to_values.ensures; left = ap (λ (n : ℕ). first_below n c.args.before c.to_values.new.codes) e }

pub returns-then-value-last : goal.returns-then-value-last
returns-then-value-last c =
    let i : ℕ = c.loop-index.index in
    let values : List ℕ = c.to_values.new.codes in
    let at : ℕ = c.args.position + i in
    sym (ap (first_below c.args.position c.args.before) (sym c.loop-index.invariant.values)
    ∙ sym c.loop-index.invariant.left ∙ ap (first_below at c.loop-index.last) (drop_more values i 0 c.loop-index-test.true)
    ∙ below_here at c.loop-index.last (get_or values i 0) (drop (i + 1) values) c.if-value-last.true)

pub loop-index-preserved : goal.loop-index-preserved
loop-index-preserved c =
    let i : ℕ = c.loop-index.index in
    let values : List ℕ = c.to_values.new.codes in
    let at : ℕ = c.args.position + i in
    let e : at + 1 ≡ c.args.position + (i + 1) = omega arith in
    record {
      values = c.loop-index.invariant.values;
      left =
          sym (ap (λ (n : ℕ). first_below n (get_or values i 0) (drop (i + 1) values)) e)
          ∙ sym (below_next at c.loop-index.last (get_or values i 0) (drop (i + 1) values) c.if-value-last.false)
          ∙ sym (ap (first_below at c.loop-index.last) (drop_more values i 0 c.loop-index-test.true)) ∙ c.loop-index.invariant.left;
    }

pub returns : goal.returns
returns c =
    let i : ℕ = c.loop-index.index in
    let values : List ℕ = c.to_values.new.codes in
    let all : length values ≤ i = omega arith in
    sym (ap (first_below c.args.position c.args.before) (sym c.loop-index.invariant.values)
    ∙ sym c.loop-index.invariant.left ∙ ap (first_below (c.args.position + i) c.loop-index.last) (drop_all i values all)
    ∙ below_done (c.args.position + i) c.loop-index.last)
