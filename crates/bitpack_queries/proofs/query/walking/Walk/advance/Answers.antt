use Rattle.std.proofs.Common.{◌^◌, ℕ, Bool, map, ap, ◌∙◌, arith}
use Rattle.bitpack_slices.specs.Operations.{those}
use Rattle.bitpack_slices.specs.Reads.{ids_from}
use Rattle.bitpack_queries.specs.Queries.{is_found}
use Rattle.bitpack_queries.specs.declared.query.walking.Walk.{Walk}
use Rattle.bitpack_queries.proofs.lemmas.trees.QueryIds.{passed_over}
use Rattle.bitpack_queries.proofs.query.walking.Walk.advance.Goals as goal
use Rattle.bitpack_queries.proofs.query.walking.Walk.advance.Goals.{then-key-from, else-key-from}

pub returns-then-key-lt-NO_KEY-clause-left : goal.returns-then-key-lt-NO_KEY-clause-left
returns-then-key-lt-NO_KEY-clause-left g c =
    let found : ℕ → Bool = is_found (map g.S.AsSet.its_ids c.args.sets.now) (map g.T.AsStep.its_step c.args.steps.now) in
    let before = c.args.self.now.next in
    let walk = c.if-key-from.self in
    ap (λ (n : ℕ). ids_from n (those (2 ^ 32) found)) c.load.ensures.next ∙ elim c.if-key-from.branch [
      | then-key-from w ↦ passed_over (2 ^ 32) before walk.next found (omega (arith, ap (λ (r : Walk). r.next) w.self-is, c.requires.from, w.if-key-from.true))
          (λ x small a b. c.next_key-key.ensures.none x (omega (arith, c.requires.from)) (omega (arith, ap (λ (r : Walk). r.next) w.self-is)))
      | else-key-from w ↦ ap (λ (r : Walk). ids_from r.next (those (2 ^ 32) found)) w.self-is
    ]

pub returns-else-key-lt-NO_KEY-clause-left : goal.returns-else-key-lt-NO_KEY-clause-left
returns-else-key-lt-NO_KEY-clause-left g c =
    let found : ℕ → Bool = is_found (map g.S.AsSet.its_ids c.args.sets.now) (map g.T.AsStep.its_step c.args.steps.now) in
    let before = c.args.self.now.next in
    let walk = c.if-key-from.self in
    elim c.if-key-from.branch [
      | then-key-from w ↦ passed_over (2 ^ 32) before walk.next found (omega (arith, ap (λ (r : Walk). r.next) w.self-is, c.requires.from, w.if-key-from.true))
          (λ x small a b. c.next_key-key.ensures.none x (omega (arith, c.requires.from)) (omega (arith, ap (λ (r : Walk). r.next) w.self-is)))
      | else-key-from w ↦ ap (λ (r : Walk). ids_from r.next (those (2 ^ 32) found)) w.self-is
    ]
