use Rattle.std.proofs.Common.{◌≡◌, ◌≤◌, ◌<◌, ℕ, ◌-◌, ◌∙◌, ap, sym, refl, true, false, arith}
use Rattle.bitpack_sets.specs.Chunks.{positions, first_key, ids_from}
use Rattle.bitpack_slices.specs.Operations.{apply}
use Rattle.bitpack_queries.specs.Pairs.{left, positions_left}
use Rattle.bitpack_slices.specs.Reads.{has}
use Rattle.bitpack_queries.specs.declared.pairing.Pair.{Pair}
use Rattle.bitpack_queries.proofs.lemmas.two.AnswerLaws.{moves, fewer_of, fewer_after, pass_left, pass_right}
use Rattle.bitpack_queries.proofs.pairing.Pair.skip.Goals.{else-y-x-via-then-y-x+else-not-retains_right, else-y-x-via-else-y-x}
use Rattle.bitpack_queries.proofs.pairing.Pair.skip.Goals as goal

pub loop-self-init : goal.loop-self-init
loop-self-init c = record { same = λ x. refl; fewer = omega arith }

pub loop-self-smaller-then-not-retains_left : goal.loop-self-smaller-then-not-retains_left
loop-self-smaller-then-not-retains_left c =
    let set = c.loop-self.self in
    let on : set.i < c.seek-self.result =
    moves (λ position. first_key (ids_from set.a position)) set.i c.seek-self.result c.key-x.result c.key-y.result c.key-x.ensures.first c.seek-self.ensures.reached c.if-x-y.true c.seek-self.ensures.later in
    fewer_of (positions set.a) set.i c.seek-self.result (positions set.b - set.j) on c.seek-self.ensures.within

pub loop-self-preserved-then-not-retains_left : goal.loop-self-preserved-then-not-retains_left
unfolding left
loop-self-preserved-then-not-retains_left c =
    let set = c.loop-self.self in
    let none : apply set.operation true false ≡ false = sym c.retains_left.ensures ∙ c.if-not-retains_left.true in
    let later : set.i ≤ c.seek-self.result = c.seek-self.ensures.later in
    record {
      same = λ x. c.loop-self.invariant.same x ∙ pass_left set.operation (has x (ids_from set.a set.i)) (has x (ids_from set.a c.seek-self.result)) (has x (ids_from set.b set.j)) x c.key-y.result none (c.key-y.ensures.none x) (c.seek-self.ensures.ids x);
      fewer = let was = c.loop-self.invariant.fewer in omega arith;
    }

pub loop-self-smaller : goal.loop-self-smaller
loop-self-smaller c =
    let set = c.loop-self.self in
    let to = c.seek-self-then-not-retains_right in
    let on : set.j < to.result =
    moves (λ position. first_key (ids_from set.b position)) set.j to.result c.key-y.result c.key-x.result c.key-y.ensures.first to.ensures.reached c.if-y-x.true to.ensures.later in
    fewer_after (positions set.b) set.j to.result (positions set.a - set.i) on to.ensures.within

pub loop-self-preserved : goal.loop-self-preserved
unfolding left
loop-self-preserved c =
    let set = c.loop-self.self in
    let to = c.seek-self-then-not-retains_right in
    let none : apply set.operation false true ≡ false = sym c.retains_right.ensures ∙ c.if-not-retains_right.true in
    let later : set.j ≤ to.result = to.ensures.later in
    record {
      same = λ x. c.loop-self.invariant.same x ∙ pass_right set.operation (has x (ids_from set.b set.j)) (has x (ids_from set.b to.result)) (has x (ids_from set.a set.i)) x c.key-x.result none (c.key-x.ensures.none x) (to.ensures.ids x);
      fewer = let was = c.loop-self.invariant.fewer in omega arith;
    }

unmoved : (c : goal.Joined-else-y-x) → (x : ℕ) → left c.loop-self.self x ≡ left c.else-y-x.self x
unfolding left
unmoved c x = elim c.else-y-x.branch [
  | else-y-x-via-then-y-x+else-not-retains_right w ↦ sym (ap (λ (p : Pair). left p x) w.self-is)
  | else-y-x-via-else-y-x w ↦ sym (ap (λ (p : Pair). left p x) w.self-is)
]

pub returns-else-y-x-clause-left : goal.returns-else-y-x-clause-left
returns-else-y-x-clause-left c x = c.loop-self.invariant.same x ∙ unmoved c x

pub returns-else-y-x-clause-fewer : goal.returns-else-y-x-clause-fewer
returns-else-y-x-clause-fewer c =
    let was = c.loop-self.invariant.fewer in
    let e : positions_left c.loop-self.self ≡ positions_left c.else-y-x.self = elim c.else-y-x.branch [
      | else-y-x-via-then-y-x+else-not-retains_right w ↦ sym (ap positions_left w.self-is)
      | else-y-x-via-else-y-x w ↦ sym (ap positions_left w.self-is)
    ] in
    omega arith
