use Rattle.std.proofs.Common.{◌%◌, ◌∙◌, arith}
use Rattle.bitpack_sets.specs.Chunks.{ids_from, lows_between}
use Rattle.bitpack_queries.specs.Pairs.{left}
use Rattle.bitpack_slices.specs.Reads.{has}
use Rattle.bitpack_slices.proofs.ForCallers.{apply_none, each}
use Rattle.bitpack_queries.proofs.pairing.Pair.next.Goals as goal

pub returns-then-key-eq-NO_KEY-clause-none : goal.returns-then-key-eq-NO_KEY-clause-none
unfolding left
returns-then-key-eq-NO_KEY-clause-none c x h =
    let set = c.skip.new.self in
    let least = c.min-key.ensures in
    let no = c.if-key-eq-NO_KEY.true in
    c.skip.ensures.left x ∙ apply_none set.operation (has x (ids_from set.a set.i)) (has x (ids_from set.b set.j)) (c.key.ensures.none x (omega arith)) (c.key-2.ensures.none x (omega arith))

pub returns-clause-meeting : goal.returns-clause-meeting
returns-clause-meeting c =
    let least = c.min-key.ensures in
    let most = c.key.ensures.most in
    record {
      small = omega (arith, c.if-key-eq-NO_KEY.false);
      a_span = record { later = c.end.ensures.later; within = c.end.ensures.within; one = c.end.ensures.one; shared = c.end.ensures.shared };
      b_span = record { later = c.end-2.ensures.later; within = c.end-2.ensures.within; one = c.end-2.ensures.one; shared = c.end-2.ensures.shared };
    }

pub returns-clause-part : goal.returns-clause-part
unfolding left
returns-clause-part c =
    let set = c.skip.new.self in
    let least = c.min-key.ensures in
    let most = c.key.ensures.most in
    record {
      small = omega (arith, c.if-key-eq-NO_KEY.false);
      lower = λ x h. c.skip.ensures.left x ∙ apply_none set.operation (has x (ids_from set.a set.i)) (has x (ids_from set.b set.j)) (c.key.ensures.none x (omega arith)) (c.key-2.ensures.none x (omega arith));
      own = λ x e. c.skip.ensures.left x
          ∙ each set.operation (has x (ids_from set.a set.i)) (has (x % 65536) (lows_between set.a set.i c.end.result))
          (has x (ids_from set.b set.j)) (has (x % 65536) (lows_between set.b set.j c.end-2.result)) (c.end.ensures.own x e) (c.end-2.ensures.own x e);
      passed = λ x h. apply_none set.operation (has x (ids_from set.a c.end.result)) (has x (ids_from set.b c.end-2.result)) (c.end.ensures.none x h) (c.end-2.ensures.none x h);
      higher = λ x h. c.skip.ensures.left x
          ∙ each set.operation (has x (ids_from set.a set.i)) (has x (ids_from set.a c.end.result)) (has x (ids_from set.b set.j)) (has x (ids_from set.b c.end-2.result)) (c.end.ensures.others x h) (c.end-2.ensures.others x h);
    }
