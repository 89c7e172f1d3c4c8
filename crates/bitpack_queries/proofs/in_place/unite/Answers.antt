use Rattle.std.proofs.Common.{◌≡◌, ◌+◌, ℕ, List, [], ◌++◌, length, take, drop, sym, ap, subst, ◌∙◌, arith}
use mir.Val.{bool_byte}
use Rattle.std.proofs.lemmas.List.{length-set, take-append-drop}
use Rattle.bitpack_sets.specs.Opened.{ids}
use Rattle.bitpack_queries.proofs.lemmas.two.StepLaws.{IsWritten, step}
use Rattle.bitpack_sets.proofs.ForCallers.{ids_are_read}
use Rattle.bitpack_queries.proofs.lemmas.two.UnitedLaws.{IsUniting, not_read, started, united}
use Rattle.bitpack_queries.proofs.in_place.unite.Goals as goal

pub loop-id-init : goal.loop-id-init
loop-id-init c =
    let set = c.args.set.now in
    let own : List ℕ = drop c.args.start c.args.values.now in
    let rising = (ids_are_read set.bytes.now set.are_bytes set.states.none).0.rising in
    record {
      so =
          subst (λ (left : List ℕ). IsUniting own (ids set) [] own left 0 c.args.start) (sym c.iter-left.ensures)
          (started own (ids set) c.args.start c.requires.increasing rising c.requires.room);
      within = c.requires.within;
    }

pub move_below-moved-requires : goal.move_below-moved-requires
move_below-moved-requires c = (not_read _ _ _ _ _ _ _ c.loop-id.invariant.so, c.loop-id.invariant.within)

written : (c : goal.After-is_at) → IsWritten (drop c.args.start c.args.values.now) (ids c.args.set.now) c.move_below-moved.new.values (drop c.next.new.self.window.next (ids c.next.new.self.set))
    (c.loop-id.written + c.move_below-moved.result) (c.loop-id.from + c.move_below-moved.result + bool_byte c.is_at.result) c.in-Some.id
written c =
    let own : List ℕ = drop c.args.start c.args.values.now in
    let values : List ℕ = c.loop-id.values in
    let moved = c.move_below-moved.ensures in
    let long : length c.move_below-moved.new.values ≡ length values = c.move_below-moved.auto.values in
    step own (ids c.args.set.now) values c.move_below-moved.new.values (drop c.next.new.self.window.next (ids c.next.new.self.set)) c.loop-id.written c.loop-id.from
    c.move_below-moved.result c.in-Some.id c.is_at.result
    (subst (λ (left : List ℕ). IsUniting own (ids c.args.set.now) (take c.loop-id.written values) (drop c.loop-id.from values) left c.loop-id.written c.loop-id.from)
    c.in-Some.ensures.steps c.loop-id.invariant.so)
    (record { front = moved.moved; rest = moved.rest; below = moved.below; within = (let within = moved.within in omega arith); long = long })
    moved.reached c.is_at.ensures.there c.is_at.ensures.lacking

pub bounds-values-written : goal.bounds-values-written
bounds-values-written c = let so = written c in let free = so.free in let within = so.within in omega arith

pub loop-id-preserved : goal.loop-id-preserved
loop-id-preserved c =
    let so = written c in
    record {
      so = so.so;
      within =
          (let within = so.within in
          let long = length-set c.move_below-moved.new.values (c.loop-id.written + c.move_below-moved.result) c.in-Some.id in
          omega arith);
    }

pub returns : goal.returns
returns c =
    let values : List ℕ = c.loop-id.values in
    let own : List ℕ = drop c.args.start c.args.values.now in
    let (all, same) = united own (ids c.args.set.now) (take c.loop-id.written values) (drop c.loop-id.from values) c.loop-id.written c.loop-id.from
    (subst (λ (left : List ℕ). IsUniting own (ids c.args.set.now) (take c.loop-id.written values) (drop c.loop-id.from values) left c.loop-id.written c.loop-id.from)
    c.in_default.ensures.steps.0 c.loop-id.invariant.so) in
    sym (take-append-drop c.loop-id.written values) ∙ ap (λ (k : ℕ). take c.loop-id.written values ++ drop k values) same ∙ all

pub offset_bounds-values-written : goal.offset_bounds-values-written
offset_bounds-values-written c = let so = written c in let free = so.free in let within = so.within in omega arith

pub overflow_add-written-in-Some : goal.overflow_add-written-in-Some
overflow_add-written-in-Some c = let so = written c in let free = so.free in let within = so.within in omega arith
