-- The room that is reserved is that of all values, and some values more are appended.
use Rattle.std.proofs.Common.{◌++◌, ℕ, List, take, take-add, drop, ◌∙◌, ap, sym, arith, append_assoc}
use Rattle.std.proofs.lemmas.List.{append-nil, take_all}
use Rattle.bitpack_columns.specs.Opened.{values}
use Rattle.bitpack_columns.proofs.CopyLaws.{on_err, on_ok}
use Rattle.bitpack_columns.proofs.OpenedLaws.{count_is}
use Rattle.bitpack_columns.proofs.column.Column.append_to.Goals as goal

pub returns-then-is_err-clause-room : goal.returns-then-is_err-clause-room
returns-then-is_err-clause-room c =
    let full = on_err c.reserve.result (sym c.is_err.ensures.value ∙ c.if-is_err.true) c.reserve.ensures.full in
    omega (arith, full, count_is c.args.self.now)

pub loop-done-init : goal.loop-done-init
loop-done-init c =
    let room = on_ok c.reserve.result (sym c.is_err.ensures.value ∙ c.if-is_err.false) c.reserve.ensures.ok in
    record {
      within = omega arith;
      items = c.reserve.ensures.items ∙ sym (append-nil c.args.out.now.items);
      room = omega (arith, room, c.reserve.ensures.len, count_is c.args.self.now);
    }

pub loop-done-smaller : goal.loop-done-smaller
loop-done-smaller c = omega (arith, c.copy_range-more.ensures.len, c.loop-done-test.true, count_is c.args.self.now)

pub loop-done-preserved : goal.loop-done-preserved
loop-done-preserved c =
    let all : List ℕ = values c.args.self.now in
    let done : ℕ = c.loop-done.done in
    let more : ℕ = c.copy_range-more.result in
    let start : List ℕ = c.args.out.now.items in
    let part : List ℕ = take more c.copy_range-more.new.out in
    let before = c.loop-done.invariant in
    let items = rw c.unwrap.ensures at c.extend_from_slice.ensures.items in
    record {
      within = omega (arith, c.copy_range-more.ensures.len, c.loop-done-test.true, count_is c.args.self.now);
      items =
          items ∙ ap (λ xs. xs ++ part) before.items ∙ ap (λ xs. (start ++ take done all) ++ xs) c.copy_range-more.ensures.values
          ∙ append_assoc start (take done all) (take more (drop done all)) ∙ ap (λ xs. start ++ xs) (sym (take-add done more all));
      room = omega (arith, before.room, c.extend_from_slice.ensures.capacity);
    }

pub returns-clause-ok : goal.returns-clause-ok
returns-clause-ok c =
    let all : List ℕ = values c.args.self.now in
    let start : List ℕ = c.args.out.now.items in
    c.loop-done.invariant.items ∙ ap (λ xs. start ++ xs) (take_all c.loop-done.done all (omega (arith, c.loop-done-test.false, count_is c.args.self.now)))
