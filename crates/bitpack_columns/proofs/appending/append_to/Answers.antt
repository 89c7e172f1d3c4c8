-- The tail and more values are packed after the whole blocks.
use Rattle.std.proofs.Common.{◌≡◌, ◌+◌, ◌*◌, ◌%◌, ◌≤◌, ℕ, List, length, take, sym, arith, rules, subst}
use Rattle.std.proofs.lemmas.List.{length-take-le}
use Rattle.bitpack_columns.specs.Columns.{IsColumn}
use Rattle.bitpack_columns.specs.Opened.{blocks_of, values}
use Rattle.bitpack_columns.specs.Written.{WritesColumn}
use Rattle.bitpack_columns.proofs.OpenedLaws.{count_is}
use Rattle.bitpack_columns.proofs.SplitLaws.{none_later, repacked}
use Rattle.bitpack_columns.proofs.appending.append_to.Goals as goal

pub slice_bounds-room-end : goal.slice_bounds-room-end
slice_bounds-room-end c =
    let within : c.args.column.now.count % 128 + c.in_ok-taken.taken ≤ 128 = omega (arith, c.in_ok-taken.ensures.taken, count_is c.args.column.now) in
    search rules

pub slice_bounds-whole-end : goal.slice_bounds-whole-end
slice_bounds-whole-end c =
    let filled : ℕ = c.args.column.now.count % 128 + c.in_ok-taken.taken in
    let within : filled ≤ length c.fill.new.room = omega (arith, c.in_ok-taken.ensures.taken, count_is c.args.column.now, c.fill.auto.room) in
    let long : length (take filled c.fill.new.room) ≡ filled = length-take-le filled c.fill.new.room within in
    search rules

pub whole-requires-clause-all : goal.whole-requires-clause-all
whole-requires-clause-all c =
    let column = c.args.column.now in
    none_later (values column) c.args.more.now _ c.in_ok-taken.taken column.count (count_is column) c.in_ok-taken.ensures.filled c.in_ok-taken.ensures.taken

pub write_packed-requires-clause-column : goal.write_packed-requires-clause-column
write_packed-requires-clause-column c =
    let column = c.args.column.now in
    let same = repacked (values column) c.args.more.now _ c.whole.result.0.now c.whole.result.1.now (128 * blocks_of column) c.in_ok-taken.taken (length (values column)) column.count (count_is column)
    c.in_ok-taken.ensures.filled c.whole.ensures.all in
    subst (IsColumn column.kind) (sym same) c.in_ok-taken.ensures.column

pub returns : goal.returns
returns c =
    let column = c.args.column.now in
    let same = repacked (values column) c.args.more.now _ c.whole.result.0.now c.whole.result.1.now (128 * blocks_of column) c.in_ok-taken.taken (length (values column)) column.count (count_is column)
    c.in_ok-taken.ensures.filled c.whole.ensures.all in
    subst (λ (l : List ℕ). WritesColumn column.kind l c.write_packed.result c.args.out.now c.write_packed.new.out) same c.write_packed.ensures
