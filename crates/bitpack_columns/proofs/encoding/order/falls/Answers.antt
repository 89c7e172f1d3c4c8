-- One value more does not fall.
use Rattle.std.proofs.Common.{◌≡◌, ◌-◌, ◌<◌, ◌≤◌, ℕ, List, length, get_or, ltb, rules, arith}
use Rattle.std.proofs.lemmas.Bool.{ltb-false}
use Rattle.bitpack_columns.proofs.FallLaws.{last_before, neither, no_fall, none_empty, step_none}
use Rattle.bitpack_columns.proofs.encoding.order.falls.Goals as goal

pub returns-then-is_empty : goal.returns-then-is_empty
returns-then-is_empty c = λ _. (let none : length c.args.values.now ≡ 0 = search rules in none_empty 0 c.args.before c.args.values.now none)

pub loop-index-init : goal.loop-index-init
loop-index-init c = λ e.
    let some : 0 < length c.args.values.now = search rules in
    step_none 0 c.args.before 0 c.args.values.now some (no_fall 0 c.args.before) (ltb-false _ _ e)

pub loop-index-preserved : goal.loop-index-preserved
loop-index-preserved c = λ e.
    let i : ℕ = c.loop-index.index in
    let values : List ℕ = c.args.values.now in
    let (before, here) = neither c.loop-index.falls (ltb (get_or values i 0) (get_or values (i - 1) 0)) e in
    let some = c.loop-index.auto.index in
    let low : get_or values (i - 1) 0 ≤ get_or values i 0 = ltb-false (get_or values i 0) (get_or values (i - 1) 0) here in
    let last = last_before c.args.before i c.args.values.now some (omega arith) in
    step_none 0 c.args.before i c.args.values.now c.loop-index-test.true (c.loop-index.invariant before) (omega arith)
