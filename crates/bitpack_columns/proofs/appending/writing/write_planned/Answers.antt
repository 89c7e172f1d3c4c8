-- The encoding is written if the slice has room for it.
use Rattle.std.proofs.Common.{◌++◌, ℕ, List, drop, ap, ◌∙◌, arith, refl, rules}
use Rattle.std.proofs.lemmas.List.{length-take-le}
use Rattle.bitpack_columns.specs.Columns.{encoding}
use Rattle.bitpack_columns.specs.Measured.{extended}
use Rattle.bitpack_columns.proofs.EncodeLaws.{accepted}
use Rattle.bitpack_columns.proofs.FallLaws.{not_refused}
use Rattle.bitpack_columns.proofs.appending.writing.write_planned.Goals as goal

pub returns-then-out-len : goal.returns-then-out-len
returns-then-out-len c =
    let kind = c.args.column.now.kind in
    let all : List ℕ = extended c.args.column.now (c.args.filled.now ++ c.args.later.now) in
    let long = c.plan_after-plan.ensures.plan.len_is in
    record {
      column = search rules;
      len = search rules;
      ok = search rules;
      fault = accepted kind all _ (not_refused kind all c.requires.column) refl;
      room = λ none. omega arith;
      unchanged = search rules;
    }

pub write_after-requires-clause-planned : goal.write_after-requires-clause-planned
write_after-requires-clause-planned c =
    let long = length-take-le c.plan_after-plan.result.len c.args.out.now c.if-out-len.false in
    rw long c.plan_after-plan.ensures.plan

pub returns : goal.returns
returns c =
    let kind = c.args.column.now.kind in
    let all : List ℕ = extended c.args.column.now (c.args.filled.now ++ c.args.later.now) in
    let len : ℕ = c.plan_after-plan.result.len in
    let old : List ℕ = c.args.out.now in
    let long = c.plan_after-plan.ensures.plan.len_is in
    record {
      column = c.requires.column;
      len = long;
      ok = ap (λ (l : List ℕ). l ++ drop len old) c.write_after.ensures ∙ ap (λ (n : ℕ). encoding kind all ++ drop n old) long;
      fault = accepted kind all _ (not_refused kind all c.requires.column) tt;
      room = search rules;
      unchanged = search rules;
    }
