-- The encoding is written if the slice has room for it.
use Rattle.std.proofs.Common.{◌++◌, ℕ, List, drop, ap, ◌∙◌, arith, refl, rules}
use Rattle.std.proofs.lemmas.List.{length-take-le}
use Rattle.bitpack_columns.proofs.EncodeLaws.{accepted}
use Rattle.bitpack_columns.proofs.encoding.write_planned.Goals as goal
use Rattle.bitpack_columns.specs.Columns.{encoding}

pub returns-then-bytes-len : goal.returns-then-bytes-len
returns-then-bytes-len c =
    let long = c.in_ok-plan.ensures.plan.len_is in
    record {
      column = search rules;
      len = search rules;
      ok = search rules;
      fault = accepted c.args.kind c.args.values.now _ c.in_ok-plan.ensures.fault refl;
      room = λ none. omega arith;
      unchanged = search rules;
    }

pub write_column-requires-clause-planned : goal.write_column-requires-clause-planned
write_column-requires-clause-planned c =
    let long = length-take-le c.in_ok-plan.plan.len c.args.bytes.now c.if-bytes-len.false in
    rw long c.in_ok-plan.ensures.plan

pub returns : goal.returns
returns c =
    let len : ℕ = c.in_ok-plan.plan.len in
    let old : List ℕ = c.args.bytes.now in
    let long = c.in_ok-plan.ensures.plan.len_is in
    record {
      column = c.in_ok-plan.ensures.column;
      len = long;
      ok = ap (λ (l : List ℕ). l ++ drop len old) c.write_column.ensures ∙ ap (λ n. encoding c.args.kind c.args.values.now ++ drop n old) long;
      fault = accepted c.args.kind c.args.values.now _ c.in_ok-plan.ensures.fault tt;
      room = search rules;
      unchanged = search rules;
    }
