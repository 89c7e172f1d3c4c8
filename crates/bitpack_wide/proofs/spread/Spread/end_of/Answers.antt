-- The next high word is not below one more.
use Rattle.std.proofs.Common.{◌+◌, ◌∙◌, arith, sym}
use Rattle.bitpack_columns.specs.Opened.{values}
use Rattle.bitpack_wide.proofs.LocateLaws.{found_at, high_small, none_at}
use Rattle.bitpack_wide.proofs.spread.Spread.end_of.Goals as goal

pub returns-then-high-eq4294967295-clause-below : goal.returns-then-high-eq4294967295-clause-below
returns-then-high-eq4294967295-clause-below c = λ k lt.
    let small = high_small c.args.self k (omega (arith, c.len.ensures)) in
    omega (arith, c.if-high-eq4294967295.true)

pub returns-in-Some-clause-within : goal.returns-in-Some-clause-within
returns-in-Some-clause-within c =
    let (lt, value, least, before) = found_at (c.args.high + 1) (values c.args.self.column) c.in-Some.end c.in-Some.field-0-1 (sym c.first_high.ensures ∙ c.in-Some.is) in
    omega arith

pub returns-in-Some-clause-below : goal.returns-in-Some-clause-below
returns-in-Some-clause-below c = λ k less.
    let (lt, value, least, before) = found_at (c.args.high + 1) (values c.args.self.column) c.in-Some.end c.in-Some.field-0-1 (sym c.first_high.ensures ∙ c.in-Some.is) in
    let under = before k less in
    omega arith

pub returns-in-Some-clause-above : goal.returns-in-Some-clause-above
returns-in-Some-clause-above c = λ less.
    let (lt, value, least, before) = found_at (c.args.high + 1) (values c.args.self.column) c.in-Some.end c.in-Some.field-0-1 (sym c.first_high.ensures ∙ c.in-Some.is) in
    omega arith

pub returns-in-None-clause-below : goal.returns-in-None-clause-below
returns-in-None-clause-below c = λ k less.
    let under = none_at (c.args.high + 1) 0 (values c.args.self.column) (sym c.first_high.ensures ∙ c.in-None.is) k (omega (arith, c.len-in-None.ensures)) in
    omega arith
