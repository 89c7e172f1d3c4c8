-- The next value counts if it is within the range.
use Rattle.std.proofs.Common.{◌≡◌, ◌+◌, ◌-◌, ℕ, true, false, [], ◌∷◌, length, get_or, ◌∙◌, ap, sym, arith}
use Rattle.std.proofs.lemmas.List.{length-append}
use Rattle.bitpack_columns.specs.Ranges.{is_between}
use Rattle.bitpack_columns.proofs.RangeLaws.{passing, passing_more, passing_same}
use Rattle.bitpack_columns.proofs.column.within.count_in.Goals.{then-within, else-within}
use Rattle.bitpack_columns.proofs.column.within.count_in.Goals as goal

pub loop-index-preserved : goal.loop-index-preserved
loop-index-preserved c =
    let here = c.loop-index in
    let test = λ (k : ℕ). is_between c.args.low c.args.high (get_or c.args.values.now k 0) in
    let from : 0 + here.index ≡ here.index = omega arith in
    elim c.if-within.branch [
      | then-within w ↦
          let passes : test (0 + here.index) ≡ true = ap test from ∙ sym c.within.ensures ∙ w.if-within.true in
          let more = ap length (passing_more test 0 here.index passes) ∙ length-append (passing test 0 here.index) ((0 + here.index) ∷ []) in
          rw w.count-is (record { few = omega (arith, here.invariant.few); counted = omega (arith, here.invariant.counted, more) })
      | else-within w ↦
          let fails : test (0 + here.index) ≡ false = ap test from ∙ sym c.within.ensures ∙ w.if-within.false in
          let same = ap length (passing_same test 0 here.index fails) in
          rw w.count-is (record { few = omega (arith, here.invariant.few); counted = omega (arith, here.invariant.counted, same) })
    ]

pub returns : goal.returns
returns c =
    let here = c.loop-index in
    let all : here.index ≡ length c.args.values.now - 0 = omega (arith, here.auto.index-end, c.loop-index-test.false) in
    rw all at here.invariant.counted
