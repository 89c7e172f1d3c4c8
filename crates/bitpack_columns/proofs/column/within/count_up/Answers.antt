-- All numbers are written.
use Rattle.std.proofs.Common.{length, ◌∙◌, sym, arith}
use Rattle.std.specs.List.{range_with_len}
use Rattle.std.proofs.lemmas.List.{ext_get_or}
use Rattle.std.proofs.lemmas.List.FromFn.{get_or-range_with_len, length-range_with_len}
use Rattle.bitpack_columns.proofs.column.within.count_up.Goals as goal

pub returns : goal.returns
returns c =
    let here = c.loop-index in
    let long = here.invariant.long in
    let all = length-range_with_len c.args.start (length c.args.out.now) in
    ext_get_or 0 here.out (range_with_len c.args.start (length c.args.out.now)) (long ∙ sym all) (λ k lt.
    here.invariant.written k (omega (arith, lt, here.auto.index-end, c.loop-index-test.false))
    ∙ sym (get_or-range_with_len c.args.start (length c.args.out.now) k 0 (omega (arith, lt, long))))
