-- Each turn writes the sums of the ids after those so far.
use Rattle.std.proofs.Common.{◌≡◌, ℕ, ◌≤◌, List, length, take, drop, sym, ◌∙◌, ap, arith}
use Rattle.std.proofs.lemmas.List.{length-take-le}
use Rattle.bitpack_sets.specs.Opened.{ids}
use Rattle.bitpacking_c.proofs.ColumnSteps.{rest_after, sums_after}
use Rattle.bitpacking_c.proofs.set_wide.copy_sums.Goals as goal

pub loop-done-preserved : goal.loop-done-preserved
loop-done-preserved c =
    let all : List ℕ = ids c.args.set.now in
    let here = c.loop-done in
    let read = c.copy_range-more in
    let more : ℕ = read.result in
    let some : List ℕ = take more read.new.out in
    let fits : more ≤ length read.new.out = omega (arith, read.ensures.len, read.auto.out) in
    let len : length some ≡ more = length-take-le more read.new.out fits in
    let is : some ≡ take (length some) (drop here.done all) = read.ensures.ids ∙ ap (λ n. take n (drop here.done all)) (sym len) in
    let added = c.add_base.ensures in
    record {
      long = c.add_base.auto.out ∙ here.invariant.long;
      within = omega (arith, read.ensures.len, here.invariant.within);
      sums = λ k lt. sums_after all c.args.base here.done some here.out c.add_base.new.out is added.sums added.same here.invariant.sums k (omega (arith, lt, len));
      rest = λ k past. rest_after all c.args.base here.done some here.out c.add_base.new.out is added.sums added.same c.args.out.now here.invariant.rest k (omega (arith, past, len));
    }
