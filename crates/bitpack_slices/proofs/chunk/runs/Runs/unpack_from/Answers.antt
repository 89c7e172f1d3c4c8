-- The numbers of one run more are written.
use Rattle.std.proofs.Common.{◌≡◌, ◌+◌, ◌-◌, ◌≤◌, ◌∙◌, List, arith, ap, drop, length, map, min, refl, subst, sym, take, ℕ}
use Rattle.std.specs.List.{range_with_len}
use Rattle.std.proofs.lemmas.List.{take_all}
use Rattle.std.proofs.Math.Nat.{le-min, min-le_left, min-le_right}
use borrow.Rule.Slice.PartMut.{same_len_mid}
use Rattle.bitpack_slices.proofs.lemmas.bodies.RunLaws.{AtRun, run_len, run_next, run_part}
use Rattle.bitpack_slices.proofs.lemmas.numbers.RangeLaws.{map_range, min_less, part_written}
use Rattle.bitpack_slices.proofs.chunk.runs.Runs.unpack_from.Goals as goal
use Rattle.bitpack_slices.specs.Runs.{runs_from}
use Rattle.bitpack_groups.proofs.ForCallers.{lent_len}

pub overflow_sub-end-in-loop-next : goal.overflow_sub-end-in-loop-next
overflow_sub-end-in-loop-next c =
    let at = c.loop-next.invariant.here c.loop-next-test.true in
    let size = run_len c.args.self.bounds.now c.loop-next.index c.run-begin.result.0 c.run-begin.result.1 c.run-begin.ensures.first in
    omega (arith, at.own)

pub overflow_add-begin : goal.overflow_add-begin
overflow_add-begin c =
    let at = c.loop-next.invariant.here c.loop-next-test.true in
    let size = run_len c.args.self.bounds.now c.loop-next.index c.run-begin.result.0 c.run-begin.result.1 c.run-begin.ensures.first in
    omega (arith, at.own, c.run-begin.ensures.fits)

pub overflow_cast-begin : goal.overflow_cast-begin
overflow_cast-begin c =
    let at = c.loop-next.invariant.here c.loop-next-test.true in
    let size = run_len c.args.self.bounds.now c.loop-next.index c.run-begin.result.0 c.run-begin.result.1 c.run-begin.ensures.first in
    omega (arith, at.own, c.run-begin.ensures.fits)

pub overflow_add-base : goal.overflow_add-base
overflow_add-base c =
    let at = c.loop-next.invariant.here c.loop-next-test.true in
    let size = run_len c.args.self.bounds.now c.loop-next.index c.run-begin.result.0 c.run-begin.result.1 c.run-begin.ensures.first in
    omega (arith, at.own, c.run-begin.ensures.fits, c.requires.fits)

pub fill_range-requires : goal.fill_range-requires
fill_range-requires c =
    let at = c.loop-next.invariant.here c.loop-next-test.true in
    let long = c.loop-next.invariant.long in
    let size = run_len c.args.self.bounds.now c.loop-next.index c.run-begin.result.0 c.run-begin.result.1 c.run-begin.ensures.first in
    let low = min-le_left (c.run-begin.result.1 - c.run-begin.result.0 - c.loop-next.left) (length c.loop-next.out - c.loop-next.next) in
    let high = min-le_right (c.run-begin.result.1 - c.run-begin.result.0 - c.loop-next.left) (length c.loop-next.out - c.loop-next.next) in
    let few = c.min-wanted.ensures in
    let mid : length (take (c.loop-next.next + c.min-wanted.result - c.loop-next.next) (drop c.loop-next.next c.loop-next.out)) ≡ c.min-wanted.result =
    lent_len c.loop-next.next c.min-wanted.result c.loop-next.out (omega arith) in
    record { fits = omega (arith, at.own, c.run-begin.ensures.fits, c.requires.fits) }

pub loop-next-init : goal.loop-next-init
loop-next-init c = record {
  long = refl;
  within = omega arith;
  here = λ some. record {
    within = c.run_of-index.ensures.run;
    own = c.run_of-index.ensures.own;
    from = ap (λ (k : ℕ). drop k (runs_from 0 c.args.self.bounds.now)) (omega arith) ∙ c.run_of-index.ensures.from;
  };
  values = refl;
}

pub loop-next-preserved : goal.loop-next-preserved
loop-next-preserved c =
    let bytes : List ℕ = c.args.self.bounds.now in
    let out : List ℕ = c.loop-next.out in
    let index : ℕ = c.loop-next.index in
    let left : ℕ = c.loop-next.left in
    let next : ℕ = c.loop-next.next in
    let begin : ℕ = c.run-begin.result.0 in
    let end : ℕ = c.run-begin.result.1 in
    let wanted : ℕ = c.min-wanted.result in
    let at = c.loop-next.invariant.here c.loop-next-test.true in
    let within = c.loop-next.invariant.within in
    let long = c.loop-next.invariant.long in
    let own = at.own in
    let size = run_len bytes index begin end c.run-begin.ensures.first in
    let low = min-le_left (end - begin - left) (length out - next) in
    let high = min-le_right (end - begin - left) (length out - next) in
    let few = c.min-wanted.ensures in
    let mid : length (take (next + wanted - next) (drop next out)) ≡ wanted = lent_len next wanted out (omega arith) in
    let same = same_len_mid next (next + wanted - next) out c.fill_range.new.out c.fill_range.auto.out in
    let part = c.fill_range.ensures ∙ ap (range_with_len (c.args.base + (begin + left))) mid
    ∙ run_part c.args.base bytes index left (c.args.from + next) begin end wanted at.from c.run-begin.ensures.first (omega arith) in
    record {
      long = same ∙ long;
      within = omega arith;
      here = λ more.
          let w : wanted ≡ end - begin - left = few ∙ min_less (end - begin - left) (length out - next) (omega arith) in
          let after : c.args.from + next + wanted ≡ c.args.from + (next + wanted) = omega arith in
          let room = c.requires.within in
          subst (AtRun bytes (index + 1) 0) after (run_next bytes index left (c.args.from + next) begin end wanted c.args.self.rising at c.run-begin.ensures.first (omega arith) (omega arith));
      values = part_written next wanted (next + wanted - next) c.args.from out c.fill_range.new.out (map (λ i. c.args.base + i) (runs_from 0 bytes)) within (c.fill_range.auto.out ∙ mid)
          c.loop-next.invariant.values part;
    }

pub returns : goal.returns
returns c =
    let xs : List ℕ = runs_from 0 c.args.self.bounds.now in
    let n : ℕ = length c.args.out.now in
    let long = c.loop-next.invariant.long in
    let end : c.loop-next.next ≡ n = (let within = c.loop-next.invariant.within in omega (arith, c.loop-next-test.false)) in
    let f : ℕ → ℕ = λ i. c.args.base + i in
    sym (take_all c.loop-next.next c.loop-next.out (omega arith)) ∙ c.loop-next.invariant.values
    ∙ ap (λ (k : ℕ). take k (drop c.args.from (map f xs))) end ∙ map_range f n c.args.from xs

pub loop-next-smaller : goal.loop-next-smaller
loop-next-smaller c =
    let out : List ℕ = c.loop-next.out in
    let left : ℕ = c.loop-next.left in
    let next : ℕ = c.loop-next.next in
    let begin : ℕ = c.run-begin.result.0 in
    let end : ℕ = c.run-begin.result.1 in
    let at = c.loop-next.invariant.here c.loop-next-test.true in
    let own = at.own in
    let size = run_len c.args.self.bounds.now c.loop-next.index begin end c.run-begin.ensures.first in
    let some : 1 ≤ min (end - begin - left) (length out - next) = le-min (omega arith) (omega (arith, c.loop-next-test.true)) in
    let few = c.min-wanted.ensures in
    let same = same_len_mid next (next + c.min-wanted.result - next) out c.fill_range.new.out c.fill_range.auto.out in
    omega (arith, c.loop-next-test.true)
