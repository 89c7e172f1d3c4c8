-- One high word is left.
use Rattle.std.proofs.Common.{◌≡◌, ◌+◌, ℕ, ap, arith, refl}
use Rattle.bitpack_slices.proofs.ForCallers.{bytes_are}
use Rattle.bitpack_sets.proofs.ForCallers.{before_next}
use Rattle.bitpack_wide.specs.Directory.{before, sum_at}
use Rattle.bitpack_wide.proofs.WordReads.{last_sum}
use Rattle.bitpack_wide.proofs.directory.Directory.word_of.Goals as goal

pub loop-left-init : goal.loop-left-init
loop-left-init c =
    let d = c.args.self in
    let all = last_sum d.count d.words d.rest.now (bytes_are d.rest.now d.are_bytes) d.sound d.words refl in
    let some = d.sound.some in
    let plus : 0 + d.words ≡ d.words = omega arith in
    let same = ap (before (sum_at d.words d.rest.now)) plus in
    record { some = some; within = omega arith; from = omega arith; below = omega arith }

pub returns-clause-below : goal.returns-clause-below
returns-clause-below c =
    let sum : ℕ → ℕ = sum_at c.args.self.words c.args.self.rest.now in
    let one : c.loop-left.left ≡ 1 = (let some = c.loop-left.invariant.some in omega (arith, c.loop-left-test.false)) in
    let last = ap (λ (n : ℕ). before sum (c.loop-left.word + n)) one in
    let next = before_next sum c.loop-left.word in
    let below = c.loop-left.invariant.below in
    omega arith
