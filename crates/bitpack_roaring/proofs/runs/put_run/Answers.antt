-- The numbers are the first of eight, or all.
use Rattle.std.proofs.Common.{◌≡◌, ◌+◌, ◌-◌, ◌∙◌, ◌++◌, List, ℕ, ap, arith, drop, length, take}
use Rattle.std.specs.List.{range_with_len}
use Rattle.std.proofs.lemmas.Slice.{take-put_mid}
use Rattle.bitpack_groups.proofs.ForCallers.{lent_len}
use Rattle.bitpack_roaring.proofs.RunSteps.{range_raised, window_taken}
use Rattle.bitpack_roaring.proofs.runs.put_run.Goals as goal

pub returns-then-out-at-ge8-clause-values : goal.returns-then-out-at-ge8-clause-values
returns-then-out-at-ge8-clause-values c =
    let at : ℕ = c.args.at in
    let out : List ℕ = c.args.out.now in
    let size : ℕ = c.args.end - c.args.first in
    let eight : length (take (at + 8 - at) (drop at out)) ≡ 8 = lent_len at 8 out (omega (arith, c.if-out-at-ge8.true)) in
    let long = c.put_eight.auto.out in
    window_taken at size (at + 8 - at) out c.put_eight.new.out (omega (arith, c.requires.room)) (omega (arith, c.if-size-le8.true))
    ∙ ap (λ (l : List ℕ). take at out ++ l)
    (c.put_eight.ensures size (omega (arith, c.if-size-le8.true)) (omega (arith, c.requires.some, c.requires.within, c.requires.fits)) ∙ range_raised c.args.base c.args.first size)

pub returns-clause-values : goal.returns-clause-values
returns-clause-values c =
    let at : ℕ = c.args.at in
    let out : List ℕ = c.args.out.now in
    let size : ℕ = c.args.end - c.args.first in
    let mid : length (take (at + size - at) (drop at out)) ≡ size = lent_len at size out c.requires.room in
    let long = c.fill_range.auto.out in
    take-put_mid at (at + size - at) out c.fill_range.new.out (at + size) (omega arith) (omega (arith, c.requires.room))
    ∙ ap (λ (l : List ℕ). take at out ++ l) (c.fill_range.ensures ∙ ap (range_with_len (c.args.base + c.args.first)) mid ∙ range_raised c.args.base c.args.first size)
