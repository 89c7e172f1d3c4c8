-- One number more.
use Rattle.std.proofs.Common.{◌≡◌, ℕ, List, arith, false, rules}
use Rattle.bitpack_slices.specs.Slices.{pairs_of}
use Rattle.bitpack_slices.proofs.ForCallers.{fall_here, fall_later, fall_none, fall_start, pairs_len}
use Rattle.bitpack_roaring.proofs.FallSteps.{fall_error, none_falls}
use Rattle.bitpack_roaring.proofs.testing.test_array.Goals as goal

pub returns-then-not-falls : goal.returns-then-not-falls
returns-then-not-falls c =
    let none : c.falls.result ≡ false = search rules in
    let size = pairs_len c.args.body.now in
    fall_error _ _ _ (none_falls c.args.position (pairs_of c.args.body.now) (λ k lt. c.falls.ensures none k (omega arith)))

pub loop-index-init : goal.loop-index-init
loop-index-init c = fall_start c.args.position (pairs_of c.args.body.now)

pub returns-then-number_at : goal.returns-then-number_at
returns-then-number_at c =
    let xs : List ℕ = pairs_of c.args.body.now in
    let size = pairs_len c.args.body.now in
    fall_error _ _ _ (fall_here c.args.position c.loop-index.index xs (omega arith) (omega arith) (omega (arith, c.number_at.ensures, c.number_at-in-loop-index.ensures)) c.loop-index.invariant)

pub loop-index-preserved : goal.loop-index-preserved
loop-index-preserved c =
    let xs : List ℕ = pairs_of c.args.body.now in
    let size = pairs_len c.args.body.now in
    fall_later c.args.position c.loop-index.index xs (omega arith) (omega arith) (omega (arith, c.number_at.ensures, c.number_at-in-loop-index.ensures)) c.loop-index.invariant

pub returns : goal.returns
returns c =
    let xs : List ℕ = pairs_of c.args.body.now in
    let size = pairs_len c.args.body.now in
    fall_error _ _ _ (fall_none c.args.position c.loop-index.index xs (omega arith) c.loop-index.invariant)
