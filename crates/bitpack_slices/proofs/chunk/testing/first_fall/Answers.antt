-- One number more.
use Rattle.std.proofs.Common.{ℕ, List, arith, sym}
use Rattle.bitpack_slices.specs.Slices.{pairs_of}
use Rattle.bitpack_slices.proofs.lemmas.numbers.FallLaws.{fall_here, fall_later, fall_none, fall_start}
use Rattle.bitpack_slices.proofs.lemmas.numbers.HalfLaws.{pairs_len}
use Rattle.bitpack_slices.proofs.chunk.testing.first_fall.Goals as goal

pub loop-index-init : goal.loop-index-init
loop-index-init c = fall_start c.args.position (pairs_of c.args.body.now)

pub returns-then-number_at : goal.returns-then-number_at
returns-then-number_at c =
    let xs : List ℕ = pairs_of c.args.body.now in
    let size = pairs_len c.args.body.now in
    sym (fall_here c.args.position c.loop-index.index xs (omega arith) (omega arith) (omega (arith, c.number_at.ensures, c.number_at-in-loop-index.ensures)) c.loop-index.invariant)

pub loop-index-preserved : goal.loop-index-preserved
loop-index-preserved c =
    let xs : List ℕ = pairs_of c.args.body.now in
    let size = pairs_len c.args.body.now in
    fall_later c.args.position c.loop-index.index xs (omega arith) (omega arith) (omega (arith, c.number_at.ensures, c.number_at-in-loop-index.ensures)) c.loop-index.invariant

pub returns : goal.returns
returns c =
    let xs : List ℕ = pairs_of c.args.body.now in
    let size = pairs_len c.args.body.now in
    sym (fall_none c.args.position c.loop-index.index xs (omega arith) c.loop-index.invariant)
