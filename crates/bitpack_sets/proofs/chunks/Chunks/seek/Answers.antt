-- The middle position tells which half has the first whose key is not lower.
use Rattle.std.proofs.Common.{◌-◌, ◌/◌, ap, arith}
use Rattle.bitpack_sets.proofs.lemmas.reads.PositionLaws.{walk}
use Rattle.bitpack_sets.proofs.lemmas.reads.WalkLaws.{sought_right, sought_start}
use Rattle.bitpack_sets.proofs.chunks.Chunks.seek.Goals as goal
use Rattle.bitpack_sets.specs.Chunks.{ids_from, positions}

pub loop-left-init : goal.loop-left-init
loop-left-init c =
    let set = c.args.self.now in
    sought_start (positions set) (ids_from set) (walk set) c.args.position c.args.key (c.len.result - c.args.position) c.requires.within c.requires.key (ap (λ n. n - c.args.position) c.len.ensures)

pub loop-left-preserved-then-key : goal.loop-left-preserved-then-key
loop-left-preserved-then-key c =
    let set = c.args.self.now in
    sought_right (positions set) (ids_from set) (walk set) c.args.position c.args.key c.loop-left.low c.loop-left.left (c.loop-left.left / 2) c.loop-left.invariant
    (let some = c.loop-left-test.true in omega arith) (omega (arith, c.key.ensures.first, c.if-key.true))
