-- There is a bit for each container.
use Rattle.std.proofs.Common.{arith, rules, true, ◌≡◌}
use Rattle.bitpack_roaring.proofs.HeadLaws.{flags_room}
use Rattle.bitpack_roaring.proofs.head.Head.is_run.Goals as goal

pub bounds-self-container : goal.bounds-self-container
bounds-self-container c =
    let runs : c.args.self.runs ≡ true = search rules in
    let room = flags_room _ _ _ _ _ _ c.args.self.sound runs in
    omega (arith, c.requires.within)
