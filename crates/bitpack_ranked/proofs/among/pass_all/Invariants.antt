-- The documents of the blocks so far are done.
use Rattle.std.proofs.Common.{◌*◌, ◌≤◌, length, map, take}
use Rattle.bitpack_slices.specs.Reads.{has}
use Rattle.bitpack_ranked.specs.Ranked.{AreBest, IsScored}
use Rattle.bitpack_ranked.proofs.among.pass_all.Given as goal

abbrev pub invariant-loop-block : goal.invariant-loop-block
invariant-loop-block g l =
    (l.len ≤ length l.found)
    × AreBest (IsScored (λ id. has id (take (128 * l.block) l.documents)) (map g.T.AsTerm.its_word l.terms) l.classes) (length l.found) (take l.len l.found)
