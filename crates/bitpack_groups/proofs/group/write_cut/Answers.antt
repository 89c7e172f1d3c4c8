-- The width and the bytes are written.
use Rattle.std.proofs.Common.{◌≡◌, ◌+◌, ◌-◌, ◌≤◌, ◌∷◌, ◌++◌, ℕ, List, length, set, ◌∙◌, ap, arith}
use Rattle.std.proofs.Math.Seq.{take-suc-set}
use Rattle.std.proofs.lemmas.List.{length-set, length-take-le}
use Rattle.std.proofs.lemmas.Slice.{take-put_mid}
use Rattle.bitpack_groups.proofs.group.write_cut.Goals as goal

pub returns-clause-cut : goal.returns-clause-cut
returns-clause-cut c =
    let width : ℕ = c.args.width in
    let size : ℕ = c.args.size in
    let bytes : List ℕ = set c.args.bytes.now 0 width in
    let cut : List ℕ = c.copy_from_slice.new.self in
    let long : length cut ≡ size = ap length c.copy_from_slice.ensures.after ∙ length-take-le size c.args.body.now c.requires.size in
    let room : 1 ≤ length bytes = omega (arith, length-set c.args.bytes.now 0 width, c.requires.room) in
    take-put_mid 1 (1 + size - 1) bytes cut (1 + size) (omega (arith, long)) room
    ∙ ap (λ zs. zs ++ cut) (take-suc-set c.args.bytes.now 0 width (omega (arith, c.requires.room)))
    ∙ ap (λ zs. width ∷ zs) c.copy_from_slice.ensures.after
