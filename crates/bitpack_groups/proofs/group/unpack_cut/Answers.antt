-- The bytes and the zeros after them are unpacked.
use Rattle.std.proofs.Common.{◌≡◌, ◌++◌, ℕ, List, length, drop, replicate, ap, refl, arith}
use Rattle.bitpack_groups.proofs.GroupLemmas.{unpacked-is}
use Rattle.bitpack_groups.proofs.group.unpack_cut.Goals as goal

pub returns : goal.returns
returns c =
    let cut : List ℕ = c.args.cut.now in
    let body : List ℕ = c.copy_from_slice.new.self ++ drop (length cut) (replicate {A = ℕ} 128 0) in
    let is : body ≡ cut ++ drop (length cut) (replicate {A = ℕ} 128 0) = ap (λ zs. zs ++ drop (length cut) (replicate {A = ℕ} 128 0)) c.copy_from_slice.ensures.after in
    unpacked-is c.args.width (length cut) cut body c.decompress.new.decompressed (omega arith) c.requires.cut (omega arith) refl is
    c.decompress.ensures.unpacked.block
