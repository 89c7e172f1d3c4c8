-- The boundaries follow the two bytes that begin runs.
use Rattle.std.proofs.Common.{◌≡◌, ◌+◌, ◌∙◌, ◌++◌, ◌∷◌, List, ℕ, ap, arith, length, length-set, set}
use Rattle.std.proofs.lemmas.Slice.{take-put_mid}
use Rattle.bitpack_slices.proofs.lemmas.bits.CountLaws.{bytes_are}
use Rattle.bitpack_slices.proofs.lemmas.bodies.OneBody.{runs_pairs, two_first}
use Rattle.bitpack_slices.proofs.body.runs.put_runs.Goals as goal

pub returns : goal.returns
returns c =
    let bytes : List ℕ = c.args.bounds.now in
    let out : List ℕ = c.args.out.now in
    let xs : List ℕ = set (set out 0 1) 1 255 in
    let long = length-set (set out 0 1) 1 255 in
    let long' = length-set out 0 1 in
    let same : c.copy_from_slice.new.self ≡ bytes = c.copy_from_slice.ensures.after in
    let size = ap length same in
    take-put_mid 2 _ xs c.copy_from_slice.new.self (2 + length bytes) (omega arith) (omega arith)
    ∙ ap (λ (l : List ℕ). l ++ c.copy_from_slice.new.self) (two_first out 1 255 (omega arith)) ∙ ap (λ (l : List ℕ). 1 ∷ 255 ∷ l) same
    ∙ runs_pairs bytes (bytes_are bytes (λ k. (c.type_inv.bounds k).fits)) c.requires.pairs
