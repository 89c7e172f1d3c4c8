-- A vector of one word is the word.
use Rattle.std.proofs.Common.{ℕ, ◌≡◌, ◌+◌, ◌/◌, ◌%◌, [], ◌∷◌, refl, ◌∙◌, arith}
use Rattle.std.proofs.Math.Nat.{mod-eq_of_lt}
use Rattle.std.proofs.lemmas.Simd.{put_chunk_whole}
use Rattle.bitpacking_register.proofs.word.U32Register.to_bytes.Goals as goal

pub returns : goal.returns
returns c =
    let x : ℕ = c.args.self in
    let same : x + 0 ≡ x = omega arith in
    let small : x % 4294967296 ≡ x = mod-eq_of_lt c.ranges.self.fits in
    let second : x / 256 / 256 ≡ x / 65536 = omega arith in
    let third : x / 256 / 256 / 256 ≡ x / 16777216 = omega arith in
    put_chunk_whole c.args.bytes.now (_ ∷ _ ∷ _ ∷ _ ∷ []) c.requires
    ∙ rw (same, small, third, second) refl
