-- A vector of one word is the word.
use Rattle.std.proofs.Common.{◌≡◌, ◌%◌, ◌^◌, [], ◌∷◌, take, ap, ◌∙◌, Fits, w8}
use lib.Lanes.{number_l}
use Rattle.std.proofs.Math.Nat.{mod-mod}
use Rattle.std.proofs.lemmas.Simd.{Each1-from_get_or}
use Rattle.bitpacking_register.proofs.WordLemmas.{take-whole, words-digits}
use Rattle.bitpacking_register.proofs.word.U32Register.from_bytes.Goals as goal

pub returns : goal.returns
returns c =
    let bytes = c.args.bytes.now in
    let whole : take 4 bytes ≡ bytes = take-whole 4 bytes c.requires in
    ap (λ n. n ∷ []) (mod-mod (number_l 256 (take 4 bytes)) (2 ^ 32))
    ∙ ap (λ bs. number_l 256 bs % 2 ^ 32 ∷ []) whole
    ∙ words-digits 1 bytes c.requires (Each1-from_get_or (Fits w8) bytes 0 (λ k _. c.type_inv.bytes k))
