-- Eight sizes, each as a word.
use Rattle.std.proofs.Common.{List, ℕ, ◌+◌, ◌-◌, ◌≡◌, ◌∙◌, ap, arith, drop, get_or, length, length-drop, take}
use lib.Lanes.{chunk}
use Rattle.std.proofs.lemmas.List.{get_or-drop, get_or-map, get_or-take, length-take-le}
use Rattle.std.proofs.lemmas.Simd.{get_or-chunk, length-chunk}
use Rattle.bitpack_slices.proofs.blocks.eight_of.Goals as goal

pub returns : goal.returns
returns c = λ k lt.
    let sizes = c.args.sizes.now in
    let at = c.args.at in
    let part : List ℕ = take (256 - at) (drop at sizes) in
    let long : length part ≡ 256 - at = length-take-le (256 - at) (drop at sizes) (omega (arith, length-drop at sizes)) in
    let eight : length (chunk 0 8 part) ≡ 8 = length-chunk 0 8 part (omega arith) in
    let same : 0 + k ≡ k = omega arith in
    get_or-map (λ x. x) (chunk 0 8 part) k 0 0 (omega arith) ∙ get_or-chunk 0 8 part k 0 lt ∙ ap (λ (n : ℕ). get_or part n 0) same
    ∙ get_or-take (256 - at) (drop at sizes) k 0 (omega arith) ∙ get_or-drop at sizes k 0
