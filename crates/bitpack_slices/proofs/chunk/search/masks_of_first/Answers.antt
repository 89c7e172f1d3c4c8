-- The window over the masks begins so that as many have all bits.
use Rattle.std.proofs.Common.{◌≡◌, ℕ, ◌+◌, ◌-◌, ◌*◌, ◌<◌, ◌≤◌, List, ◌++◌, drop, length, take, get_or, ◌∙◌, ap, arith, replicate}
use Rattle.std.proofs.lemmas.List.{get_or-append_right, get_or-drop, get_or-replicate, get_or-take, get_or_append_left, length-replicate}
use Rattle.bitpack_slices.proofs.chunk.search.masks_of_first.Goals as goal

abbrev masks : List ℕ
masks = replicate 32 255 ++ replicate 32 0

there : (all : List ℕ) (many k : ℕ) → many ≤ 32 → k < 32 → all ≡ masks
    → get_or (take (2 * 32 - many - (32 - many)) (drop (32 - many) all)) k 0 ≡ get_or masks (32 - many + k) 0
there all many k few lt e =
    get_or-take (2 * 32 - many - (32 - many)) (drop (32 - many) all) k 0 (omega arith) ∙ get_or-drop (32 - many) all k 0
    ∙ ap (λ xs. get_or xs (32 - many + k) 0) e

pub returns-clause-all : goal.returns-clause-all
returns-clause-all c = λ k lt.
    let many : ℕ = c.args.many in
    let few : many ≤ 32 = c.requires in
    let long : length (replicate {A = ℕ} 32 255) ≡ 32 = length-replicate {A = ℕ} 32 255 in
    there c.masks.result.now many k few (omega arith) c.masks.ensures
    ∙ get_or_append_left (replicate 32 255) (replicate 32 0) 0 (32 - many + k) (omega (arith, long))
    ∙ get_or-replicate 32 (32 - many + k) 255 0 (omega arith)

pub returns-clause-none : goal.returns-clause-none
returns-clause-none c = λ k after lt.
    let many : ℕ = c.args.many in
    let few : many ≤ 32 = c.requires in
    there c.masks.result.now many k few lt c.masks.ensures
    ∙ get_or-append_right (replicate 32 255) (replicate 32 0) 32 (32 - many + k) 0 (length-replicate {A = ℕ} 32 255) (omega arith)
    ∙ get_or-replicate 32 (32 - many + k - 32) 0 0 (omega arith)
