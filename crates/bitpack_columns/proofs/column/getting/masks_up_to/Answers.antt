-- The window over the masks begins so that the last mask with all bits is at the index.
use Rattle.std.proofs.Common.{◌≡◌, ℕ, ◌+◌, ◌-◌, ◌^◌, ◌<◌, List, ◌++◌, drop, length, take, get_or, ◌∙◌, ap, arith, replicate}
use Rattle.std.proofs.lemmas.List.{get_or-append_right, get_or-drop, get_or-replicate, get_or-take, get_or_append_left, length-replicate}
use Rattle.bitpack_columns.proofs.column.getting.masks_up_to.Goals as goal

abbrev masks : List ℕ
masks = replicate 128 (2 ^ 32 - 1) ++ replicate 128 0

there : (all : List ℕ) (last k : ℕ) → last < 128 → k < 128 → all ≡ masks
    → get_or (take (255 - last - (127 - last)) (drop (127 - last) all)) k 0 ≡ get_or masks (127 - last + k) 0
there all last k lt in_window e =
    get_or-take (255 - last - (127 - last)) (drop (127 - last) all) k 0 (omega arith) ∙ get_or-drop (127 - last) all k 0
    ∙ ap (λ xs. get_or xs (127 - last + k) 0) e

pub returns-clause-all : goal.returns-clause-all
returns-clause-all c = λ k le.
    let last : ℕ = c.args.last in
    let small : last < 128 = c.requires in
    let long : length (replicate {A = ℕ} 128 (2 ^ 32 - 1)) ≡ 128 = length-replicate 128 (2 ^ 32 - 1) in
    there c.masks.result.now last k small (omega arith) c.masks.ensures
    ∙ get_or_append_left (replicate 128 (2 ^ 32 - 1)) (replicate 128 0) 0 (127 - last + k) (omega (arith, long))
    ∙ get_or-replicate 128 (127 - last + k) (2 ^ 32 - 1) 0 (omega arith)

pub returns-clause-none : goal.returns-clause-none
returns-clause-none c = λ k after in_window.
    let last : ℕ = c.args.last in
    let small : last < 128 = c.requires in
    there c.masks.result.now last k small in_window c.masks.ensures
    ∙ get_or-append_right (replicate 128 (2 ^ 32 - 1)) (replicate 128 0) 128 (127 - last + k) 0 (length-replicate 128 (2 ^ 32 - 1)) (omega arith)
    ∙ get_or-replicate 128 (127 - last + k - 128) 0 0 (omega arith)
