-- A place in a chunk, and the counts of its slices.
use Rattle.std.proofs.Common.{◌≡◌, ℕ, ◌*◌, ◌∙◌, Bool, List, [], ap, cond, eq-eqb, length, sym}
use Rattle.std.proofs.lemmas.Bool.{ne_eqb}
use Rattle.bitpack_sets.specs.Directory.{body_at, count_at}
use Rattle.bitpack_sets.specs.Places.{body_counts_of}
use Rattle.bitpack_slices.specs.Runs.{begins_runs}
use Rattle.bitpack_slices.specs.Slices.{counts_in}

-- the counts of a body as the code tells it from others
pub counts_of_numbers : (chunks m own : ℕ) (rest body : List ℕ) → own ≡ count_at chunks rest m → body ≡ body_at chunks rest m → length body ≡ 2 * own
    → [] ≡ body_counts_of (count_at chunks rest m) (body_at chunks rest m)
counts_of_numbers chunks m own rest body o b e =
    let size : length (body_at chunks rest m) ≡ 2 * count_at chunks rest m = ap length (sym b) ∙ e ∙ ap (λ (n : ℕ). 2 * n) o in
    sym (ap (λ (t : Bool). cond t [] (cond (begins_runs (body_at chunks rest m)) [] (counts_in (body_at chunks rest m)))) (eq-eqb (length (body_at chunks rest m)) (2 * count_at chunks rest m) size))

pub counts_of_others : (chunks m own : ℕ) (rest body : List ℕ) (begun : Bool) → own ≡ count_at chunks rest m → body ≡ body_at chunks rest m → (length body ≡ 2 * own → ⊥)
    → begins_runs body ≡ begun → cond begun [] (counts_in body) ≡ body_counts_of (count_at chunks rest m) (body_at chunks rest m)
counts_of_others chunks m own rest body begun o b ne r =
    let other : length (body_at chunks rest m) ≡ 2 * count_at chunks rest m → ⊥ = λ h. ne (ap length b ∙ h ∙ ap (λ (n : ℕ). 2 * n) (sym o)) in
    ap (λ (t : Bool). cond t [] (counts_in body)) (sym r) ∙ ap (λ (l : List ℕ). cond (begins_runs l) [] (counts_in l)) b
    ∙ sym (ap (λ (t : Bool). cond t [] (cond (begins_runs (body_at chunks rest m)) [] (counts_in (body_at chunks rest m)))) (ne_eqb (length (body_at chunks rest m)) (2 * count_at chunks rest m) other))
