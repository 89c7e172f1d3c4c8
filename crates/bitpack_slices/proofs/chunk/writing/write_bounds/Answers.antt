-- The boundaries follow the two bytes that begin runs.
use Rattle.std.proofs.Common.{◌≡◌, ◌∷◌, ◌++◌, ◌∙◌, [], List, ap, refl, ℕ, arith, set, length}
use Rattle.bitpack_slices.proofs.chunk.writing.write_bounds.Goals as goal
use Rattle.bitpack_slices.specs.Runs.{runs}

-- two bytes are set
two_set : (bytes : List ℕ) (a b : ℕ) → length bytes ≡ 2 → set (set bytes 0 a) 1 b ≡ a ∷ b ∷ []
two_set [] a b e = absurd (omega arith)
two_set (x ∷ []) a b e = absurd (omega arith)
two_set (x ∷ y ∷ []) a b e = refl
two_set (x ∷ y ∷ z ∷ bytes) a b e = absurd (omega arith)

pub returns : goal.returns
unfolding runs
returns c =
    ap (λ (l : List ℕ). l ++ c.write_integers.new.out) (two_set c.split_at_mut-head.result.0.now 1 255 (omega (arith, c.split_at_mut-head.ensures.front_len)))
    ∙ ap (λ (l : List ℕ). 1 ∷ 255 ∷ l) c.write_integers.ensures
