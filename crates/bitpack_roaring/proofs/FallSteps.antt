-- Numbers that increase have no first fall.
use Rattle.std.proofs.Common.{◌≡◌, ℕ, suc, ◌+◌, ◌<◌, Bool, cond, List, [], ◌∷◌, length, get_or, Option, Some, None, refl, ap, ◌∙◌, arith, subst}
use Rattle.std.specs.Option.{option_map}
use Rattle.std.proofs.lemmas.Bool.{lt-leb}
use Rattle.bitpack_slices.specs.Slices.{first_fall}
use Rattle.bitpack_slices.specs.declared.set_error.SetError.TheVariants.{NotSorted}

pub none_falls : (position : ℕ) (xs : List ℕ) → ((k : ℕ) → k + 1 < length xs → get_or xs k 0 < get_or xs (k + 1) 0) → first_fall position xs ≡ None
unfolding first_fall
none_falls position [] rises = refl
none_falls position (x ∷ []) rises = refl
none_falls position (x ∷ y ∷ xs) rises =
    ap (λ (b : Bool). cond b (Some (position + 1)) (first_fall (position + 1) (y ∷ xs))) (lt-leb y x (rises 0 (omega arith)))
    ∙ none_falls (position + 1) (y ∷ xs) (λ k lt. let e : suc k + 1 ≡ suc (k + 1) = omega arith in subst (λ (m : ℕ). get_or (y ∷ xs) k 0 < get_or (x ∷ y ∷ xs) m 0) e (rises (suc k) (omega arith)))

pub fall_error : (xs : List ℕ) (position : ℕ) (fall : Option ℕ) → first_fall position xs ≡ fall → option_map NotSorted (first_fall position xs) ≡ option_map NotSorted fall
fall_error xs position fall e = ap (option_map NotSorted) e
