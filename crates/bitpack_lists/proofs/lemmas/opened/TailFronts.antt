-- Values from the first codes.
-- Serves opened.
use Rattle.std.proofs.Common.{◌≡◌, ℕ, zero, suc, ◌+◌, ◌%◌, ◌^◌, Some, None, List, [], ◌∷◌, take, refl, sym, ◌∙◌, ap}
use Rattle.bitpacking.specs.Codes.{values_of}
use Rattle.bitpacking.specs.declared.kind.Kind.{Kind}
use Rattle.bitpacking.specs.declared.kind.Kind.TheVariants.{Plain, Sorted, StrictlySorted}
use Rattle.bitpack_lists.specs.inner.CodeSteps.{sums}
use Rattle.bitpack_lists.proofs.lemmas.blocks.CodeLemmas.{sums-sorted, sums-strict}

sums-take : (before more n : ℕ) (xs : List ℕ) → sums before more (take n xs) ≡ take n (sums before more xs)
sums-take before more zero xs = refl
sums-take before more (suc n) [] = refl
sums-take before more (suc n) (x ∷ xs) =
    let next : ℕ = (before + x + more) % 2 ^ 32 in
    ap (λ zs. next ∷ zs) (sums-take next more n xs)

strict-take : (before n : ℕ) (xs : List ℕ) → values_of (StrictlySorted (Some before)) (take n xs) ≡ take n (values_of (StrictlySorted (Some before)) xs)
strict-take before n xs =
    sym (sums-strict before before (take n xs) refl) ∙ sums-take before 1 n xs ∙ ap (take n) (sums-strict before before xs refl)

pub values_of-take : (kind : Kind) (n : ℕ) (codes : List ℕ) → values_of kind (take n codes) ≡ take n (values_of kind codes)
values_of-take Plain n codes = refl
values_of-take (Sorted initial) n codes =
    sym (sums-sorted initial initial (take n codes) refl) ∙ sums-take initial 0 n codes ∙ ap (take n) (sums-sorted initial initial codes refl)
values_of-take (StrictlySorted None) n codes = strict-take 4294967295 n codes
values_of-take (StrictlySorted (Some initial)) n codes = strict-take initial n codes
