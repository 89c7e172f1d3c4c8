-- Values with a base added, and the first that is no word then.
use Rattle.std.proofs.Common.{◌≡◌, ℕ, suc, ◌+◌, ◌%◌, ◌^◌, ◌<◌, ◌≤◌, ltb, List, [], ◌∷◌, ◌++◌, length, get_or, Option, Some, None, refl, sym, ap, ◌∙◌, arith}
use Rattle.std.specs.Prelude.{slice_index}
use Rattle.std.specs.Option.{option_or}
use Rattle.std.proofs.lemmas.Bool.{cond_above, cond_below, ltb-true}
use Rattle.bitpack_columns.specs.declared.column_error.ColumnError.{ColumnError}
use Rattle.bitpack_columns.specs.declared.column_error.ColumnError.TheVariants.{Overflow}
use Rattle.bitpack_columns.specs.declared.column_kind.ColumnKind.{ColumnKind}
use Rattle.bitpack_columns.specs.declared.column_kind.ColumnKind.TheVariants.{Plain}
use Rattle.bitpack_columns.specs.Numbers.{greatest}
use Rattle.bitpack_columns.specs.Reads.{values_of}
use Rattle.bitpack_columns.specs.Written.{joined_refusal, overflow, overflow_at, raised, refusal}
use Rattle.bitpack_columns.proofs.NoFaults.{none_of}
use Rattle.bitpack_columns.proofs.SoundLaws.{first_of-none, only_if}
use Rattle.bitpack_columns.proofs.SumLaws.{greatest_le}

module _ (base : ℕ) (values : List ℕ) (k : ℕ) where
  pub fits_at : base + get_or values k 0 < 2 ^ 32 → overflow_at base values k ≡ None
  fits_at lt = sym (cond_below (base + get_or values k 0) (2 ^ 32) None (Some (Overflow k)) lt)

  pub large_at : 2 ^ 32 ≤ base + get_or values k 0 → overflow_at base values k ≡ Some (Overflow k)
  large_at le = sym (cond_above (base + get_or values k 0) (2 ^ 32) None (Some (Overflow k)) (Some (Overflow k)) le refl)

  pub fits_back : overflow_at base values k ≡ None → base + get_or values k 0 < 2 ^ 32
  fits_back none = ltb-true (base + get_or values k 0) (2 ^ 32) (only_if (ltb (base + get_or values k 0) (2 ^ 32)) (Overflow k) none)

-- no value is above the greatest
pub no_overflow : (base : ℕ) (values : List ℕ) → base + greatest (slice_index values) (length values) < 2 ^ 32 → overflow base values ≡ None
no_overflow base values lt =
    none_of (overflow_at base values) (length values)
    (λ k within. let le = greatest_le (slice_index values) (length values) k within in fits_at base values k (omega (arith, lt, le)))

-- values that are words with the base are added to without wrapping
wraps_none : (base : ℕ) (values : List ℕ) → ((k : ℕ) → k < length values → base + get_or values k 0 < 2 ^ 32) → values_of Plain base values ≡ raised base values
wraps_none base [] h = refl
wraps_none base (x ∷ xs) h =
    let small : base + x < 2 ^ 32 = h 0 (omega arith) in
    let same : (base + x) % 2 ^ 32 ≡ base + x = omega arith in
    ap (λ (n : ℕ). n ∷ values_of Plain base xs) same ∙ ap (λ (l : List ℕ). (base + x) ∷ l) (wraps_none base xs (λ k lt. h (suc k) (omega arith)))

pub raised_is : (base : ℕ) (values : List ℕ) → overflow base values ≡ None → values_of Plain base values ≡ raised base values
raised_is base values none = wraps_none base values (λ k lt. fits_back base values k (first_of-none (overflow_at base values) (length values) none k lt))

-- without such a value all are refused as others
pub as_others : (kind : ColumnKind) (values : List ℕ) (base : ℕ) (other : List ℕ) → overflow base other ≡ None
    → refusal kind (values ++ raised base other) ≡ joined_refusal kind values base other
as_others kind values base other none = ap (λ (o : Option ColumnError). option_or o (refusal kind (values ++ raised base other))) (sym none)
