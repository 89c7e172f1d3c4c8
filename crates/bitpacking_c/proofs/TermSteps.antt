-- The table of a term, which is one, started or not.
use Rattle.std.proofs.Common.{◌≡◌, ℕ, ◌%◌, ◌<◌, List, [], ◌∷◌, length, replicate, refl, sym, ap, subst, arith}
use Rattle.std.proofs.lemmas.List.{length-replicate}
use Rattle.std.proofs.lemmas.Simd.{get_or-replicate}
use Rattle.bitpack_ranked.specs.Scores.{IsTable}
use Rattle.bitpacking_c.specs.Terms.{table_or_zeros}

pub of_parts : (table : List ℕ) → 0 < length table → table_or_zeros table ≡ table
of_parts [] lt = absurd (omega (arith, lt))
of_parts (part ∷ parts) lt = refl

pub of_none : (table : List ℕ) → length table ≡ 0 → table_or_zeros table ≡ replicate 256 0
of_none [] e = refl
of_none (part ∷ parts) e = absurd (omega (arith, e))

pub of_table : (table : List ℕ) → IsTable table → IsTable (table_or_zeros table)
of_table table is = subst (λ parts. IsTable parts) (sym (of_parts table (omega (arith, is.some)))) is

-- no document gets more than 0
abbrev zeros : List ℕ
zeros = replicate 256 0

len : length zeros ≡ 256
len = length-replicate {A = ℕ} 256 0

pub zeros_table : IsTable zeros
zeros_table = record {
  some = omega (arith, len);
  whole = ap (λ n. n % 256) len;
  first = λ i lt. omega (arith, get_or-replicate {A = ℕ} 256 i 0 0 (omega (arith, lt, len)));
  rises = λ i lt. absurd (omega (arith, lt, len));
}
