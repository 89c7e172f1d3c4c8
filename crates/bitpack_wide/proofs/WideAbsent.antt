-- The set of a wide column has the positions of its missing values.
use Rattle.std.proofs.Common.{◌≡◌, ℕ, zero, suc, ◌+◌, ◌<◌, ◌≤◌, Bool, true, false, ◌||◌, cond, eq-eqb, eqb-true, ltb, List, [], ◌∷◌, Option, Some, None, is_none, length, map, refl, sym, subst, ap, ◌∙◌, arith, inl, inr}
use Rattle.std.specs.List.{range_with_len}
use Rattle.std.proofs.lemmas.Bool.{cases_lt, lt-ltb, ne_eqb, true≢false}
use Rattle.bitpack_slices.specs.Bodies.{IsRising}
use Rattle.bitpack_slices.specs.Reads.{has, rank}
use Rattle.bitpack_slices.proofs.ForCallers.{both_true, has_below, rank_below}
use Rattle.bitpack_sets.specs.Reads as set_reads
use Rattle.bitpack_wide.specs.WideColumnReads.{part_at, rest_in, value_at, values_at, values_in}
use Rattle.bitpack_wide.specs.WideColumnSound.{States}
use Rattle.bitpack_wide.specs.WideColumns.{chunks_of, missing_from}
use Rattle.bitpack_wide.proofs.WideMissing.{one}
use Rattle.bitpack_wide.proofs.WideStated.{missing_right, value_by}

here : (o : Option ℕ) (a : ℕ) (later : List (Option ℕ)) → is_none o ≡ true → missing_from a (o ∷ later) ≡ a ∷ missing_from (a + 1) later
unfolding missing_from
here None a later e = refl
here (Some x) a later e = absurd (true≢false (sym e))

there : (o : Option ℕ) (a : ℕ) (later : List (Option ℕ)) → is_none o ≡ false → missing_from a (o ∷ later) ≡ missing_from (a + 1) later
unfolding missing_from
there None a later e = absurd (true≢false e)
there (Some x) a later e = refl

pub empty : (xs : List ℕ) → length xs ≡ 0 → [] ≡ xs
empty [] e = refl
empty (x ∷ xs) e = absurd (omega (arith, e))

low_more : (high a : ℕ) → IsRising a high [] → a < high → IsRising (a + 1) high []
low_more high a rising lt = omega (arith, lt)

next_rises : (y a high : ℕ) (ys : List ℕ) → y ≡ a → IsRising (y + 1) high ys → IsRising (a + 1) high ys
next_rises y a high ys e rising = subst (λ (n : ℕ). IsRising (n + 1) high ys) e rising

-- the missing positions from one on are the ids
absent : (value : ℕ → Option ℕ) (high n a : ℕ) (xs : List ℕ) → IsRising a high xs → a + n ≤ high → ((k : ℕ) → a ≤ k → is_none (value k) ≡ has k xs) → rank (a + n) xs ≡ length xs
    → missing_from a (map value (range_with_len a n)) ≡ xs
unfolding missing_from
absent value high zero a xs rising room is all = empty xs (omega (arith, all, rank_below (a + 0) a high xs rising (omega arith)))
absent value high (suc n) a [] rising room is all =
    there (value a) a (map value (range_with_len (a + 1) n)) (is a (omega arith))
    ∙ absent value high n (a + 1) [] (low_more high a rising (omega (arith, room))) (omega (arith, room)) (λ k le. is k (omega (arith, le))) refl
absent value high (suc n) a (y ∷ ys) rising room is all = elim (cases_lt a y) [
  | inl above ↦
      let e : a + 1 + n ≡ a + suc n = omega arith in
      there (value a) a (map value (range_with_len (a + 1) n)) (is a (omega arith) ∙ has_below a (a + 1) high (y ∷ ys) (omega (arith, above), rising.1) (omega arith))
      ∙ absent value high n (a + 1) (y ∷ ys) (omega (arith, above), rising.1) (omega (arith, room)) (λ k le. is k (omega (arith, le))) (ap (λ (p : ℕ). rank p (y ∷ ys)) e ∙ all)
  | inr from ↦
      let same : y ≡ a = omega (arith, from, rising.0) in
      let e : a + 1 + n ≡ a + suc n = omega arith in
      let counted : one (ltb y (a + suc n)) ≡ 1 = ap one (lt-ltb y (a + suc n) (omega (arith, same))) in
      here (value a) a (map value (range_with_len (a + 1) n)) (is a (omega arith) ∙ ap (λ (b : Bool). b || has a ys) (eq-eqb y a same))
      ∙ ap (λ (l : List ℕ). a ∷ l) (absent value high n (a + 1) ys (next_rises y a high ys same rising.1) (omega (arith, room))
      (λ k le. is k (omega (arith, le)) ∙ ap (λ (b : Bool). b || has k ys) (ne_eqb y k (λ f. absurd (omega (arith, same, le, f)))))
      (ap (λ (p : ℕ). rank p ys) e ∙ omega (arith, all, counted)))
      ∙ ap (λ (x : ℕ). x ∷ ys) (sym same)
]

none_of : (b : Bool) (x : ℕ) → is_none (cond b None (Some x)) ≡ b
none_of true x = refl
none_of false x = refl

pub missing_is : (bytes : List ℕ) (count : ℕ) (rest : List ℕ) (high : ℕ) (xs : List ℕ) → States bytes count rest → xs ≡ set_reads.ids_in (part_at (chunks_of count) rest 0)
    → IsRising 0 high xs → count ≤ high → missing_from 0 (values_in bytes) ≡ xs
unfolding values_at
missing_is bytes count rest high xs s same rising few =
    let missing : List ℕ = set_reads.ids_in (part_at (chunks_of count) rest 0) in
    let all : rank count missing ≡ length missing = eqb-true (rank count missing) (length missing) (both_true _ _ (missing_right bytes count rest s)).1 in
    let value : ℕ → Option ℕ = value_at count rest in
    let is : (k : ℕ) → is_none (value k) ≡ has k xs = λ k.
    ap is_none (value_by count rest k (has k missing) refl) ∙ none_of (has k missing) _ ∙ ap (has k) (sym same) in
    ap (λ (n : ℕ). missing_from 0 (map (value_at n (rest_in bytes)) (range_with_len 0 n))) (sym s.count_is)
    ∙ ap (λ (r : List ℕ). missing_from 0 (map (value_at count r) (range_with_len 0 count))) (sym s.rest_is)
    ∙ absent value high count 0 xs rising (omega (arith, few)) (λ k le. is k) (ap (λ (n : ℕ). rank n xs) (let z : 0 + count ≡ count = omega arith in z) ∙ ap (rank count) same ∙ all ∙ ap length (sym same))
