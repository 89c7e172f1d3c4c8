-- The bounds of chunks, and of all values.
use Rattle.std.proofs.Common.{◌≡◌, ℕ, ◌+◌, ◌-◌, ◌*◌, ◌^◌, ◌<◌, ◌≤◌, Bool, true, false, min, max, List, [], ◌∷◌, ◌++◌, take, drop, length, Option, Some, None, refl, sym, subst, ap, ◌∙◌, arith, take-add}
use Rattle.std.proofs.lemmas.List.{drop_all, take_all}
use Rattle.bitpacking.specs.Bits.{AreBytes}
use Rattle.bitpack_groups.proofs.ForCallers.{AreBytes-drop}
use Rattle.bitpack_groups.specs.Numbers.{number_end}
use Rattle.bitpack_slices.proofs.ForCallers.{EachByte, bytes_are}
use Rattle.bitpack_wide.specs.WideColumnFaults.{is_front}
use Rattle.bitpack_wide.specs.WideColumnReads.{difference_at, greatest_at, is_missing, least_at, len_at, values_at, values_in}
use Rattle.bitpack_wide.specs.WideColumnSound.{States}
use Rattle.bitpack_wide.specs.inner.WideColumnSteps.{join_bounds}
use Rattle.bitpack_wide.specs.WideColumns.{chunk_of, chunks_of, greatest, least, there}
use Rattle.bitpack_wide.specs.WideOpened.{bounds_of}
use Rattle.bitpack_wide.proofs.WideBack.{chunk_is, right}
use Rattle.bitpack_wide.proofs.WideOrder.{there_append}
use Rattle.bitpack_wide.proofs.WideRest.{chunk_sound, len_is, values_same}
use Rattle.bitpack_wide.proofs.WideStated.{stated_parts}
use Rattle.bitpack_wide.proofs.WideValues.{empty_there, greatest_there, least_there, some_there}

-- what is after the count is bytes
pub rest_bytes : (bytes : List ℕ) (count : ℕ) (rest : List ℕ) → AreBytes bytes → States bytes count rest → EachByte rest
rest_bytes bytes count rest are s =
    bytes_are rest (subst AreBytes (sym s.rest_is) (AreBytes-drop (number_end (drop 1 bytes)) (drop 1 bytes) (AreBytes-drop 1 bytes are)))

-- ---- numbers together

least_few : (xs : List ℕ) → least xs ≤ 2 ^ 64 - 1
unfolding least
least_few [] = omega arith
least_few (x ∷ xs) = let later = least_few xs in grind (arith, later)

least_append : (xs ys : List ℕ) → least (xs ++ ys) ≡ min (least xs) (least ys)
unfolding least
least_append [] ys = let few = least_few ys in grind (arith, few)
least_append (x ∷ xs) ys = let later = least_append xs ys in grind (arith, later)

greatest_append : (xs ys : List ℕ) → greatest (xs ++ ys) ≡ max (greatest xs) (greatest ys)
unfolding greatest
greatest_append [] ys = grind arith
greatest_append (x ∷ xs) ys = let later = greatest_append xs ys in grind (arith, later)

without : (xs : List ℕ) → xs ++ [] ≡ xs
without [] = refl
without (x ∷ xs) = ap (λ (l : List ℕ). x ∷ l) (without xs)

pub bounds_append : (xs ys : List ℕ) → bounds_of (xs ++ ys) ≡ join_bounds (bounds_of xs) (bounds_of ys)
bounds_append [] ys = refl
bounds_append (x ∷ xs) [] = ap bounds_of (without (x ∷ xs))
bounds_append (x ∷ xs) (y ∷ ys) =
    ap (λ (n : ℕ). Some (n, greatest ((x ∷ xs) ++ (y ∷ ys)))) (least_append (x ∷ xs) (y ∷ ys))
    ∙ ap (λ (n : ℕ). Some (min (least (x ∷ xs)) (least (y ∷ ys)), n)) (greatest_append (x ∷ xs) (y ∷ ys))

bounds_some : (xs : List ℕ) (low high : ℕ) → 0 < length xs → least xs ≡ low → greatest xs ≡ high → bounds_of xs ≡ Some (low, high)
bounds_some [] low high some e f = absurd (omega (arith, some))
bounds_some (x ∷ xs) low high some e f = ap (λ (n : ℕ). Some (n, greatest (x ∷ xs))) e ∙ ap (λ (n : ℕ). Some (low, n)) f

-- ---- chunk by chunk

module _ (bytes : List ℕ) (count : ℕ) (rest : List ℕ) (are : AreBytes bytes) (s : States bytes count rest) where
  each : EachByte rest
  each = rest_bytes bytes count rest are s

  same : values_in bytes ≡ values_at count rest
  same = values_same bytes count rest each s

  own : (m : ℕ) → List ℕ
  own m = there (chunk_of m (values_in bytes))

  pub bounds_after : (m : ℕ) → chunks_of count ≤ m → None ≡ bounds_of (there (chunk_of m (values_in bytes)))
  unfolding chunk_of there
  bounds_after m le =
      let long : length (values_in bytes) ≡ count = ap length same ∙ len_is bytes count rest each s in
      sym (ap (λ (l : List (Option ℕ)). bounds_of (there (take 65536 l))) (drop_all (65536 * m) (values_in bytes) (omega (arith, long, le))))

  chunk_there : (m : ℕ) → m < chunks_of count → bounds_of (there (chunk_of m (values_in bytes))) ≡ bounds_of (there (chunk_of m (values_at count rest)))
  chunk_there m lt = ap (λ (l : List (Option ℕ)). bounds_of (there (chunk_of m l))) same

  pub bounds_empty : (m : ℕ) → m < chunks_of count → is_front (is_missing count rest m) (len_at count m) ≡ true → None ≡ bounds_of (there (chunk_of m (values_in bytes)))
  bounds_empty m lt e =
      let tables = (stated_parts bytes count rest s).tables in
      let sound = chunk_sound bytes count rest each s m lt in
      sym (chunk_there m lt ∙ ap (λ (l : List (Option ℕ)). bounds_of (there l)) (chunk_is count rest m each lt tables sound)
      ∙ ap bounds_of (empty_there (least_at rest m) (greatest_at rest m) (is_missing count rest m) (difference_at (chunks_of count) rest m) (len_at count m)
      (right count rest m each lt tables sound) e))

  pub bounds_there : (m : ℕ) → m < chunks_of count → is_front (is_missing count rest m) (len_at count m) ≡ false
      → Some (least_at rest m, greatest_at rest m) ≡ bounds_of (there (chunk_of m (values_in bytes)))
  bounds_there m lt e =
      let tables = (stated_parts bytes count rest s).tables in
      let sound = chunk_sound bytes count rest each s m lt in
      let is = right count rest m each lt tables sound in
      let low : ℕ = least_at rest m in
      let high : ℕ = greatest_at rest m in
      let missing : ℕ → Bool = is_missing count rest m in
      let difference : ℕ → ℕ = difference_at (chunks_of count) rest m in
      let len : ℕ = len_at count m in
      sym (chunk_there m lt ∙ ap (λ (l : List (Option ℕ)). bounds_of (there l)) (chunk_is count rest m each lt tables sound)
      ∙ bounds_some _ low high (some_there low high missing difference len is e) (least_there low high missing difference len is e) (greatest_there low high missing difference len is e))

  -- ---- the chunks so far

  pub bounds_start : None ≡ bounds_of (there (take (65536 * 0) (values_in bytes)))
  unfolding there
  bounds_start = let none : 65536 * 0 ≡ 0 = omega arith in sym (ap (λ (n : ℕ). bounds_of (there (take n (values_in bytes)))) none)

  pub bounds_next : (m : ℕ) → join_bounds (bounds_of (there (take (65536 * m) (values_in bytes)))) (bounds_of (there (chunk_of m (values_in bytes))))
      ≡ bounds_of (there (take (65536 * (m + 1)) (values_in bytes)))
  unfolding chunk_of
  bounds_next m =
      let next : 65536 * m + 65536 ≡ 65536 * (m + 1) = omega arith in
      let vs : List (Option ℕ) = values_in bytes in
      sym (ap (λ (n : ℕ). bounds_of (there (take n vs))) (sym next) ∙ ap (λ (l : List (Option ℕ)). bounds_of (there l)) (take-add (65536 * m) 65536 vs)
      ∙ ap bounds_of (there_append (take (65536 * m) vs) (take 65536 (drop (65536 * m) vs)))
      ∙ bounds_append (there (take (65536 * m) vs)) (there (take 65536 (drop (65536 * m) vs))))

  pub bounds_all : (m : ℕ) → chunks_of count ≤ m → bounds_of (there (take (65536 * m) (values_in bytes))) ≡ bounds_of (there (values_in bytes))
  bounds_all m le =
      let long : length (values_in bytes) ≡ count = ap length same ∙ len_is bytes count rest each s in
      ap (λ (l : List (Option ℕ)). bounds_of (there l)) (take_all (65536 * m) (values_in bytes) (omega (arith, long, le)))
