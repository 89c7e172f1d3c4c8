-- Values of codes, one after the other.
use Rattle.std.proofs.Common.{◌≡◌, ◌⊎◌, ℕ, zero, suc, ◌+◌, ◌-◌, ◌%◌, ◌^◌, ◌<◌, ◌≤◌, List, [], ◌∷◌, length, min, take, drop, get_or, set, bit_and, refl, sym, ◌∙◌, ap, arith, inl, inr}
use Rattle.std.proofs.lemmas.Bool.{cases_lt}
use Rattle.std.proofs.lemmas.List.{drop-drop, drop-set-lt, drop_more, get_or-drop}
use Rattle.std.proofs.lemmas.Nat.{and_mask}
use Rattle.std.specs.Int.Bits.{and_zero_r}
use Rattle.bitpack_groups.proofs.ForCallers.{IsFilled, fill_one}
use Rattle.bitpack_columns.specs.declared.column_kind.ColumnKind.TheVariants.{Sorted}
use Rattle.bitpack_columns.specs.Reads.{values_of}

-- ---- codes that are replaced by their values

-- `all` is written up to an index, and the rest is as it was at first
pub record Replaces (first out : List ℕ) (at : ℕ) (rest all : List ℕ) : Type 0 where
  pub filled : IsFilled out at rest all
  pub left : drop at out ≡ drop at first

same_next : (one other : List ℕ) (at : ℕ) → drop at one ≡ drop at other → get_or one at 0 ≡ get_or other at 0
same_next one other at e =
    let here : at ≡ at + 0 = omega arith in
    ap (λ n. get_or one n 0) here ∙ sym (get_or-drop at one 0 0) ∙ ap (λ xs. get_or xs 0 0) e ∙ get_or-drop at other 0 0 ∙ ap (λ n. get_or other n 0) (sym here)

module _ (first out : List ℕ) (at x : ℕ) (rest all : List ℕ) (before : Replaces first out at (x ∷ rest) all) where
  pub replaced : Replaces first (set out at x) (at + 1) rest all
  replaced =
      record {
        filled = fill_one out at x rest all before.filled;
        left =
            drop-set-lt (at + 1) out at x (omega arith) ∙ sym (drop-drop 1 at out) ∙ ap (drop 1) before.left ∙ drop-drop 1 at first;
      }

-- ---- running sums

pub sums_same : (one other : ℕ) (codes : List ℕ) → one % 2 ^ 32 ≡ other % 2 ^ 32 → values_of Sorted one codes ≡ values_of Sorted other codes
sums_same one other [] e = refl
sums_same one other (code ∷ codes) e =
    let here : (one + code) % 2 ^ 32 ≡ (other + code) % 2 ^ 32 = omega arith in
    ap (λ x. x ∷ values_of Sorted (one + code) codes) here ∙ ap (λ xs. (other + code) % 2 ^ 32 ∷ xs) (sums_same (one + code) (other + code) codes here)

-- the values from an index on
pub sums_more : (value index : ℕ) (codes : List ℕ) → index < length codes
    → values_of Sorted value (drop index codes)
    ≡ (value + get_or codes index 0) % 2 ^ 32 ∷ values_of Sorted ((value + get_or codes index 0) % 2 ^ 32) (drop (index + 1) codes)
sums_more value index codes lt =
    let sum : ℕ = value + get_or codes index 0 in
    ap (values_of Sorted value) (drop_more codes index 0 lt)
    ∙ ap (λ xs. sum % 2 ^ 32 ∷ xs) (sums_same sum (sum % 2 ^ 32) (drop (index + 1) codes) (omega arith))

module _ (first out : List ℕ) (at value : ℕ) (all : List ℕ) (lt : at < length first)
    (before : Replaces first out at (values_of Sorted value (drop at first)) all) where
  -- one code more is replaced by its value
  pub sum_replaced : Replaces first (set out at ((value + get_or out at 0) % 2 ^ 32)) (at + 1)
      (values_of Sorted ((value + get_or out at 0) % 2 ^ 32) (drop (at + 1) first)) all
  sum_replaced =
      let same = same_next out first at before.left in
      let next : ℕ = (value + get_or out at 0) % 2 ^ 32 in
      let more : values_of Sorted value (drop at first) ≡ next ∷ values_of Sorted next (drop (at + 1) first) =
      sums_more value at first lt ∙ ap (λ x. (value + x) % 2 ^ 32 ∷ values_of Sorted ((value + x) % 2 ^ 32) (drop (at + 1) first)) (sym same) in
      replaced first out at next (values_of Sorted next (drop (at + 1) first)) all (rw more at before)

-- the value at an index is the sum of the one before it and the code
pub sums-next : (before : ℕ) (codes : List ℕ) (index : ℕ) → index < length codes
    → get_or (values_of Sorted before codes) index 0 ≡ (get_or (before ∷ values_of Sorted before codes) index 0 + get_or codes index 0) % 2 ^ 32
sums-next before [] index lt = absurd (omega arith)
sums-next before (code ∷ codes) zero lt = refl
sums-next before (code ∷ []) (suc index) lt = absurd (omega arith)
sums-next before (code ∷ other ∷ codes) (suc zero) lt = omega arith
sums-next before (code ∷ other ∷ codes) (suc (suc index)) lt = sums-next (before + code) (other ∷ codes) (suc index) (omega arith)

-- the first values are those of the first codes
pub take-sums : (count before : ℕ) (codes : List ℕ) → values_of Sorted before (take count codes) ≡ take count (values_of Sorted before codes)
take-sums zero before codes = refl
take-sums (suc count) before [] = refl
take-sums (suc count) before (code ∷ codes) = ap (λ xs. (before + code) % 2 ^ 32 ∷ xs) (take-sums count (before + code) codes)

-- one code more is added, or after the last one 0
module _ (before value index last mask : ℕ) (codes : List ℕ) (lt : index < length codes) (small : value < 2 ^ 32)
    (all : index ≤ last → mask ≡ 2 ^ 32 - 1) (none : last < index → mask ≡ 0)
    (e : value ≡ get_or (before ∷ values_of Sorted before codes) (min index (last + 1)) 0) where
  abbrev pub IsNext : Type 0
  IsNext = (value + bit_and (get_or codes index 0) mask) % 2 ^ 32 ≡ get_or (before ∷ values_of Sorted before codes) (min (index + 1) (last + 1)) 0

  choose : (last < index) ⊎ (index ≤ last) → IsNext
  choose (inl after) =
      let left : bit_and (get_or codes index 0) mask ≡ 0 = ap (bit_and (get_or codes index 0)) (none after) ∙ and_zero_r (get_or codes index 0) in
      let here : min index (last + 1) ≡ min (index + 1) (last + 1) = omega arith in
      let same : (value + bit_and (get_or codes index 0) mask) % 2 ^ 32 ≡ value = omega (arith, left, small) in
      same ∙ e ∙ ap (λ n. get_or (before ∷ values_of Sorted before codes) n 0) here
  choose (inr within) =
      let kept : bit_and (get_or codes index 0) mask ≡ get_or codes index 0 % 2 ^ 32 =
      ap (bit_and (get_or codes index 0)) (all within) ∙ and_mask (get_or codes index 0) 32 in
      let here : min index (last + 1) ≡ index = omega arith in
      let next : suc index ≡ min (index + 1) (last + 1) = omega arith in
      let sum : (value + bit_and (get_or codes index 0) mask) % 2 ^ 32 ≡ (value + get_or codes index 0) % 2 ^ 32 = omega (arith, kept) in
      sum ∙ ap (λ v. (v + get_or codes index 0) % 2 ^ 32) (e ∙ ap (λ n. get_or (before ∷ values_of Sorted before codes) n 0) here)
      ∙ sym (sums-next before codes index lt) ∙ ap (λ n. get_or (before ∷ values_of Sorted before codes) n 0) next

  pub masked-next : IsNext
  masked-next = choose (cases_lt last index)
