-- The first groups of some: their codes are the first of all codes, and they have no fault if all groups have none.
use Rattle.std.proofs.Common.{◌≡◌, ℕ, zero, suc, min, ◌+◌, ◌-◌, ◌*◌, ◌%◌, ◌<◌, ◌≤◌, List, ◌++◌, length, get_or, slice_index, take, take-add, drop, replicate, ◌^◌, None, refl, sym, subst, ◌∙◌, ap, arith, inl, inr}
use Rattle.std.proofs.lemmas.Bool.{cases_lt}
use Rattle.std.proofs.lemmas.List.{drop_at, get_or-take, length-replicate, length-take, length-take-le, take-map, take_all, take_at}
use Rattle.std.proofs.lemmas.List.FromFn.{length-map-range_with_len}
use Rattle.bitpacking.specs.Bits.{AreBytes, bit_of}
use Rattle.bitpacking.specs.Layout.{codes_of, place}
use Rattle.bitpacking.specs.Words.{joined}
use Rattle.bitpack_groups.specs.Groups.{body_of, group_codes, group_end, group_fault, group_size, groups_codes, groups_fault, groups_of}
use Rattle.bitpack_groups.proofs.ForCallers.{none_first}
use Rattle.bitpack_columns.specs.declared.column_kind.ColumnKind.{ColumnKind}
use Rattle.bitpack_columns.specs.declared.column_kind.ColumnKind.TheVariants.{Plain, Sorted}
use Rattle.bitpack_columns.specs.Reads.{values_of}
use Rattle.bitpack_columns.proofs.ReadLaws.{groups_read}
use Rattle.bitpack_columns.proofs.ValueLaws.{take-sums}

long_codes : (width : ℕ) (body : List ℕ) → length (codes_of 1 width body) ≡ 32
unfolding codes_of
long_codes width body = length-map-range_with_len (λ k. joined 1 (λ j. bit_of body (place 1 width k j)) width) 0 32

-- a group of 32 codes
abbrev whole_group : List ℕ → List ℕ
whole_group bytes = group_codes 32 bytes

length-whole : (bytes : List ℕ) → length (whole_group bytes) ≡ 32
length-whole bytes =
    let width : ℕ = slice_index bytes 0 in
    let all = codes_of 1 width (body_of width (take (group_size 32 width) (drop 1 bytes))) in
    length-take-le 32 all (omega (arith, long_codes width (body_of width (take (group_size 32 width) (drop 1 bytes)))))

take_more : (n : ℕ) (xs ys : List ℕ) → length xs ≡ 32 → take (32 + n) (xs ++ ys) ≡ xs ++ take n ys
take_more n xs ys long =
    take-add 32 n (xs ++ ys) ∙ ap (λ zs. zs ++ take n (drop 32 (xs ++ ys))) (take_at xs ys 32 long) ∙ ap (λ zs. xs ++ take n zs) (drop_at xs ys 32 long)

front_codes : (groups total count : ℕ) (bytes : List ℕ) → groups ≤ total → 32 * groups ≤ count
    → groups_codes groups (32 * groups) bytes ≡ take (32 * groups) (groups_codes total count bytes)
unfolding groups_codes
front_codes zero total count bytes le few = refl
front_codes (suc groups) zero count bytes le few = absurd (omega arith)
front_codes (suc groups) (suc total) count bytes le few =
    let one : min 32 (32 * suc groups) ≡ 32 = omega arith in
    let all : min 32 count ≡ 32 = omega arith in
    let less : 32 * suc groups - 32 ≡ 32 * groups = omega arith in
    let size : 32 + 32 * groups ≡ 32 * suc groups = omega arith in
    let rest : List ℕ = drop (group_end 32 bytes) bytes in
    ap (λ n. group_codes n bytes ++ groups_codes groups (32 * suc groups - 32) (drop (group_end n bytes) bytes)) one
    ∙ ap (λ n. whole_group bytes ++ groups_codes groups n rest) less
    ∙ ap (λ xs. whole_group bytes ++ xs) (front_codes groups total (count - 32) rest (omega arith) (omega arith))
    ∙ sym (take_more (32 * groups) (whole_group bytes) (groups_codes total (count - 32) rest) (length-whole bytes))
    ∙ ap (λ n. take n (whole_group bytes ++ groups_codes total (count - 32) rest)) size
    ∙ ap (λ n. take (32 * suc groups) (group_codes n bytes ++ groups_codes total (count - 32) (drop (group_end n bytes) bytes))) (sym all)

front_right : (groups total block count : ℕ) (bytes : List ℕ) → groups ≤ total → 32 * groups ≤ count → groups_fault total block count bytes ≡ None
    → groups_fault groups block (32 * groups) bytes ≡ None
unfolding groups_fault
front_right zero total block count bytes le few none = refl
front_right (suc groups) zero block count bytes le few none = absurd (omega arith)
front_right (suc groups) (suc total) block count bytes le few none =
    let one : min 32 (32 * suc groups) ≡ 32 = omega arith in
    let all : min 32 count ≡ 32 = omega arith in
    let less : 32 * suc groups - 32 ≡ 32 * groups = omega arith in
    let rest : List ℕ = drop (group_end 32 bytes) bytes in
    let both = none_first (group_fault block 32 bytes) (groups_fault total (block + 1) (count - 32) rest) (rw all at none) in
    let later = front_right groups total (block + 1) (count - 32) rest (omega arith) (omega arith) both.1 in
    rw (one, less, both.0) later

-- the groups up to the end of one, or all
module _ (block count len : ℕ) (bytes : List ℕ) (within : len ≤ count) (ends : len < count → len % 32 ≡ 0)
    (none : groups_fault (groups_of count) block count bytes ≡ None) where
  pub front_groups_right : groups_fault (groups_of len) block len bytes ≡ None
  front_groups_right = elim (cases_lt len count) [
    | inl lt ↦
        let whole = ends lt in
        let size : 32 * groups_of len ≡ len = omega arith in
        subst (λ n. groups_fault (groups_of len) block n bytes ≡ None) size (front_right (groups_of len) (groups_of count) block count bytes (omega arith) (omega arith) none)
    | inr all ↦
        let same : count ≡ len = omega arith in
        subst (λ n. groups_fault (groups_of n) block n bytes ≡ None) same none
  ]

  pub front_groups_codes : AreBytes bytes → groups_codes (groups_of len) len bytes ≡ take len (groups_codes (groups_of count) count bytes)
  front_groups_codes small = elim (cases_lt len count) [
    | inl lt ↦
        let whole = ends lt in
        let size : 32 * groups_of len ≡ len = omega arith in
        subst (λ n. groups_codes (groups_of len) n bytes ≡ take n (groups_codes (groups_of count) count bytes)) size
        (front_codes (groups_of len) (groups_of count) count bytes (omega arith) (omega arith))
    | inr all ↦
        let same : count ≡ len = omega arith in
        let long = (groups_read block count bytes small none).0 in
        subst (λ n. groups_codes (groups_of n) n bytes ≡ take n (groups_codes (groups_of count) count bytes)) same
        (sym (take_all count (groups_codes (groups_of count) count bytes) (omega arith)))
  ]

-- ---- their values

-- a value among the first
pub value_of_front : (n index : ℕ) (new all : List ℕ) → new ≡ take n all → index < length new → get_or new index 0 ≡ get_or all index 0
value_of_front n index new all e lt =
    ap (λ xs. get_or xs index 0) e ∙ get_or-take n all index 0 (omega (arith, ap length e, length-take n all))

take-values : (kind : ColumnKind) (n base : ℕ) (codes : List ℕ) → values_of kind base (take n codes) ≡ take n (values_of kind base codes)
take-values Plain n base codes = sym (take-map (λ code. (base + code) % 2 ^ 32) n codes)
take-values Sorted n base codes = take-sums n base codes

module _ (kind : ColumnKind) (base zeros len : ℕ) (front : zeros ≤ len) (codes all : List ℕ) (are : codes ≡ take (len - zeros) all) where
  pub front_values : values_of kind base (replicate zeros 0 ++ codes) ≡ take len (values_of kind base (replicate zeros 0 ++ all))
  front_values =
      let none : List ℕ = replicate zeros 0 in
      let long : length none ≡ zeros = length-replicate {A = ℕ} zeros 0 in
      let size : zeros + (len - zeros) ≡ len = omega arith in
      let joined : none ++ codes ≡ take len (none ++ all) =
      ap (λ xs. none ++ xs) are
      ∙ sym (take-add zeros (len - zeros) (none ++ all) ∙ ap (λ xs. xs ++ take (len - zeros) (drop zeros (none ++ all))) (take_at none all zeros long)
      ∙ ap (λ xs. none ++ take (len - zeros) xs) (drop_at none all zeros long))
      ∙ ap (λ n. take n (none ++ all)) size in
      ap (values_of kind base) joined ∙ take-values kind len base (none ++ all)
