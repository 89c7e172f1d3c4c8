-- Blocks whose steps are at most 2 ^ 32 together wrap at most once, so that the last value shows that they are in order.
-- Serves blocks.
use Rattle.std.proofs.Common.{◌≡◌, ℕ, zero, suc, ◌+◌, ◌-◌, ◌*◌, ◌%◌, ◌^◌, ◌<◌, ◌≤◌, Bool, cond, List, [], ◌∷◌, length, get_or, sum, add-one, true, false, Option, Some, None, IfSome, refl, sym, ◌∙◌, ap, arith}
use Rattle.std.specs.List.{sum_by}
use Rattle.std.proofs.lemmas.Bool.{lt-leb, le-ltb}
use Rattle.std.proofs.lemmas.List.Elements.{All-from_get_or}
use Rattle.std.proofs.lemmas.List.Sums.{sum_by-cons, sum_by-le}
use Rattle.bitpacking.specs.declared.kind.Kind.{Kind}
use Rattle.bitpacking.specs.declared.kind.Kind.TheVariants.{Plain, Sorted, StrictlySorted}
use Rattle.bitpacking.specs.Codes.{start, values_of}
use Rattle.bitpacking.specs.Width.{Fits}
use Rattle.bitpack_lists.specs.Chains.{next_kind}
use Rattle.bitpack_lists.specs.declared.list_kind.ListKind.{ListKind}
use Rattle.bitpack_lists.specs.declared.list_kind.ListKind.TheVariants as lists
use Rattle.bitpack_lists.specs.Version2.{is_out, least_below}
use Rattle.bitpack_lists.specs.inner.CodeSteps.{sums}
use Rattle.bitpack_lists.specs.inner.Opening.{GoesOn, IsOrdered, IsRising, NeverFalls}
use Rattle.bitpack_lists.proofs.lemmas.blocks.SearchLemmas.{each_in_order, is_out-from_fall, ordered_each}
use Rattle.bitpack_lists.proofs.lemmas.blocks.CodeLemmas.{sums-sorted, sums-strict}

-- the steps from value to value, together
abbrev pub steps : ℕ → List ℕ → ℕ
steps more codes = sum_by (λ code. code + more) codes

steps-more : (codes : List ℕ) → steps 1 codes ≡ steps 0 codes + length codes
steps-more [] = refl
steps-more (code ∷ codes) =
    let rest = steps-more codes in
    omega (arith, rest, sum_by-cons (λ (c : ℕ). c + 1) code codes, sum_by-cons (λ (c : ℕ). c + 0) code codes)

steps-none : (codes : List ℕ) → steps 0 codes ≡ sum codes
steps-none [] = refl
steps-none (code ∷ codes) =
    let rest = steps-none codes in
    omega (arith, rest, sum_by-cons (λ (c : ℕ). c) code codes, sum_by-cons (λ (c : ℕ). c + 0) code codes)

-- The last value is the one before the block and all steps.
pub last_sum : (before more code : ℕ) (codes : List ℕ)
    → get_or (sums before more (code ∷ codes)) (length codes) 0 ≡ (before + steps more (code ∷ codes)) % 2 ^ 32
last_sum before more code [] =
    let one = sum_by-cons (λ (c : ℕ). c + more) code [] in
    ap (λ n. n % 2 ^ 32) (omega (arith, one))
last_sum before more code (next ∷ codes) =
    let here = sum_by-cons (λ (c : ℕ). c + more) code (next ∷ codes) in
    last_sum ((before + code + more) % 2 ^ 32) more next codes ∙ omega (arith, here)

-- And so the one before the block and the sum of the codes, with one more for each code of a strict block.
module _ (codes : List ℕ) (total : ℕ) (some : 1 ≤ length codes) (is : total ≡ sum codes % 2 ^ 32) where
  pub last_sorted : (initial : ℕ) → (initial + total) % 2 ^ 32 ≡ get_or (values_of (Sorted initial) codes) (length codes - 1) 0
  last_sorted initial = ends codes some is
    where
      ends : (codes : List ℕ) → 1 ≤ length codes → total ≡ sum codes % 2 ^ 32
          → (initial + total) % 2 ^ 32 ≡ get_or (values_of (Sorted initial) codes) (length codes - 1) 0
      ends [] some is = absurd (omega arith)
      ends (code ∷ codes) some is =
          let all : List ℕ = code ∷ codes in
          let end : length codes ≡ length all - 1 = omega arith in
          let whole : (initial + total) % 2 ^ 32 ≡ (initial + steps 0 all) % 2 ^ 32 = omega (arith, is, steps-none all) in
          whole ∙ sym (last_sum initial 0 code codes) ∙ ap (λ xs. get_or xs (length codes) 0) (sums-sorted initial initial all refl)
          ∙ ap (λ k. get_or (values_of (Sorted initial) all) k 0) end

  pub last_strict : (initial : Option ℕ) (before : ℕ) → before ≡ start (StrictlySorted initial)
      → ((before + total) % 2 ^ 32 + length codes) % 2 ^ 32 ≡ get_or (values_of (StrictlySorted initial) codes) (length codes - 1) 0
  last_strict initial before before_is = ends codes some is
    where
      ends : (codes : List ℕ) → 1 ≤ length codes → total ≡ sum codes % 2 ^ 32
          → ((before + total) % 2 ^ 32 + length codes) % 2 ^ 32 ≡ get_or (values_of (StrictlySorted initial) codes) (length codes - 1) 0
      ends [] some is = absurd (omega arith)
      ends (code ∷ codes) some is =
          let all : List ℕ = code ∷ codes in
          let end : length codes ≡ length all - 1 = omega arith in
          let whole : ((before + total) % 2 ^ 32 + length all) % 2 ^ 32 ≡ (before + steps 1 all) % 2 ^ 32 =
          omega (arith, is, steps-none all, steps-more all) in
          whole ∙ sym (last_sum before 1 code codes) ∙ ap (λ xs. get_or xs (length codes) 0) (sums-strict before (start (StrictlySorted initial)) all (ap (λ n. n % 2 ^ 32) before_is))
          ∙ ap (λ k. get_or (values_of (StrictlySorted initial) all) k 0) end

-- If that is below 2 ^ 32, each value is a step above the one before it.
rises : (before more : ℕ) (codes : List ℕ) → before + steps more codes < 2 ^ 32 → (k : ℕ) → suc k < length (before ∷ sums before more codes)
    → get_or (before ∷ sums before more codes) k 0 + more ≤ get_or (before ∷ sums before more codes) (suc k) 0
rises before more [] below k lt = absurd (omega arith)
rises before more (code ∷ codes) below zero lt =
    let here = sum_by-cons (λ (c : ℕ). c + more) code codes in
    let next : (before + code + more) % 2 ^ 32 ≡ before + code + more = omega (arith, here, below) in
    omega (arith, next)
rises before more (code ∷ codes) below (suc k) lt =
    let here = sum_by-cons (λ (c : ℕ). c + more) code codes in
    let next : (before + code + more) % 2 ^ 32 ≡ before + code + more = omega (arith, here, below) in
    rises ((before + code + more) % 2 ^ 32) more codes (omega (arith, here, next, below)) k (omega arith)

NeverFalls-same : (strict : Bool) (values others : List ℕ) → values ≡ others → NeverFalls strict values → NeverFalls strict others
NeverFalls-same strict values others same never = rw same at never

sorted-rises : (before : ℕ) (codes values : List ℕ) → before + steps 0 codes < 2 ^ 32 → sums before 0 codes ≡ values → NeverFalls false (before ∷ values)
sorted-rises before codes values below same = NeverFalls-same false _ _ (ap (λ xs. before ∷ xs) same)
    (λ k lt. le-ltb _ _ (rw add-one (omega (arith, rises before 0 codes below k (omega (arith, lt))))))

strict-rises : (before : ℕ) (codes values : List ℕ) → before + steps 1 codes < 2 ^ 32 → sums before 1 codes ≡ values → NeverFalls true (before ∷ values)
strict-rises before codes values below same = NeverFalls-same true _ _ (ap (λ xs. before ∷ xs) same)
    (λ k lt. lt-leb _ _ (rw add-one (omega (arith, rises before 1 codes below k (omega (arith, lt))))))

module _ (width len : ℕ) (narrow : len * 2 ^ width ≤ 2 ^ 32) (some : 1 ≤ len) where
  together : (codes : List ℕ) → length codes ≡ len → Fits codes width → steps 1 codes ≤ 2 ^ 32
  together codes long fits =
      let each = All-from_get_or (λ code. code + 1 ≤ 2 ^ width) codes 0 (λ k lt. let h = fits k 0 lt in omega (arith, h)) in
      omega (arith, narrow, rw long at (sum_by-le (λ (c : ℕ). c + 1) (2 ^ width) codes each))

  pub rising_sorted : (initial last : ℕ) → initial ≤ last → (codes : List ℕ) → length codes ≡ len → Fits codes width → initial < 2 ^ 32
      → get_or (values_of (Sorted initial) codes) (len - 1) 0 ≡ last → IsRising (Sorted initial) (values_of (Sorted initial) codes)
  rising_sorted initial last above [] long fits small ends = absurd (omega arith)
  rising_sorted initial last above (code ∷ codes) long fits small ends =
      let all : List ℕ = code ∷ codes in
      let same = sums-sorted initial initial all refl in
      let end : len - 1 ≡ length codes = omega (arith, long) in
      let is_last : (initial + steps 0 all) % 2 ^ 32 ≡ last =
      sym (last_sum initial 0 code codes) ∙ ap (λ xs. get_or xs (length codes) 0) same ∙ rw end at ends in
      let few = together all long fits in
      sorted-rises initial all _ (omega (arith, is_last, few, steps-more all, long, some, above, small)) same

  pub rising_strict : (initial : Option ℕ) (last : ℕ) → IfSome initial (λ before. before < last) → (codes : List ℕ) → length codes ≡ len → Fits codes width
      → start (StrictlySorted initial) < 2 ^ 32 → get_or (values_of (StrictlySorted initial) codes) (len - 1) 0 ≡ last
      → IsRising (StrictlySorted initial) (values_of (StrictlySorted initial) codes)
  rising_strict initial last above [] long fits small ends = absurd (omega arith)
  -- No value is before the first block.
  rising_strict None last above (code ∷ codes) long fits small ends =
      let few = together (code ∷ codes) long fits in
      let here = sum_by-cons (λ (c : ℕ). c + 1) code codes in
      let first : (4294967295 + code + 1) % 2 ^ 32 ≡ code = omega (arith, few, here) in
      let front : code ∷ sums code 1 codes ≡ sums 4294967295 1 (code ∷ codes) = rw first refl in
      NeverFalls-same true _ _ (front ∙ sums-strict 4294967295 4294967295 (code ∷ codes) refl)
      (strict-rises code codes (sums code 1 codes) (omega (arith, few, here)) refl)
  rising_strict (Some initial) last above (code ∷ codes) long fits small ends =
      let all : List ℕ = code ∷ codes in
      let same = sums-strict initial initial all refl in
      let end : len - 1 ≡ length codes = omega (arith, long) in
      let is_last : (initial + steps 1 all) % 2 ^ 32 ≡ last =
      sym (last_sum initial 1 code codes) ∙ ap (λ xs. get_or xs (length codes) 0) same ∙ rw end at ends in
      let few = together all long fits in
      strict-rises initial all _ (omega (arith, is_last, few, above, small)) same

-- ---- the positions of a block in order

tail_never : (strict : Bool) (value : ℕ) (values : List ℕ) → NeverFalls strict (value ∷ values) → NeverFalls strict values
tail_never strict value values never k lt =
    let next : suc k + 1 ≡ suc (k + 1) = omega arith in
    rw next at (never (suc k) (omega (arith, lt)))

-- Values in order after those before them, the first after the last of these if there are any.
follows : (strict : Bool) (list : ListKind) (all : ℕ → ℕ) (position before : ℕ) (values : List ℕ) → list ≡ cond strict lists.StrictlySorted lists.Sorted
    → (0 < position → NeverFalls strict (before ∷ values)) → NeverFalls strict values → IsOrdered list all position before
    → ((k : ℕ) → k < length values → all (position + k) ≡ get_or values k 0) → least_below (is_out list all) (position + length values) ≡ None
follows strict list all position before [] is after inside ordered are =
    let end : position + 0 ≡ position = omega arith in
    rw end ordered.so_far
follows strict list all position before (value ∷ values) is after inside ordered are =
    ordered_each list all position (length (value ∷ values)) ordered.so_far
    (each_in_order strict list all position (value ∷ values) is are (first position after ordered (are 0 (omega arith))) inside)
  where
    first : (position : ℕ) → (0 < position → NeverFalls strict (before ∷ value ∷ values)) → IsOrdered list all position before
        → all (position + 0) ≡ value → is_out list all position ≡ false
    first zero after ordered here = rw is (none strict)
      where
        none : (strict : Bool) → is_out (cond strict lists.StrictlySorted lists.Sorted) all 0 ≡ false
        none true = refl
        none false = refl
    first (suc k) after ordered here =
        let next : k + 1 ≡ suc k = add-one k in
        let one : suc k - 1 ≡ k = omega arith in
        let last : all k ≡ before = ap all (sym one) ∙ ordered.last (omega arith) in
        let is_next : all (k + 1) ≡ value = ap all (omega arith) ∙ here in
        rw (← next, is) (is_out-from_fall strict all k before value last is_next (after (omega arith) 0 (omega arith)))

pub ordered_block : (list : ListKind) (kind : Kind) (all : ℕ → ℕ) (position before : ℕ) (values : List ℕ)
    → GoesOn list position before kind → IsRising kind values
    → IsOrdered list all position before → ((k : ℕ) → k < length values → all (position + k) ≡ get_or values k 0)
    → least_below (is_out list all) (position + length values) ≡ None
ordered_block lists.Plain kind all position before values goes_on rising ordered are =
    ordered_each lists.Plain all position (length values) ordered.so_far (λ k lt. refl)
ordered_block lists.Sorted kind all zero before values goes_on rising ordered are =
    follows false lists.Sorted all 0 before values refl (λ some. absurd (omega arith)) (tail_never false 0 values (rw (goes_on.first refl) at rising)) ordered are
ordered_block lists.Sorted kind all (suc k) before values goes_on rising ordered are =
    let never = rw (goes_on.next (omega arith)) at rising in
    follows false lists.Sorted all (suc k) before values refl (λ some. never) (tail_never false before values never) ordered are
ordered_block lists.StrictlySorted kind all zero before values goes_on rising ordered are =
    follows true lists.StrictlySorted all 0 before values refl (λ some. absurd (omega arith)) (rw (goes_on.first refl) at rising) ordered are
ordered_block lists.StrictlySorted kind all (suc k) before values goes_on rising ordered are =
    let never = rw (goes_on.next (omega arith)) at rising in
    follows true lists.StrictlySorted all (suc k) before values refl (λ some. never) (tail_never true before values never) ordered are

-- ---- codes in two parts

-- What follows starts with a word.
pub start-next : (kind : Kind) (last : ℕ) → last < 2 ^ 32 → start (next_kind kind last) < 2 ^ 32
start-next Plain last small = omega arith
start-next (Sorted initial) last small = small
start-next (StrictlySorted initial) last small = small
