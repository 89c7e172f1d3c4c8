-- Searches: halves of a span, values in order, and the first that reaches a target.
-- Serves blocks, opened.
use Rattle.std.proofs.Common.{◌≡◌, ◌≢◌, ℕ, zero, suc, ◌+◌, ◌-◌, ◌*◌, ◌/◌, ◌^◌, ◌<◌, ◌≤◌, Bool, true, false, cond, leb, List, length, get_or, Option, Some, None, refl, ◌∙◌, ap, arith, inl, inr}
use Rattle.std.specs.Option.{option_or, option_map}
use Rattle.std.proofs.lemmas.Bool.{cases_lt, le-leb, leb-false, lt-leb, lt-ltb, ltb-false}
use Rattle.bitpack_lists.specs.declared.list_kind.ListKind.{ListKind}
use Rattle.bitpack_lists.specs.declared.list_kind.ListKind.TheVariants as lists
use Rattle.bitpack_lists.specs.inner.Opening.{NeverFalls, is_fall}
use Rattle.bitpack_lists.specs.Search.{first_reaching}
use Rattle.bitpack_lists.specs.Version2.{is_out, least_below}
use Rattle.bitpack_lists.proofs.lemmas.blocks.Orders.{least_below-found, least_below-further, least_below-same}

-- ---- halves

-- A span that is not empty has a digit less once it is halved, whichever half is left.
pub halved : (low high left : ℕ) → low < high → high - low < 2 ^ left
    → (less : ℕ) × (left ≡ suc less) × (low + (high - low) / 2 - low < 2 ^ less) × (high - (low + (high - low) / 2 + 1) < 2 ^ less)
halved low high zero lt fits = absurd (omega arith)
halved low high (suc less) lt fits = (less, refl, omega arith, omega arith)

-- ---- the least number below a bound

pub least_below-none : (test : ℕ → Bool) (bound : ℕ) → least_below test bound ≡ None → (k : ℕ) → k < bound → test k ≡ false
unfolding least_below
least_below-none test zero none k lt = absurd (omega arith)
least_below-none test (suc bound) none k lt =
    let both = apart (least_below test bound) (cond (test bound) (Some bound) None) none in
    elim (cases_lt k bound) [
      | inl below ↦ least_below-none test bound both.0 k below
      | inr end ↦
          let same : k ≡ bound = omega arith in
          rw same (fails (test bound) both.1)
    ]
  where
    apart : (one other : Option ℕ) → option_or one other ≡ None → (one ≡ None) × (other ≡ None)
    apart None other e = (refl, e)
    apart (Some x) other e = absurd cc

    fails : (passes : Bool) → cond passes (Some bound) None ≡ None → passes ≡ false
    fails true e = absurd cc
    fails false e = refl

least_below-lt : (test : ℕ → Bool) (bound found : ℕ) → least_below test bound ≡ Some found → found < bound
unfolding least_below
least_below-lt test zero found e = absurd cc
least_below-lt test (suc bound) found e = either (least_below test bound) (least_below-lt test bound) (test bound) e
  where
    either : (before : Option ℕ) → ((x : ℕ) → before ≡ Some x → x < bound) → (passes : Bool)
        → option_or before (cond passes (Some bound) None) ≡ Some found → found < suc bound
    either None less true f =
        let same : bound ≡ found = cc in
        omega arith
    either None less false f = absurd cc
    either (Some before) less passes f =
        let lt = less found f in
        omega arith

pub least_below-all : (test : ℕ → Bool) (bound : ℕ) → ((k : ℕ) → k < bound → test k ≡ false) → least_below test bound ≡ None
unfolding least_below
least_below-all test zero fail = refl
least_below-all test (suc bound) fail = rw (least_below-all test bound (λ k lt. fail k (omega arith)), fail bound (omega arith)) refl

-- ---- values in order

-- Of values in order none is below one before it.
next_not_below : (kind : ListKind) (value : ℕ → ℕ) (k : ℕ) → kind ≢ lists.Plain → is_out kind value (suc k) ≡ false → value k ≤ value (suc k)
next_not_below lists.Plain value k ordered e = absurd (ordered refl)
next_not_below lists.Sorted value k ordered e =
    let one : suc k - 1 ≡ k = omega arith in
    ltb-false (value (suc k)) (value k) (rw (lt-ltb 0 (suc k) (omega arith), one) at e)
next_not_below lists.StrictlySorted value k ordered e =
    let one : suc k - 1 ≡ k = omega arith in
    let lt : value k < value (suc k) = leb-false (value (suc k)) (value k) (rw (lt-ltb 0 (suc k) (omega arith), one) at e) in
    omega arith

pub in_order : (kind : ListKind) (value : ℕ → ℕ) (count : ℕ) → kind ≢ lists.Plain → least_below (is_out kind value) count ≡ None
    → (i j : ℕ) → i ≤ j → j < count → value i ≤ value j
in_order kind value count ordered none i zero le lt =
    let same : i ≡ 0 = omega arith in
    rw same (omega arith)
in_order kind value count ordered none i (suc j) le lt = elim (cases_lt i (suc j)) [
  | inl below ↦
      let more = in_order kind value count ordered none i j (omega arith) (omega arith) in
      let next = next_not_below kind value j ordered (least_below-none (is_out kind value) count none (suc j) lt) in
      omega arith
  | inr above ↦
      let same : i ≡ suc j = omega arith in
      rw same (omega arith)
]

-- Values of which each is in order are in order, after those before them.
pub ordered_each : (kind : ListKind) (value : ℕ → ℕ) (position count : ℕ) → least_below (is_out kind value) position ≡ None
    → ((k : ℕ) → k < count → is_out kind value (position + k) ≡ false) → least_below (is_out kind value) (position + count) ≡ None
ordered_each kind value position count none each = least_below-all (is_out kind value) (position + count) (λ j lt. elim (cases_lt j position) [
  | inl below ↦ least_below-none (is_out kind value) position none j below
  | inr from ↦
      let here : position + (j - position) ≡ j = omega arith in
      rw here at (each (j - position) (omega arith))
])

-- A value that does not fall after its neighbour is in order.
pub is_out-from_fall : (strict : Bool) (value : ℕ → ℕ) (position before next : ℕ) → value position ≡ before → value (position + 1) ≡ next
    → is_fall strict before next ≡ false → is_out (cond strict lists.StrictlySorted lists.Sorted) value (position + 1) ≡ false
is_out-from_fall false value position before next is is' e =
    let one : position + 1 - 1 ≡ position = omega arith in
    rw (lt-ltb 0 (position + 1) (omega arith), one, is, is') e
is_out-from_fall true value position before next is is' e =
    let one : position + 1 - 1 ≡ position = omega arith in
    rw (lt-ltb 0 (position + 1) (omega arith), one, is, is') e

-- If the first is in order and none falls after its neighbour, each is in order.
module _ (strict : Bool) (kind : ListKind) (all : ℕ → ℕ) (position : ℕ) (values : List ℕ) (is : kind ≡ cond strict lists.StrictlySorted lists.Sorted)
    (are : (k : ℕ) → k < length values → all (position + k) ≡ get_or values k 0) (first : is_out kind all position ≡ false)
    (falls : NeverFalls strict values) where
  pub each_in_order : (k : ℕ) → k < length values → is_out kind all (position + k) ≡ false
  each_in_order zero lt =
      let here : position + 0 ≡ position = omega arith in
      rw here first
  each_in_order (suc k) lt =
      let here : position + k + 1 ≡ position + suc k = omega arith in
      let next : all (position + k + 1) ≡ get_or values (k + 1) 0 = ap all here ∙ are (suc k) lt ∙ ap (λ i. get_or values i 0) (omega arith) in
      rw (← here, is) (is_out-from_fall strict all (position + k) _ _ (are k (omega arith)) next (falls k (omega arith)))

-- Where the last value of the block before is below the target, so are all before the block.
pub before_block : (n block target count : ℕ) (value : ℕ → ℕ) → ((i j : ℕ) → i ≤ j → j < count → value i ≤ value j) → 1 ≤ n → n * block ≤ count
    → ((before : ℕ) → suc before ≡ block → value (n * before + (n - 1)) < target) → (k : ℕ) → k < n * block → value k < target
before_block n zero target count value order some room ends k lt =
    let none : n * 0 ≡ 0 = omega arith in
    absurd (omega arith)
before_block n (suc before) target count value order some room ends k lt =
    let last = ends before refl in
    let total : n * suc before ≡ n * before + n = omega arith in
    let le = order k (n * before + (n - 1)) (omega arith) (omega arith) in
    omega arith

-- ---- the first value that reaches a target

-- whether the value at a position does
abbrev pub reaches : (ℕ → ℕ) → ℕ → ℕ → Bool
reaches value target position = leb target (value position)

module _ (value : ℕ → ℕ) (target : ℕ) where
  pub none_before : (bound : ℕ) → ((k : ℕ) → k < bound → value k < target) → least_below (reaches value target) bound ≡ None
  none_before bound below = least_below-all (reaches value target) bound (λ k lt. lt-leb target (value k) (below k lt))

  pub first_none : (bound : ℕ) → least_below (reaches value target) bound ≡ None → None ≡ first_reaching value bound target
  first_none bound none = rw none refl

  pub first_found : (position bound : ℕ) → position < bound → least_below (reaches value target) position ≡ None → target ≤ value position
      → Some (position, value position) ≡ first_reaching value bound target
  first_found position bound lt none enough =
      rw (least_below-found (reaches value target) position bound lt none (le-leb target (value position) enough)) refl

  -- Where one of the values reaches it, the first does not come after it.
  module _ (position bound : ℕ) (lt : position < bound) (enough : target ≤ value position) where
    reached : (found : ℕ) × (found < bound) × (least_below (reaches value target) bound ≡ Some found)
    reached = both (least_below (reaches value target) bound) refl
      where
        both : (found : Option ℕ) → least_below (reaches value target) bound ≡ found
            → (found : ℕ) × (found < bound) × (least_below (reaches value target) bound ≡ Some found)
        both None e =
            let below = leb-false target (value position) (least_below-none (reaches value target) bound e position lt) in
            absurd (omega arith)
        both (Some found) e = (found, least_below-lt (reaches value target) bound found e, e)

    pub first_within : (greater : ℕ) → bound ≤ greater
        → (found : ℕ) × (found < bound) × (first_reaching value greater target ≡ Some (found, value found))
    first_within greater le =
        let found = reached in
        (found.0, found.1, rw (least_below-further (reaches value target) bound greater found.0 le found.2) refl)

    -- More values have the same first.
    pub first_further : (greater : ℕ) → bound ≤ greater → first_reaching value bound target ≡ first_reaching value greater target
    first_further greater le =
        let found = reached in
        rw (found.2, least_below-further (reaches value target) bound greater found.0 le found.2) refl

-- Values that agree have the same first.
abbrev with_value : (ℕ → ℕ) → ℕ → ℕ × ℕ
with_value value position = (position, value position)

pub first_same : (value other : ℕ → ℕ) (count target : ℕ) → ((k : ℕ) → k < count → value k ≡ other k)
    → first_reaching value count target ≡ first_reaching other count target
first_same value other count target each =
    ap (option_map (with_value value)) tests ∙ either (least_below (reaches other target) count) (least_below-lt (reaches other target) count)
  where
    tests : least_below (reaches value target) count ≡ least_below (reaches other target) count
    tests = least_below-same (reaches value target) (reaches other target) count (λ k lt. ap (leb target) (each k lt))

    either : (found : Option ℕ) → ((x : ℕ) → found ≡ Some x → x < count) → option_map (with_value value) found ≡ option_map (with_value other) found
    either None less = refl
    either (Some found) less = ap (λ v. Some (found, v)) (each found (less found refl))
