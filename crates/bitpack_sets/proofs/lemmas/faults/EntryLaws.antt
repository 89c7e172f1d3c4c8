-- What it says of the directory and the bodies of a set in chunks that they have no fault.
use Rattle.std.proofs.Common.{◌≡◌, ℕ, zero, suc, ◌+◌, ◌-◌, ◌*◌, ◌<◌, ◌≤◌, Bool, true, false, ◌&&◌, ◌||◌, not, ltb, leb, eqb, List, take, drop, length, Option, Some, None, add-one, refl, sym, ap, ◌∙◌, arith, inl, inr, subst, eqb-true, eq-eqb, length-drop}
use Rattle.std.specs.Option.{option_or}
use Rattle.std.proofs.lemmas.Bool.{cases_lt, le-leb, le-ltb, leb-true, lt-leb, lt-ltb, ne_eqb, true≢false}
use Rattle.std.proofs.lemmas.List.{length-take-le}
use Rattle.bitpack_sets.proofs.lemmas.faults.BodyFaults.{body_read}
use Rattle.bitpack_slices.proofs.ForCallers.{EachByte, both_true, bytes_dropped, bytes_taken, if_none', is_below, neither, true_both}
use Rattle.bitpack_sets.proofs.lemmas.faults.FaultLaws.{if_none, none_or, not_below, or_none, some_not}
use Rattle.bitpack_sets.proofs.lemmas.encodings.ShortLaws.{Grows, before_next, steps_total}
use Rattle.bitpack_sets.specs.Directory.{before, bodies_end, bodies_start, body_at, count_at, end_at, end_size, key_at, size_at, sum_at, sum_size}
use Rattle.bitpack_slices.specs.Faults.{body_fault}
use Rattle.bitpack_sets.specs.Faults.{body_fault_at, chunks_fault, entry_fault, first_of, loose_sizes_fault, sizes_fault}
use Rattle.bitpack_sets.specs.Sound.{HasDirectory, IsEntry, IsRest}
use Rattle.bitpack_sets.specs.Varints.{byte_count}
use Rattle.bitpack_slices.specs.declared.set_error.SetError.{SetError}
use Rattle.bitpack_groups.proofs.ForCallers.{passed}

pub second_not : (a b : Bool) → (a && b) ≡ false → a ≡ true → b ≡ false
second_not true b e f = e
second_not false b e f = absurd (true≢false (sym f))

pub not_not : (a : Bool) → not a ≡ false → a ≡ true
not_not true e = refl
not_not false e = absurd (true≢false e)

pub not_most : (x y : ℕ) → leb x y ≡ false → y < x
not_most x y e = elim (cases_lt y x) [ inl less ↦ less | inr more ↦ absurd (true≢false (sym (le-leb x y more) ∙ e)) ]

pub not_zero : (x : ℕ) → eqb x 0 ≡ false → 0 < x
not_zero x e = elim (cases_lt 0 x) [ inl less ↦ less | inr more ↦ absurd (true≢false (sym (eq-eqb x 0 (omega arith)) ∙ e)) ]

-- ---- the first of some faults

pub first_none : (fault : ℕ → Option SetError) (count : ℕ) → first_of fault count ≡ None → (m : ℕ) → m < count → fault m ≡ None
unfolding first_of
first_none fault zero e m h = absurd (omega arith)
first_none fault (suc count) e m h =
    let (earlier, here) = or_none (first_of fault count) (fault count) e in
    elim (cases_lt m count) [ inl less ↦ first_none fault count earlier m less | inr more ↦ (let same : m ≡ count = omega arith in ap fault same ∙ here) ]

pub none_first : (fault : ℕ → Option SetError) (count : ℕ) → ((m : ℕ) → m < count → fault m ≡ None) → first_of fault count ≡ None
unfolding first_of
none_first fault zero h = refl
none_first fault (suc count) h = none_or (first_of fault count) (fault count) (none_first fault count (λ m lt. h m (omega arith))) (h count (omega arith))

-- as a loop finds it
pub first_start : (fault : ℕ → Option SetError) → first_of fault 0 ≡ None
unfolding first_of
first_start fault = refl

pub first_more : (fault : ℕ → Option SetError) (m : ℕ) → first_of fault m ≡ None → fault m ≡ None → first_of fault (m + 1) ≡ None
unfolding first_of
first_more fault m e f = ap (first_of fault) (add-one m) ∙ none_or (first_of fault m) (fault m) e f

some_or : (a b : Option SetError) (e : SetError) → a ≡ Some e → option_or a b ≡ Some e
some_or a b e h = ap (λ (o : Option SetError). option_or o b) h

pub first_found : (fault : ℕ → Option SetError) (count m : ℕ) (e : SetError) → m < count → first_of fault m ≡ None → fault m ≡ Some e → first_of fault count ≡ Some e
unfolding first_of
first_found fault zero m e h before here = absurd (omega arith)
first_found fault (suc count) m e h before here = elim (cases_lt m count) [
  | inl less ↦ some_or (first_of fault count) (fault count) e (first_found fault count m e less before here)
  | inr more ↦
      let same : m ≡ count = omega arith in
      let none : first_of fault count ≡ None = subst (λ (n : ℕ). first_of fault n ≡ None) same before in
      let found : fault count ≡ Some e = subst (λ (n : ℕ). fault n ≡ Some e) same here in
      ap (λ (o : Option SetError). option_or o (fault count)) none ∙ found
]

-- ---- entries

pub entry_none : (ids chunks : ℕ) (rest : List ℕ) (m : ℕ) → entry_fault ids chunks rest m ≡ None → IsEntry ids chunks rest m
unfolding entry_fault
entry_none ids chunks rest m e =
    let (keys, e1) = passed _ _ _ e in
    let (sums, e2) = passed _ _ _ e1 in
    let (ends, e3) = passed _ _ _ e2 in
    let (sums1, last) = neither _ _ sums in
    let (none, many) = neither _ _ sums1 in
    let (empty, long) = neither _ _ ends in
    record {
      key = λ h. not_most (key_at rest m) (before (key_at rest) m) (second_not _ _ keys (lt-ltb 0 m h));
      some = not_zero (count_at chunks rest m) none;
      few = not_below 65536 (count_at chunks rest m) many;
      last = λ h. eqb-true (sum_at chunks rest m) ids (not_not _ (second_not _ _ last (eq-eqb (m + 1) chunks h)));
      sized = not_zero (size_at chunks rest m) empty;
      short = not_below (2 * count_at chunks rest m) (size_at chunks rest m) long;
    }

pub all_false : (a b : Bool) → a ≡ false → b ≡ false → (a || b) ≡ false
all_false a b e f = ap (λ (x : Bool). x || b) e ∙ f

pub not_and : (a b : Bool) → (a ≡ true → b ≡ false) → (a && b) ≡ false
not_and true b h = h refl
not_and false b h = refl

pub not_eq : (x : ℕ) → 0 < x → eqb x 0 ≡ false
not_eq x h = ne_eqb x 0 (λ e. absurd (omega arith))

pub none_entry : (ids chunks : ℕ) (rest : List ℕ) (m : ℕ) → IsEntry ids chunks rest m → entry_fault ids chunks rest m ≡ None
unfolding entry_fault
none_entry ids chunks rest m is =
    some_not _ _ _ (not_and (ltb 0 m) (leb (key_at rest m) (before (key_at rest) m)) (λ e. lt-leb (key_at rest m) (before (key_at rest) m) (is.key (is_below 0 m e))))
    (some_not _ _ _ (all_false _ _ (all_false _ _ (not_eq (count_at chunks rest m) is.some) (le-ltb 65536 (count_at chunks rest m) is.few))
    (not_and (eqb (m + 1) chunks) (not (eqb (sum_at chunks rest m) ids)) (λ e. ap not (eq-eqb (sum_at chunks rest m) ids (is.last (eqb-true (m + 1) chunks e))))))
    (some_not _ _ _ (all_false _ _ (not_eq (size_at chunks rest m) is.sized) (le-ltb (2 * count_at chunks rest m) (size_at chunks rest m) is.short)) refl))

-- ---- sizes

pub sizes_none : (rest : List ℕ) → sizes_fault rest ≡ None → (1 ≤ length rest) × (1 ≤ end_size rest) × (end_size rest ≤ 4) × (1 ≤ sum_size rest) × (sum_size rest ≤ 4)
unfolding sizes_fault
sizes_none rest e =
    let (some, e1) = passed _ _ _ e in
    let (e2, sum_few) = both_true _ _ (if_none _ _ e1) in
    let (e3, sum_some) = both_true _ _ e2 in
    let (end_some, end_few) = both_true _ _ e3 in
    (not_below (length rest) 1 some, is_below 0 (end_size rest) end_some, leb-true (end_size rest) 4 end_few, is_below 0 (sum_size rest) sum_some, leb-true (sum_size rest) 4 sum_few)

pub has_directory : (chunks : ℕ) (rest : List ℕ) → sizes_fault rest ≡ None → bodies_start chunks rest ≤ length rest → HasDirectory chunks rest
has_directory chunks rest e room =
    let (one, end_some, end_few, sum_some, sum_few) = sizes_none rest e in
    record { end_some = end_some; end_few = end_few; sum_some = sum_some; sum_few = sum_few; room = room }

pub none_sizes : (rest : List ℕ) → 1 ≤ length rest → 1 ≤ end_size rest → end_size rest ≤ 4 → 1 ≤ sum_size rest → sum_size rest ≤ 4 → sizes_fault rest ≡ None
unfolding sizes_fault
none_sizes rest some a b c d =
    some_not _ _ _ (le-ltb (length rest) 1 some)
    (if_none' _ _ (true_both _ _ (true_both _ _ (true_both _ _ (lt-ltb 0 (end_size rest) a) (le-leb (end_size rest) 4 b)) (lt-ltb 0 (sum_size rest) c)) (le-leb (sum_size rest) 4 d)))

pub loose_none : (ids chunks : ℕ) (rest : List ℕ) → loose_sizes_fault ids chunks rest ≡ None
    → (end_size rest ≡ byte_count (before (end_at chunks rest) chunks)) × (sum_size rest ≡ byte_count ids)
unfolding loose_sizes_fault
loose_none ids chunks rest e = let (a, b) = both_true _ _ (if_none _ _ e) in (eqb-true (end_size rest) (byte_count (before (end_at chunks rest) chunks)) a, eqb-true (sum_size rest) (byte_count ids) b)

pub none_loose : (ids chunks : ℕ) (rest : List ℕ) → end_size rest ≡ byte_count (before (end_at chunks rest) chunks) → sum_size rest ≡ byte_count ids
    → loose_sizes_fault ids chunks rest ≡ None
unfolding loose_sizes_fault
none_loose ids chunks rest a b = if_none' _ _ (true_both _ _ (eq-eqb (end_size rest) (byte_count (before (end_at chunks rest) chunks)) a) (eq-eqb (sum_size rest) (byte_count ids) b))

-- ---- ends and sums grow

pub ends_grow : (ids chunks : ℕ) (rest : List ℕ) → ((m : ℕ) → m < chunks → IsEntry ids chunks rest m) → Grows (end_at chunks rest) 0 chunks
ends_grow ids chunks rest entries i low high = let sized = (entries i (omega arith)).sized in omega arith

pub sums_grow : (ids chunks : ℕ) (rest : List ℕ) → ((m : ℕ) → m < chunks → IsEntry ids chunks rest m) → Grows (sum_at chunks rest) 0 chunks
sums_grow ids chunks rest entries i low high = let some = (entries i (omega arith)).some in omega arith

-- a number is no greater than the last
pub grown_to : (f : ℕ → ℕ) (m k : ℕ) → Grows f 0 k → m < k → f m ≤ before f k
grown_to f m k h lt =
    let left : ℕ = k - (m + 1) in
    let later : Grows f (m + 1) left = λ i low high. h i (omega arith) (omega arith) in
    let all = steps_total f (m + 1) left later in
    let next = before_next f m in
    let e : m + 1 + left ≡ k = omega arith in
    omega (arith, ap (before f) e)

pub body_len : (ids chunks : ℕ) (rest : List ℕ) (m : ℕ) → ((i : ℕ) → i < chunks → IsEntry ids chunks rest i) → bodies_end chunks rest ≤ length rest → m < chunks
    → length (body_at chunks rest m) ≡ size_at chunks rest m
body_len ids chunks rest m entries room lt =
    let sized = (entries m lt).sized in
    let top = grown_to (end_at chunks rest) m chunks (ends_grow ids chunks rest entries) lt in
    let from : ℕ = bodies_start chunks rest + before (end_at chunks rest) m in
    length-take-le (size_at chunks rest m) (drop from rest) (omega (arith, length-drop from rest))

at_body : (chunks : ℕ) (rest : List ℕ) (m : ℕ) → body_fault_at chunks rest m ≡ body_fault m (before (sum_at chunks rest) m) (count_at chunks rest m) (body_at chunks rest m)
unfolding body_fault_at
at_body chunks rest m = refl

-- the rest has no fault
pub rest_none : (ids chunks : ℕ) (rest : List ℕ) → EachByte rest → 0 < chunks → chunks_fault ids chunks rest ≡ None → IsRest ids chunks rest
unfolding chunks_fault
rest_none ids chunks rest are some e =
    let (sizes, e1) = or_none _ _ e in
    let (short, e2) = or_none _ _ e1 in
    let (first, e3) = or_none _ _ e2 in
    let (loose, e4) = or_none _ _ e3 in
    let (cut, e5) = or_none _ _ e4 in
    let (bad, after) = or_none _ _ e5 in
    let (one, end_some, end_few, sum_some, sum_few) = sizes_none rest sizes in
    let (end_least, sum_least) = loose_none ids chunks rest loose in
    let room = not_below (length rest) (bodies_start chunks rest) (passed _ _ _ short).0 in
    let entries : (m : ℕ) → m < chunks → IsEntry ids chunks rest m = λ m lt. entry_none ids chunks rest m (first_none (entry_fault ids chunks rest) chunks first m lt) in
    let fits = not_below (length rest) (bodies_end chunks rest) (passed _ _ _ cut).0 in
    let all = not_below (bodies_end chunks rest) (length rest) (passed _ _ _ after).0 in
    record {
      some = some;
      directory = record { end_some = end_some; end_few = end_few; sum_some = sum_some; sum_few = sum_few; room = room };
      entries = entries;
      end_least = end_least;
      sum_least = sum_least;
      bodies = λ m lt.
          let long = body_len ids chunks rest m entries fits lt in
          let small = (entries m lt).short in
          let from : ℕ = bodies_start chunks rest + before (end_at chunks rest) m in
          body_read m (before (sum_at chunks rest) m) (count_at chunks rest m) (body_at chunks rest m)
          (bytes_taken (size_at chunks rest m) (drop from rest) (bytes_dropped from rest are)) (omega arith)
          (sym (at_body chunks rest m) ∙ first_none (body_fault_at chunks rest) chunks bad m lt);
      end = omega arith;
    }

-- the body of a chunk as a loop takes it
pub body_there : (chunks m position own start begin end : ℕ) (rest : List ℕ) → position ≡ before (sum_at chunks rest) m → own ≡ sum_at chunks rest m - position
    → start ≡ bodies_start chunks rest → begin ≡ before (end_at chunks rest) m → end ≡ end_at chunks rest m
    → body_fault_at chunks rest m ≡ body_fault m position own (take (start + end - (start + begin)) (drop (start + begin) rest))
unfolding body_fault_at
body_there chunks m position own start begin end rest p o s b e =
    let size : start + end - (start + begin) ≡ size_at chunks rest m = omega arith in
    let from : start + begin ≡ bodies_start chunks rest + before (end_at chunks rest) m = omega arith in
    let count : own ≡ count_at chunks rest m = omega arith in
    ap (λ (n : ℕ). body_fault m n (count_at chunks rest m) (body_at chunks rest m)) (sym p)
    ∙ ap (λ (n : ℕ). body_fault m position n (body_at chunks rest m)) (sym count)
    ∙ ap (λ (n : ℕ). body_fault m position own (take (size_at chunks rest m) (drop n rest))) (sym from)
    ∙ ap (λ (n : ℕ). body_fault m position own (take n (drop (start + begin) rest))) (sym size)
