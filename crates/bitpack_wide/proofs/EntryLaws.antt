-- What it says of the directory and the id sets of a wide set in words that they have no fault.
use Rattle.std.proofs.Common.{◌≡◌, ℕ, zero, suc, ◌+◌, ◌-◌, ◌*◌, ◌/◌, ◌^◌, ◌<◌, ◌≤◌, Bool, true, false, ◌&&◌, not, ltb, leb, eqb, List, take, drop, length, Option, Some, None, add-one, refl, sym, ap, ◌∙◌, arith, inl, inr, subst, eqb-true, eq-eqb, cond, length-drop}
use Rattle.std.specs.Option.{is_none, option_or}
use Rattle.std.proofs.lemmas.Bool.{cases_lt, le-leb, le-ltb, leb-true, lt-leb, lt-ltb}
use Rattle.std.proofs.lemmas.List.{length-take-le}
use Rattle.bitpack_groups.proofs.ForCallers.{passed}
use Rattle.bitpack_groups.specs.Numbers.{byte_count}
use Rattle.bitpack_slices.proofs.ForCallers.{both_true, if_none', is_below, neither, true_both}
use Rattle.bitpack_sets.proofs.ForCallers.{Grows, all_false, grown_to, if_none, none_or, not_and, not_below, not_eq, not_most, not_not, not_zero, or_none, second_not, some_not}
use Rattle.bitpack_sets.specs.Faults as set_faults
use Rattle.bitpack_sets.specs.Reads as set_reads
use Rattle.bitpack_wide.specs.Directory.{before, bodies_end, bodies_start, body_at, count_at, end_at, end_size, high_at, size_at, sum_at, sum_size}
use Rattle.bitpack_wide.specs.Faults.{body_fault, entry_fault, first_of, loose_sizes_fault, sizes_fault, words_fault}
use Rattle.bitpack_wide.specs.Sound.{HasDirectory, IsBody, IsEntry, IsRest}
use Rattle.bitpack_wide.specs.declared.wide_error.WideError.{WideError}
use Rattle.bitpack_wide.specs.declared.wide_error.WideError.TheVariants.{BadBody}

-- ---- the first of some faults

pub first_none : (fault : ℕ → Option WideError) (count : ℕ) → first_of fault count ≡ None → (m : ℕ) → m < count → fault m ≡ None
unfolding first_of
first_none fault zero e m h = absurd (omega arith)
first_none fault (suc count) e m h =
    let (earlier, here) = or_none (first_of fault count) (fault count) e in
    elim (cases_lt m count) [ inl less ↦ first_none fault count earlier m less | inr more ↦ (let same : m ≡ count = omega arith in ap fault same ∙ here) ]

pub none_first : (fault : ℕ → Option WideError) (count : ℕ) → ((m : ℕ) → m < count → fault m ≡ None) → first_of fault count ≡ None
unfolding first_of
none_first fault zero h = refl
none_first fault (suc count) h = none_or (first_of fault count) (fault count) (none_first fault count (λ m lt. h m (omega arith))) (h count (omega arith))

-- as a loop finds it
pub first_start : (fault : ℕ → Option WideError) → first_of fault 0 ≡ None
unfolding first_of
first_start fault = refl

pub first_more : (fault : ℕ → Option WideError) (m : ℕ) → first_of fault m ≡ None → fault m ≡ None → first_of fault (m + 1) ≡ None
unfolding first_of
first_more fault m e f = ap (first_of fault) (add-one m) ∙ none_or (first_of fault m) (fault m) e f

some_or : (a b : Option WideError) (e : WideError) → a ≡ Some e → option_or a b ≡ Some e
some_or a b e h = ap (λ (o : Option WideError). option_or o b) h

pub first_found : (fault : ℕ → Option WideError) (count m : ℕ) (e : WideError) → m < count → first_of fault m ≡ None → fault m ≡ Some e → first_of fault count ≡ Some e
unfolding first_of
first_found fault zero m e h before here = absurd (omega arith)
first_found fault (suc count) m e h before here = elim (cases_lt m count) [
  | inl less ↦ some_or (first_of fault count) (fault count) e (first_found fault count m e less before here)
  | inr more ↦
      let same : m ≡ count = omega arith in
      let none : first_of fault count ≡ None = subst (λ (n : ℕ). first_of fault n ≡ None) same before in
      let found : fault count ≡ Some e = subst (λ (n : ℕ). fault n ≡ Some e) same here in
      ap (λ (o : Option WideError). option_or o (fault count)) none ∙ found
]

-- ---- entries

pub entry_none : (ids words : ℕ) (rest : List ℕ) (m : ℕ) → entry_fault ids words rest m ≡ None → IsEntry ids words rest m
unfolding entry_fault
entry_none ids words rest m e =
    let (keys, e1) = passed _ _ _ e in
    let (sums, e2) = passed _ _ _ e1 in
    let (ends, e3) = passed _ _ _ e2 in
    let (none, last) = neither _ _ sums in
    let (empty, long) = neither _ _ ends in
    record {
      key = λ h. not_most (high_at rest m) (before (high_at rest) m) (second_not _ _ keys (lt-ltb 0 m h));
      some = not_zero (count_at words rest m) none;
      last = λ h. eqb-true (sum_at words rest m) ids (not_not _ (second_not _ _ last (eq-eqb (m + 1) words h)));
      sized = not_zero (size_at words rest m) empty;
      short = not_below (9 * count_at words rest m / 2 + 10) (size_at words rest m) long;
    }

pub none_entry : (ids words : ℕ) (rest : List ℕ) (m : ℕ) → IsEntry ids words rest m → entry_fault ids words rest m ≡ None
unfolding entry_fault
none_entry ids words rest m is =
    some_not _ _ _ (not_and (ltb 0 m) (leb (high_at rest m) (before (high_at rest) m)) (λ e. lt-leb (high_at rest m) (before (high_at rest) m) (is.key (is_below 0 m e))))
    (some_not _ _ _ (all_false _ _ (not_eq (count_at words rest m) is.some)
    (not_and (eqb (m + 1) words) (not (eqb (sum_at words rest m) ids)) (λ e. ap not (eq-eqb (sum_at words rest m) ids (is.last (eqb-true (m + 1) words e))))))
    (some_not _ _ _ (all_false _ _ (not_eq (size_at words rest m) is.sized) (le-ltb (9 * count_at words rest m / 2 + 10) (size_at words rest m) is.short)) refl))

-- ---- sizes

pub sizes_none : (rest : List ℕ) → sizes_fault rest ≡ None → (1 ≤ length rest) × (1 ≤ end_size rest) × (end_size rest ≤ 4) × (1 ≤ sum_size rest) × (sum_size rest ≤ 4)
unfolding sizes_fault
sizes_none rest e =
    let (some, e1) = passed _ _ _ e in
    let (e2, sum_few) = both_true _ _ (if_none _ _ e1) in
    let (e3, sum_some) = both_true _ _ e2 in
    let (end_some, end_few) = both_true _ _ e3 in
    (not_below (length rest) 1 some, is_below 0 (end_size rest) end_some, leb-true (end_size rest) 4 end_few, is_below 0 (sum_size rest) sum_some, leb-true (sum_size rest) 4 sum_few)

pub has_directory : (words : ℕ) (rest : List ℕ) → sizes_fault rest ≡ None → bodies_start words rest ≤ length rest → HasDirectory words rest
has_directory words rest e room =
    let (one, end_some, end_few, sum_some, sum_few) = sizes_none rest e in
    record { end_some = end_some; end_few = end_few; sum_some = sum_some; sum_few = sum_few; room = room }

pub none_sizes : (rest : List ℕ) → 1 ≤ length rest → 1 ≤ end_size rest → end_size rest ≤ 4 → 1 ≤ sum_size rest → sum_size rest ≤ 4 → sizes_fault rest ≡ None
unfolding sizes_fault
none_sizes rest some a b c d =
    some_not _ _ _ (le-ltb (length rest) 1 some)
    (if_none' _ _ (true_both _ _ (true_both _ _ (true_both _ _ (lt-ltb 0 (end_size rest) a) (le-leb (end_size rest) 4 b)) (lt-ltb 0 (sum_size rest) c)) (le-leb (sum_size rest) 4 d)))

pub loose_none : (ids words : ℕ) (rest : List ℕ) → loose_sizes_fault ids words rest ≡ None
    → (end_size rest ≡ byte_count (before (end_at words rest) words)) × (sum_size rest ≡ byte_count ids)
unfolding loose_sizes_fault
loose_none ids words rest e = let (a, b) = both_true _ _ (if_none _ _ e) in (eqb-true (end_size rest) (byte_count (before (end_at words rest) words)) a, eqb-true (sum_size rest) (byte_count ids) b)

pub none_loose : (ids words : ℕ) (rest : List ℕ) → end_size rest ≡ byte_count (before (end_at words rest) words) → sum_size rest ≡ byte_count ids
    → loose_sizes_fault ids words rest ≡ None
unfolding loose_sizes_fault
none_loose ids words rest a b = if_none' _ _ (true_both _ _ (eq-eqb (end_size rest) (byte_count (before (end_at words rest) words)) a) (eq-eqb (sum_size rest) (byte_count ids) b))

-- ---- id sets

is_none_none : {T : Type 0} (o : Option T) → is_none o ≡ true → o ≡ None
is_none_none None e = refl
is_none_none (Some x) e = cc

pub body_none : (words : ℕ) (rest : List ℕ) (m : ℕ) → body_fault words rest m ≡ None → IsBody words rest m
unfolding body_fault
body_none words rest m e =
    let (none, count) = both_true _ _ (if_none _ _ e) in
    record { none = is_none_none (set_faults.fault (body_at words rest m)) none; count = eqb-true (length (set_reads.ids_in (body_at words rest m))) (count_at words rest m) count }

pub none_body : (words : ℕ) (rest : List ℕ) (m : ℕ) → IsBody words rest m → body_fault words rest m ≡ None
unfolding body_fault
none_body words rest m is =
    if_none' _ _ (true_both _ _ (ap is_none is.none) (eq-eqb (length (set_reads.ids_in (body_at words rest m))) (count_at words rest m) is.count))

-- ---- ends and sums grow

pub ends_grow : (ids words : ℕ) (rest : List ℕ) → ((m : ℕ) → m < words → IsEntry ids words rest m) → Grows (end_at words rest) 0 words
ends_grow ids words rest entries i low high = let sized = (entries i (omega arith)).sized in omega arith

pub sums_grow : (ids words : ℕ) (rest : List ℕ) → ((m : ℕ) → m < words → IsEntry ids words rest m) → Grows (sum_at words rest) 0 words
sums_grow ids words rest entries i low high = let some = (entries i (omega arith)).some in omega arith

pub body_len : (ids words : ℕ) (rest : List ℕ) (m : ℕ) → ((i : ℕ) → i < words → IsEntry ids words rest i) → bodies_end words rest ≤ length rest → m < words
    → length (body_at words rest m) ≡ size_at words rest m
body_len ids words rest m entries room lt =
    let sized = (entries m lt).sized in
    let top = grown_to (end_at words rest) m words (ends_grow ids words rest entries) lt in
    let from : ℕ = bodies_start words rest + before (end_at words rest) m in
    length-take-le (size_at words rest m) (drop from rest) (omega (arith, length-drop from rest))

-- the rest has no fault
pub rest_none : (ids words : ℕ) (rest : List ℕ) → 0 < words → 8 * words ≤ ids → ids ≤ 2 ^ 28 → words_fault ids words rest ≡ None → IsRest ids words rest
unfolding words_fault
rest_none ids words rest some near few e =
    let (sizes, e1) = or_none _ _ e in
    let (short, e2) = or_none _ _ e1 in
    let (first, e3) = or_none _ _ e2 in
    let (loose, e4) = or_none _ _ e3 in
    let (cut, e5) = or_none _ _ e4 in
    let (bad, after) = or_none _ _ e5 in
    let (end_least, sum_least) = loose_none ids words rest loose in
    let room = not_below (length rest) (bodies_start words rest) (passed _ _ _ short).0 in
    let fits = not_below (length rest) (bodies_end words rest) (passed _ _ _ cut).0 in
    let all = not_below (bodies_end words rest) (length rest) (passed _ _ _ after).0 in
    record {
      some = some;
      near = near;
      few = few;
      directory = has_directory words rest sizes room;
      entries = λ m lt. entry_none ids words rest m (first_none (entry_fault ids words rest) words first m lt);
      end_least = end_least;
      sum_least = sum_least;
      bodies = λ m lt. body_none words rest m (first_none (body_fault words rest) words bad m lt);
      end = omega arith;
    }

-- ---- a body as it is cut from the rest

pub body_cut : (words m start begin end : ℕ) (rest : List ℕ) → start ≡ bodies_start words rest → begin ≡ before (end_at words rest) m → end ≡ end_at words rest m
    → take (start + end - (start + begin)) (drop (start + begin) rest) ≡ body_at words rest m
body_cut words m start begin end rest s b e =
    let size : start + end - (start + begin) ≡ size_at words rest m = omega arith in
    let from : start + begin ≡ bodies_start words rest + before (end_at words rest) m = omega arith in
    ap (λ (n : ℕ). take n (drop (start + begin) rest)) size ∙ ap (λ (n : ℕ). take (size_at words rest m) (drop n rest)) from

pub body_end : (ids words m : ℕ) (rest : List ℕ) → ((i : ℕ) → i < words → IsEntry ids words rest i) → bodies_end words rest ≤ length rest → m < words → bodies_start words rest + end_at words rest m ≤ length rest
body_end ids words m rest entries room lt =
    let top = grown_to (end_at words rest) m words (ends_grow ids words rest entries) lt in
    omega arith

-- whether it is an id set tells its fault
pub body_right : (words m own : ℕ) (rest bytes : List ℕ) → bytes ≡ body_at words rest m → own ≡ count_at words rest m
    → true ≡ (is_none (set_faults.fault bytes) && eqb (length (set_reads.ids_in bytes)) own) → body_fault words rest m ≡ None
unfolding body_fault
body_right words m own rest bytes e o h =
    if_none' _ _ (ap (λ (l : List ℕ). is_none (set_faults.fault l) && eqb (length (set_reads.ids_in l)) (count_at words rest m)) (sym e)
    ∙ ap (λ (n : ℕ). is_none (set_faults.fault bytes) && eqb (length (set_reads.ids_in bytes)) n) (sym o) ∙ sym h)

pub body_wrong : (words m own : ℕ) (rest bytes : List ℕ) → bytes ≡ body_at words rest m → own ≡ count_at words rest m
    → false ≡ (is_none (set_faults.fault bytes) && eqb (length (set_reads.ids_in bytes)) own) → body_fault words rest m ≡ Some (BadBody m)
unfolding body_fault
body_wrong words m own rest bytes e o h =
    ap (λ (b : Bool). cond b None (Some (BadBody m))) (ap (λ (l : List ℕ). is_none (set_faults.fault l) && eqb (length (set_reads.ids_in l)) (count_at words rest m)) (sym e)
    ∙ ap (λ (n : ℕ). is_none (set_faults.fault bytes) && eqb (length (set_reads.ids_in bytes)) n) (sym o) ∙ sym h)
