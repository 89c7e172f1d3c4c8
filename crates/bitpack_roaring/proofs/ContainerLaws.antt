-- What is known of a container without a fault.
use Rattle.std.proofs.Common.{◌≡◌, ℕ, ◌+◌, ◌-◌, ◌*◌, ◌<◌, ◌≤◌, ◌&&◌, Bool, true, false, cond, eqb, leb, ltb, List, length, drop, Option, Some, None, refl, sym, ap, ◌∙◌, arith, subst, inl, inr, length-drop, length-take-le}
use Rattle.std.specs.Option.{option_map, option_or}
use Rattle.std.proofs.lemmas.Bool.{eqb-true, leb-true, ltb-false, true≢false}
use Rattle.std.proofs.lemmas.Bool.Decides.{leb_tells}
use Rattle.bitpack_groups.proofs.ForCallers.{none_first, passed}
use Rattle.bitpack_slices.proofs.ForCallers.{EachByte, both_true, bytes_dropped, bytes_taken, pairs_len, pairs_rise, those_rise}
use Rattle.bitpack_slices.specs.Bodies.{IsRising}
use Rattle.bitpack_slices.specs.Operations.{those}
use Rattle.bitpack_slices.specs.Slices.{first_fall, number_of, ones_from, pairs_of}
use Rattle.bitpack_slices.specs.declared.set_error.SetError.{SetError}
use Rattle.bitpack_slices.specs.declared.set_error.SetError.TheVariants.{BadBody, NotSorted}
use Rattle.bitpack_roaring.proofs.RunSteps.{apart_rise, rise_is}
use Rattle.bitpack_roaring.specs.Faults.{are_apart, container_fault, key_fault, numbers_fault, offset_fault}
use Rattle.bitpack_roaring.specs.inner.Heads.{IsContainer}
use Rattle.bitpack_roaring.specs.Roaring.{body_at, bounds_in, count_at, is_run, key_at, numbers_of, position_at, size_from, start_at}

map_none : {A : Type 0} (f : A → SetError) (o : Option A) → option_map f o ≡ None → o ≡ None
map_none f None e = refl
map_none f (Some x) e = absurd cc

only_if : (b : Bool) (e : SetError) → cond b None (Some e) ≡ None → b ≡ true
only_if true e h = refl
only_if false e h = absurd cc

-- ---- the numbers of each form

pub of_runs : (count : ℕ) (body : List ℕ) → numbers_of true count body ≡ Rattle.bitpack_slices.specs.Runs.run_numbers (bounds_in body)
unfolding numbers_of
of_runs count body = refl

pub of_array : (count : ℕ) (body : List ℕ) → leb count 4096 ≡ true → numbers_of false count body ≡ pairs_of body
unfolding numbers_of
of_array count body e = ap (λ (b : Bool). cond b (pairs_of body) (ones_from (number_of body) 0 65536)) e

pub of_bits : (count : ℕ) (body : List ℕ) → leb count 4096 ≡ false → numbers_of false count body ≡ ones_from (number_of body) 0 65536
unfolding numbers_of
of_bits count body e = ap (λ (b : Bool). cond b (pairs_of body) (ones_from (number_of body) 0 65536)) e

ones_rise : (x : ℕ) → IsRising 0 65536 (ones_from x 0 65536)
unfolding ones_from those
ones_rise x = those_rise (λ i. eqb (Rattle.std.specs.Int.bit_at x i) 1) 65536

-- ---- a container without a fault

module _ (m position count : ℕ) (body : List ℕ) (are : EachByte body) (some : 1 ≤ count) (few : count ≤ 65536) where
  runs_none : 2 ≤ length body → numbers_fault m position true count body ≡ None → IsContainer true count body
  unfolding numbers_fault
  runs_none there h =
      let (apart, counted) = both_true (are_apart (bounds_in body)) (eqb (length (numbers_of true count body)) count) (only_if _ (BadBody m) h) in
      record {
        some = some;
        few = few;
        rising = subst (IsRising 0 65536) (sym (of_runs count body)) (apart_rise (pairs_of (drop 2 body)) apart);
        count_is = eqb-true (length (numbers_of true count body)) count counted;
        runs_there = λ e. there;
        apart = λ e. rise_is 0 65537 (bounds_in body) apart;
        bits_there = λ e. absurd (true≢false e);
      }

  array_none : (small : leb count 4096 ≡ true) → length body ≡ 2 * count → numbers_fault m position false count body ≡ None → IsContainer false count body
  unfolding numbers_fault
  array_none small long h =
      let falls : first_fall position (pairs_of body) ≡ None = map_none NotSorted (first_fall position (pairs_of body))
      (ap (λ (b : Bool). cond b (option_map NotSorted (first_fall position (pairs_of body))) (cond (eqb (length (numbers_of false count body)) count) None (Some (BadBody m)))) (sym small) ∙ h) in
      let size = pairs_len body in
      record {
        some = some;
        few = few;
        rising = subst (IsRising 0 65536) (sym (of_array count body small)) (pairs_rise position body are falls);
        count_is = ap length (of_array count body small) ∙ omega arith;
        runs_there = λ e. absurd (true≢false (sym e));
        apart = λ e. absurd (true≢false (sym e));
        bits_there = λ e many. (let fits = leb-true count 4096 small in absurd (omega arith));
      }

  bits_none : (large : leb count 4096 ≡ false) → length body ≡ 8192 → numbers_fault m position false count body ≡ None → IsContainer false count body
  unfolding numbers_fault
  bits_none large long h =
      let counted : cond (eqb (length (numbers_of false count body)) count) None (Some (BadBody m)) ≡ None =
      ap (λ (b : Bool). cond b (option_map NotSorted (first_fall position (pairs_of body))) (cond (eqb (length (numbers_of false count body)) count) None (Some (BadBody m)))) (sym large) ∙ h in
      record {
        some = some;
        few = few;
        rising = subst (IsRising 0 65536) (sym (of_bits count body large)) (ones_rise (number_of body));
        count_is = eqb-true (length (numbers_of false count body)) count (only_if _ (BadBody m) counted);
        runs_there = λ e. absurd (true≢false (sym e));
        apart = λ e. absurd (true≢false (sym e));
        bits_there = λ e many. long;
      }

-- its size is as its form says
abbrev pub HasSize : Bool → ℕ → List ℕ → Type 0
HasSize run count body = (run ≡ true → 2 ≤ length body) × ((run ≡ false → leb count 4096 ≡ true → length body ≡ 2 * count) × (run ≡ false → leb count 4096 ≡ false → length body ≡ 8192))

pub numbers_none : (m position count : ℕ) (run : Bool) (body : List ℕ) → EachByte body → 1 ≤ count → count ≤ 65536 → HasSize run count body
    → numbers_fault m position run count body ≡ None → IsContainer run count body
numbers_none m position count true body are some few (there, others) h = runs_none m position count body are some few (there refl) h
numbers_none m position count false body are some few (there, (listed, bits)) h = elim (leb_tells count 4096) [
  | inl (e, l) ↦ array_none m position count body are some few e (listed refl e) h
  | inr (e, l) ↦ bits_none m position count body are some few e (bits refl e) h
]

sized : (bytes : List ℕ) (m start : ℕ) (body : List ℕ) → length body ≡ size_from bytes m start → (run : Bool) → run ≡ is_run bytes m → HasSize run (count_at bytes m) body
unfolding size_from
sized bytes m start body long true is =
    let two : size_from bytes m start ≡ 2 + 4 * Rattle.bitpack_groups.specs.Numbers.short_at 2 (drop start bytes) 0 =
    ap (λ (b : Bool). cond b (2 + 4 * Rattle.bitpack_groups.specs.Numbers.short_at 2 (drop start bytes) 0) (cond (leb (count_at bytes m) 4096) (2 * count_at bytes m) 8192)) (sym is) in
    (λ e. omega arith, (λ e. absurd (true≢false e), λ e. absurd (true≢false e)))
sized bytes m start body long false is =
    let others : size_from bytes m start ≡ cond (leb (count_at bytes m) 4096) (2 * count_at bytes m) 8192 =
    ap (λ (b : Bool). cond b (2 + 4 * Rattle.bitpack_groups.specs.Numbers.short_at 2 (drop start bytes) 0) (cond (leb (count_at bytes m) 4096) (2 * count_at bytes m) 8192)) (sym is) in (
      λ e. absurd (true≢false (sym e)),
      (λ e small. long ∙ others ∙ ap (λ (b : Bool). cond b (2 * count_at bytes m) 8192) small, λ e large. long ∙ others ∙ ap (λ (b : Bool). cond b (2 * count_at bytes m) 8192) large),
    )

pub size_of : (bytes : List ℕ) (m start : ℕ) (body : List ℕ) → length body ≡ size_from bytes m start → HasSize (is_run bytes m) (count_at bytes m) body
size_of bytes m start body long = sized bytes m start body long (is_run bytes m) refl

-- what is known of container m
pub record IsTested (bytes : List ℕ) (m : ℕ) : Type 0 where
  pub key : 0 < m → key_at bytes (m - 1) < key_at bytes m
  pub room : start_at bytes m + size_from bytes m (start_at bytes m) ≤ length bytes
  pub numbers : IsContainer (is_run bytes m) (count_at bytes m) (body_at bytes m)

key_above : (before key m : ℕ) (e : SetError) → cond (ltb 0 m && leb key before) (Some e) None ≡ None → 0 < m → before < key
key_above before key m e h some = elim (leb_tells key before) [
  | inl (f, l) ↦ (
      let all : (ltb 0 m && leb key before) ≡ true = ap (λ (b : Bool). b && leb key before) (Rattle.std.proofs.lemmas.Bool.lt-ltb 0 m some) ∙ f in
      absurd (true≢false (sym all ∙ (passed (ltb 0 m && leb key before) e None h).0)))
  | inr (f, l) ↦ l
]

pub tested : (bytes : List ℕ) (m : ℕ) → EachByte bytes → 1 ≤ count_at bytes m → count_at bytes m ≤ 65536 → container_fault bytes m ≡ None → IsTested bytes m
unfolding container_fault key_fault
tested bytes m are some few h =
    let start : ℕ = start_at bytes m in
    let size : ℕ = size_from bytes m start in
    let (key, h2) = none_first (key_fault bytes m) _ h in
    let (offset, h3) = none_first (offset_fault bytes m) _ h2 in
    let (short, bad) = none_first _ _ h3 in
    let (enough, _) = passed _ _ _ short in
    let room : start + size ≤ length bytes = (let over = ltb-false (length bytes) (start + size) enough in omega arith) in
    let long : length (body_at bytes m) ≡ size = length-take-le size (drop start bytes) (omega (arith, length-drop start bytes)) in
    record {
      key = key_above (key_at bytes (m - 1)) (key_at bytes m) m _ key;
      room = room;
      numbers = numbers_none m (position_at bytes m) (count_at bytes m) (is_run bytes m) (body_at bytes m) (bytes_taken size (drop start bytes) (bytes_dropped start bytes are)) some few
          (size_of bytes m start (body_at bytes m) long) bad;
    }
