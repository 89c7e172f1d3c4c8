-- The best stay so when many documents more are skipped, or one is selected; and which documents are among some.
use Rattle.std.proofs.Common.{◌≡◌, ℕ, zero, suc, ◌+◌, ◌<◌, ◌≤◌, ◌⊎◌, Bool, false, true, cond, eqb, None, Some, List, [], ◌∷◌, ◌++◌, length, get_or, take, drop, refl, sym, ap, ◌∙◌, subst, inl, inr, arith}
use Rattle.std.specs.Prelude.{◌||◌, ◌&&◌, not}
use Rattle.std.specs.List.{sum_by}
use Rattle.std.specs.Option.{is_some}
use Rattle.std.specs.List.Sorted.{IsStrictlyIncreasing}
use Rattle.std.proofs.lemmas.Bool.{cases_lt, eq-eqb, le-leb, lt-leb, eqb-true, ltb-true, true≢false}
use Rattle.std.proofs.lemmas.List.{get_or-drop, get_or-take, length-drop, length-take, take_all}
use Rattle.std.proofs.Math.Seq.{take-add}
use Rattle.std.proofs.lemmas.List.Folds.{list_any-append, list_any_at, list_any_more}
use Rattle.bitpack_slices.specs.Reads.{has}
use Rattle.bitpack_slices.specs.Slices.{first_fall}
use Rattle.bitpack_ranked.specs.declared.found.Scored.{Scored}
use Rattle.bitpack_ranked.specs.Ranked.{AreBest, IsScored, part_in, position_of}
use Rattle.bitpack_ranked.specs.Terms.{Word}
use Rattle.bitpack_ranked.specs.inner.Candidates.{Rise}
use Rattle.bitpack_ranked.specs.inner.Selecting.{IsFull, IsSelected}
use Rattle.bitpack_ranked.proofs.BestSteps.{best_none, best_same, best_selected, best_skipped, same_scored}
use Rattle.bitpack_ranked.proofs.PositionLemmas.{has_position, id_at, rises}

-- ---- one of two

pub or_first : (a b : Bool) → a ≡ true → (a || b) ≡ true
or_first true b e = refl
or_first false b e = absurd cc

pub or_second : (a b : Bool) → b ≡ true → (a || b) ≡ true
or_second true b e = refl
or_second false b e = e

pub or_cases : (a b : Bool) → (a || b) ≡ true → (a ≡ true) ⊎ (b ≡ true)
or_cases true b e = inl refl
or_cases false b e = inr e

pub true_or_false : (b : Bool) → (b ≡ true) ⊎ (b ≡ false)
true_or_false true = inl refl
true_or_false false = inr refl

-- ---- which are among some

pub has_at : (xs : List ℕ) (i : ℕ) → i < length xs → has (get_or xs i 0) xs ≡ true
has_at xs i lt = list_any_at (λ y. eqb y (get_or xs i 0)) xs i 0 lt (eq-eqb (get_or xs i 0) (get_or xs i 0) refl)

pub has_more : (x : ℕ) (xs : List ℕ) (i : ℕ) → i < length xs → has x (take (i + 1) xs) ≡ (has x (take i xs) || eqb (get_or xs i 0) x)
has_more x xs i lt = list_any_more (λ y. eqb y x) xs i 0 lt

pub has_index : (x : ℕ) (xs : List ℕ) → has x xs ≡ true → (position_of xs x < length xs) × (get_or xs (position_of xs x) 0 ≡ x)
has_index x xs is =
    let within = ltb-true (position_of xs x) (length xs) (sym (has_position xs x) ∙ is) in
    (within, id_at xs x within)

-- ids without a fall increase
one_more_increasing : (x y : ℕ) (ys : List ℕ) → x < y → IsStrictlyIncreasing (y ∷ ys) → IsStrictlyIncreasing (x ∷ y ∷ ys)
one_more_increasing x y ys less increasing zero lt = less
one_more_increasing x y ys less increasing (suc k) lt =
    let next : suc k + 1 ≡ suc (k + 1) = omega arith in
    omega (arith, increasing k (omega (arith, lt)), ap (λ n. get_or (x ∷ y ∷ ys) n 0) next)

pub no_fall-increasing : (position : ℕ) (xs : List ℕ) → first_fall position xs ≡ None → IsStrictlyIncreasing xs
unfolding first_fall
no_fall-increasing position [] e = λ k lt. absurd (omega (arith, lt))
no_fall-increasing position (x ∷ []) e = λ k lt. absurd (omega (arith, lt))
no_fall-increasing position (x ∷ y ∷ ys) e = elim (cases_lt x y) [
  | inl less ↦ one_more_increasing x y ys less (no_fall-increasing (position + 1) (y ∷ ys)
      (sym (ap (λ (b : Bool). cond b (Some (position + 1)) (first_fall (position + 1) (y ∷ ys))) (lt-leb y x less)) ∙ e))
  | inr more ↦ absurd (true≢false (ap is_some (sym (ap (λ (b : Bool). cond b (Some (position + 1)) (first_fall (position + 1) (y ∷ ys))) (le-leb y x more)) ∙ e)))
]

-- ---- more documents

module _ (p q : ℕ → Bool) (words : List Word) (classes : List ℕ) (k : ℕ) (more : (id : ℕ) → p id ≡ true → q id ≡ true) where
  preserves : (d : Scored) → IsScored p words classes d → IsScored q words classes d
  preserves d one = record { passes = more d.id one.passes; adds_up = one.adds_up }

  pub many_same : (found : List Scored) → ((id : ℕ) → q id ≡ true → p id ≡ true) → AreBest (IsScored p words classes) k found
      → AreBest (IsScored q words classes) k found
  many_same found back best = best_same (IsScored p words classes) (IsScored q words classes) k found best preserves
      (λ d next. record { passes = back d.id next.passes; adds_up = next.adds_up })

  pub many_skipped : (found : List Scored)
      → ((id : ℕ) → q id ≡ true → (p id ≡ true)
      ⊎ (score : ℕ) × (sum_by (part_in classes id) words ≤ score) × IsFull k (record { score = score; id = id }) found)
      → AreBest (IsScored p words classes) k found → AreBest (IsScored q words classes) k found
  many_skipped found splits best = best_skipped (IsScored p words classes) (IsScored q words classes) k found best preserves (λ d next. elim (splits d.id next.passes) [
    | inl was ↦ inl (record { passes = was; adds_up = next.adds_up })
    | inr rest ↦ let (score, le, full) = rest in inr (record { score = score; id = d.id }, full, omega arith, omega (arith, le, next.adds_up))
  ])

  pub one_kept : (x : Scored) (old new : List Scored) → q x.id ≡ true → x.score ≡ sum_by (part_in classes x.id) words
      → ((id : ℕ) → q id ≡ true → (p id ≡ true) ⊎ (id ≡ x.id)) → (p x.id ≡ true → ⊥)
      → (IsSelected k x old new) ⊎ ((new ≡ old) × IsFull k x old) → AreBest (IsScored p words classes) k old → AreBest (IsScored q words classes) k new
  one_kept x old new is adds_up splits fresh done best = elim done [
    | inl selected ↦ best_selected (IsScored p words classes) (IsScored q words classes) k x old new best selected
        (λ d was same. fresh (subst (λ id. p id ≡ true) same was.passes)) preserves (record { passes = is; adds_up = adds_up })
        (λ d next. elim (splits d.id next.passes) [
          | inl was ↦ inl (record { passes = was; adds_up = next.adds_up })
          | inr same ↦ inr (same_scored d x same (next.adds_up ∙ ap (λ id. sum_by (part_in classes id) words) same ∙ sym adds_up))
        ])
    | inr skipped ↦ subst (λ found. AreBest (IsScored q words classes) k found) (sym skipped.0)
        (many_skipped old (λ id next. elim (splits id next) [
          | inl was ↦ inl was
          | inr same ↦ inr (
            x.score,
            omega (arith, adds_up, ap (λ y. sum_by (part_in classes y) words) same),
            subst (λ y. IsFull k (record { score = x.score; id = y }) old) (sym same) skipped.1,
          )
        ]) best)
  ]

-- ---- candidates, one after the other

-- an id was an old one, or one that passes a test and is no candidate, or one of the first candidates that passes it
abbrev pub passed : (ℕ → Bool) → (ℕ → Bool) → List ℕ → ℕ → ℕ → Bool
passed old test ids i id = (old id || (test id && not (has id ids))) || (test id && has id (take i ids))

first_cases : (o t h : Bool) → ((o || (t && not h)) || (t && false)) ≡ true → (o ≡ true) ⊎ ((t ≡ true) × (h ≡ false))
first_cases true t h e = inl refl
first_cases false true true e = absurd cc
first_cases false true false e = inr (refl, refl)
first_cases false false h e = absurd cc

last_cases : (o t h : Bool) → ((o || (t && not h)) || (t && h)) ≡ (o || t)
last_cases true t h = refl
last_cases false true true = refl
last_cases false true false = refl
last_cases false false h = refl

more_cases : (o t h a b : Bool) → (a ≡ true → b ≡ true) → ((o || (t && not h)) || (t && a)) ≡ true → ((o || (t && not h)) || (t && b)) ≡ true
more_cases true t h a b more e = refl
more_cases false true true a b more e = more e
more_cases false true false a b more e = refl
more_cases false false h a b more e = e

less_cases : (o t h a b : Bool) → (t ≡ true → b ≡ true → a ≡ true) → ((o || (t && not h)) || (t && b)) ≡ true → ((o || (t && not h)) || (t && a)) ≡ true
less_cases true t h a b less e = refl
less_cases false true true a b less e = less refl e
less_cases false true false a b less e = refl
less_cases false false h a b less e = e

not_yet : (o t a : Bool) → o ≡ false → a ≡ false → ((o || (t && not true)) || (t && a)) ≡ true → ⊥
not_yet true t a e f is = true≢false e
not_yet false true true e f is = true≢false f
not_yet false true false e f is = true≢false (sym is)
not_yet false false a e f is = true≢false (sym is)

now_passed : (o t h b : Bool) → t ≡ true → b ≡ true → ((o || (t && not h)) || (t && b)) ≡ true
now_passed true true h b e f = refl
now_passed false true true b e f = f
now_passed false true false b e f = refl
now_passed o false h b e f = absurd cc

module _ (words : List Word) (classes : List ℕ) (k : ℕ) (ids : List ℕ) (old test : ℕ → Bool) where
  pub none_passed : (found : List Scored)
      → ((id : ℕ) → test id ≡ true → (has id ids ≡ true)
      ⊎ (score : ℕ) × (sum_by (part_in classes id) words ≤ score) × IsFull k (record { score = score; id = id }) found)
      → AreBest (IsScored old words classes) k found → AreBest (IsScored (passed old test ids 0) words classes) k found
  none_passed found others best = many_skipped old (passed old test ids 0) words classes k (λ id is. or_first (old id || (test id && not (has id ids))) _ (or_first (old id) _ is)) found
      (λ id is. elim (first_cases (old id) (test id) (has id ids) is) [
        | inl was ↦ inl was
        | inr other ↦ elim (others id other.0) [
          | inl there ↦ absurd (true≢false (sym there ∙ other.1))
          | inr beaten ↦ inr beaten
        ]
      ]) best

  pub all_passed : (found : List Scored) (i : ℕ) → length ids ≤ i → AreBest (IsScored (passed old test ids i) words classes) k found
      → AreBest (IsScored (λ id. old id || test id) words classes) k found
  all_passed found i all best =
      many_same (passed old test ids i) (λ id. old id || test id) words classes k (λ id is. sym (same id) ∙ is) found (λ id is. same id ∙ is) best
    where
      same : (id : ℕ) → passed old test ids i id ≡ (old id || test id)
      same id = ap (λ xs. (old id || (test id && not (has id ids))) || (test id && has id xs)) (take_all i ids all) ∙ last_cases (old id) (test id) (has id ids)

  module _ (rise : Rise ids (length ids)) (fresh : (id : ℕ) → test id ≡ true → old id ≡ false) (i : ℕ) (lt : i < length ids) where
    abbrev this : ℕ
    this = get_or ids i 0

    not_before : has this (take i ids) ≡ false
    not_before = go (has this (take i ids)) refl
      where
        go : (b : Bool) → has this (take i ids) ≡ b → has this (take i ids) ≡ false
        go false e = e
        go true e =
            let (within, same) = has_index this (take i ids) e in
            let p = position_of (take i ids) this in
            let less : p < i = omega (arith, within, length-take i ids) in
            absurd (omega (arith, rise p i less lt, sym (get_or-take i ids p 0 less) ∙ same))

    more : (id : ℕ) → passed old test ids i id ≡ true → passed old test ids (i + 1) id ≡ true
    more id is = more_cases (old id) (test id) (has id ids) (has id (take i ids)) (has id (take (i + 1) ids))
        (λ before. has_more id ids i lt ∙ or_first (has id (take i ids)) _ before) is

    -- it does not pass the test
    skipped : (found : List Scored) → test this ≡ false → AreBest (IsScored (passed old test ids i) words classes) k found
        → AreBest (IsScored (passed old test ids (i + 1)) words classes) k found
    skipped found fails best = many_same (passed old test ids i) (passed old test ids (i + 1)) words classes k more found
        (λ id is. less_cases (old id) (test id) (has id ids) (has id (take i ids)) (has id (take (i + 1) ids)) (λ passes now.
        elim (or_cases (has id (take i ids)) (eqb this id) (sym (has_more id ids i lt) ∙ now)) [
          | inl before ↦ before
          | inr same ↦ absurd (true≢false (sym passes ∙ ap test (sym (eqb-true this id same)) ∙ fails))
        ]) is) best

    taken : (score : ℕ) → test this ≡ true → score ≡ sum_by (part_in classes this) words → (found new : List Scored)
        → (IsSelected k (record { score = score; id = this }) found new) ⊎ ((new ≡ found) × IsFull k (record { score = score; id = this }) found)
        → AreBest (IsScored (passed old test ids i) words classes) k found → AreBest (IsScored (passed old test ids (i + 1)) words classes) k new
    taken score passes adds_up found new done best = one_kept (passed old test ids i) (passed old test ids (i + 1)) words classes k more
        (record { score = score; id = this }) found new
        (now_passed (old this) (test this) (has this ids) (has this (take (i + 1) ids)) passes
        (has_more this ids i lt ∙ or_second (has this (take i ids)) _ (eq-eqb this this refl))) adds_up
        (λ id is. elim (true_or_false (eqb this id)) [
          | inl same ↦ inr (sym (eqb-true this id same))
          | inr other ↦ inl (less_cases (old id) (test id) (has id ids) (has id (take i ids)) (has id (take (i + 1) ids)) (λ p now.
              elim (or_cases (has id (take i ids)) (eqb this id) (sym (has_more id ids i lt) ∙ now)) [
                | inl before ↦ before
                | inr same ↦ absurd (true≢false (sym same ∙ other))
              ]) is)
        ])
        (λ is. not_yet (old this) (test this) (has this (take i ids)) (fresh this passes) not_before
        (sym (ap (λ b. (old this || (test this && not b)) || (test this && has this (take i ids))) (has_at ids i lt)) ∙ is)) done best

    -- a document that has an id is taken, or skipped
    abbrev Step : ℕ → Type 0
    Step id = (score : ℕ) → (test id ≡ true → score ≡ sum_by (part_in classes id) words) → (found new : List Scored)
        → ((test id ≡ true) × IsSelected k (record { score = score; id = id }) found new)
        ⊎ ((new ≡ found) × ((test id ≡ false) ⊎ IsFull k (record { score = score; id = id }) found))
        → AreBest (IsScored (passed old test ids i) words classes) k found → AreBest (IsScored (passed old test ids (i + 1)) words classes) k new

    this_passed : Step this
    this_passed score adds_up found new done best = elim done [
      | inl selected ↦ taken score selected.0 (adds_up selected.0) found new (inl selected.1) best
      | inr rest ↦ elim (true_or_false (test this)) [
        | inr fails ↦ subst (λ its. AreBest (IsScored (passed old test ids (i + 1)) words classes) k its) (sym rest.0) (skipped found fails best)
        | inl passes ↦ elim rest.1 [
          | inl fails ↦ absurd (true≢false (sym passes ∙ fails))
          | inr full ↦ taken score passes (adds_up passes) found new (inr (rest.0, full)) best
        ]
      ]
    ]

    pub one_passed : (id : ℕ) → this ≡ id → Step id
    one_passed id same = subst Step same this_passed

-- ---- one block of documents after the other

pub none_of_all : (words : List Word) (classes : List ℕ) (k : ℕ) (found : List Scored) → length found ≡ 0 → AreBest (IsScored (λ id. has id []) words classes) k found
none_of_all words classes k found none = best_none (IsScored (λ id. has id []) words classes) k found none (λ d was. true≢false (sym was.passes))

module _ (documents : List ℕ) (increasing : IsStrictlyIncreasing documents) (from count : ℕ) (fits : from + count ≤ length documents) where
  abbrev some : List ℕ
  some = take count (drop from documents)

  count_some : length some ≡ count
  count_some = omega (arith, length-take count (drop from documents), length-drop from documents, fits)

  some_at : (k : ℕ) → k < count → get_or some k 0 ≡ get_or documents (from + k) 0
  some_at k lt = get_or-take count (drop from documents) k 0 lt ∙ get_or-drop from documents k 0

  pub some_increasing : IsStrictlyIncreasing some
  some_increasing k lt =
      let next : from + (k + 1) ≡ from + k + 1 = omega arith in
      omega (
        arith,
        some_at k (omega (arith, lt, count_some)),
        some_at (k + 1) (omega (arith, lt, count_some)),
        increasing (from + k) (omega (arith, lt, count_some, fits)),
        ap (λ n. get_or documents n 0) next,
      )

  pub some_fresh : (id : ℕ) → has id some ≡ true → has id (take from documents) ≡ false
  some_fresh id is = go (has id (take from documents)) refl
    where
      go : (b : Bool) → has id (take from documents) ≡ b → has id (take from documents) ≡ false
      go false e = e
      go true e =
          let (less, before) = has_index id (take from documents) e in
          let (lt, here) = has_index id some is in
          let p = position_of (take from documents) id in
          let q = position_of some id in
          let early : p < from = omega (arith, less, length-take from documents) in
          absurd (omega (
            arith,
            sym (get_or-take from documents p 0 early) ∙ before,
            sym (some_at q (omega (arith, lt, count_some))) ∙ here,
            rises documents increasing p (from + q) (omega (arith, early)) (omega (arith, lt, count_some, fits)),
          ))

  pub some_more : (words : List Word) (classes : List ℕ) (k next : ℕ) (found : List Scored) → (next ≡ from + count) ⊎ ((from + count ≡ length documents) × (length documents ≤ next))
      → AreBest (IsScored (λ id. has id (take from documents) || has id some) words classes) k found
      → AreBest (IsScored (λ id. has id (take next documents)) words classes) k found
  some_more words classes k next found upto best =
      many_same (λ id. has id (take from documents) || has id some) (λ id. has id (take next documents)) words classes k (λ id is. joined id ∙ is) found
      (λ id is. sym (joined id) ∙ is) best
    where
      all : take next documents ≡ take from documents ++ some
      all = elim upto [
        | inl at ↦ ap (λ n. take n documents) at ∙ take-add from count documents
        | inr end ↦ take_all next documents end.1 ∙ sym (take_all (from + count) documents (omega (arith, end.0))) ∙ take-add from count documents
      ]

      joined : (id : ℕ) → has id (take next documents) ≡ (has id (take from documents) || has id some)
      joined id = ap (λ xs. has id xs) all ∙ list_any-append (λ y. eqb y id) (take from documents) some
