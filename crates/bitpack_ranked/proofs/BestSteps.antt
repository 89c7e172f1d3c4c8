-- The best k of some documents stay so: when one more is selected in its place, and when others are left out that cannot be among them.
use Rattle.std.proofs.Common.{◌≡◌, ℕ, ◌+◌, ◌-◌, ◌<◌, ◌≤◌, ◌⊎◌, min, List, length, get_or, sym, ap, ◌∙◌, inl, inr, arith}
use Rattle.std.specs.Prelude.{All, Contains}
use Rattle.std.specs.List.{insert}
use Rattle.std.proofs.lemmas.Bool.{cases_eq, cases_lt}
use Rattle.std.proofs.lemmas.List.{get_or_default}
use Rattle.std.proofs.lemmas.List.Edits.{get_or-insert_above, get_or-insert_at, get_or-insert_below, length-insert}
use Rattle.bitpack_ranked.specs.declared.found.Scored.{Scored}
use Rattle.bitpack_ranked.specs.Ranked.{AreBest, ComesBefore}
use Rattle.bitpack_ranked.specs.inner.Selecting.{IsFull, IsPositionFor, IsSelected}

pub same_scored : (a b : Scored) → a.id ≡ b.id → a.score ≡ b.score → a ≡ b
same_scored a b id score =
    let of : ℕ → ℕ → Scored = λ i s. record { score = s; id = i } in
    ap (λ i. of i a.score) id ∙ ap (λ s. of b.id s) score

transitive : (a b c : Scored) → ComesBefore a b → ComesBefore b c → ComesBefore a c
transitive a b c one two = (
  omega (arith, one.0, two.0),
  λ e.
      let first : b.score ≡ a.score = omega (arith, e, one.0, two.0) in
      let second : c.score ≡ b.score = omega (arith, e, one.0, two.0) in
      omega (arith, one.1 first, two.1 second),
)

-- one document comes before another that does not come before it
flip : (x f : Scored) → (ComesBefore x f → ⊥) → (f.id ≡ x.id → ⊥) → ComesBefore f x
flip x f no' other = elim (cases_lt f.score x.score) [
  | inl less ↦ absurd (no' (omega (arith, less), λ e. absurd (omega (arith, e, less))))
  | inr le ↦ (
    le,
    λ e. elim (cases_lt f.id x.id) [
      | inl lt ↦ lt
      | inr ge ↦ absurd (no' (omega (arith, e), λ e2. omega (arith, ge, other)))
    ],
  )
]

-- ---- one more document, which was not among them

module _ (One Next : Scored → Type 0) (k : ℕ) (x : Scored) (old : List Scored) (best : AreBest One k old) (fresh : (d : Scored) → One d → d.id ≡ x.id → ⊥)
    (at : ℕ) (position : IsPositionFor x old at) where
  abbrev longer : List Scored
  longer = insert old at x

  count : length longer ≡ length old + 1
  count = length-insert old at x position.within

  before_x : (i : ℕ) (d : Scored) → i < at → ComesBefore (get_or old i d) x
  before_x i d lt = flip x (get_or old i d) (position.before i d lt) (fresh (get_or old i d) (best.each i d (omega (arith, position.within, lt))))

  after_x : (i : ℕ) (d : Scored) → at ≤ i → i < length old → ComesBefore x (get_or old i d)
  after_x i d le lt = elim (cases_lt at i) [
    | inl above ↦ transitive x (get_or old at d) (get_or old i d) (position.here d (omega arith)) (best.ordered at i d above lt)
    | inr here ↦
        let same : i ≡ at = omega arith in
        rw same (position.here d (omega arith))
  ]

  -- where a document of the longer list was
  data Was (i : ℕ) (d : Scored) : Type 0 where
    below : i < at → get_or longer i d ≡ get_or old i d → Was i d
    here : i ≡ at → get_or longer i d ≡ x → Was i d
    above : at < i → get_or longer i d ≡ get_or old (i - 1) d → Was i d

  was : (i : ℕ) (d : Scored) → Was i d
  was i d = elim (cases_lt i at) [
    | inl lt ↦ below lt (get_or-insert_below old at x d i lt position.within)
    | inr le ↦ elim (cases_eq i at) [
      | inl same ↦ here same (ap (λ n. get_or longer n d) same ∙ get_or-insert_at old at x d position.within)
      | inr other ↦
          let one : i - 1 + 1 ≡ i = omega arith in
          above (omega arith) (ap (λ n. get_or longer n d) (sym one) ∙ get_or-insert_above old at x d (i - 1) (omega arith) position.within)
    ]
  ]

  ordered : (i j : ℕ) (d : Scored) → i < j → j < length longer → ComesBefore (get_or longer i d) (get_or longer j d)
  ordered i j d lt within = go (was i d) (was j d)
    where
      go : Was i d → Was j d → ComesBefore (get_or longer i d) (get_or longer j d)
      go (below a e) (below b f) = rw (e, f) (best.ordered i j d lt (omega (arith, position.within, b)))
      go (below a e) (here b f) = rw (e, f) (before_x i d a)
      go (below a e) (above b f) = rw (e, f) (best.ordered i (j - 1) d (omega arith) (omega (arith, count)))
      go (here a e) (below b f) = absurd (omega arith)
      go (here a e) (here b f) = absurd (omega arith)
      go (here a e) (above b f) = rw (e, f) (after_x (j - 1) d (omega arith) (omega (arith, count)))
      go (above a e) (below b f) = absurd (omega arith)
      go (above a e) (here b f) = absurd (omega arith)
      go (above a e) (above b f) = rw (e, f) (best.ordered (i - 1) (j - 1) d (omega arith) (omega (arith, count)))

  module _ (preserves : (d : Scored) → One d → Next d) (is : Next x) (splits : (d : Scored) → Next d → One d ⊎ (d ≡ x)) (new : List Scored)
      (size : length new ≡ min k (length old + 1)) (selected_at : (i : ℕ) (d : Scored) → i < length new → get_or new i d ≡ get_or longer i d) where
    each : (i : ℕ) (d : Scored) → i < length longer → Next (get_or longer i d)
    each i d lt = go (was i d)
      where
        go : Was i d → Next (get_or longer i d)
        go (below a e) = rw e (preserves _ (best.each i d (omega (arith, position.within))))
        go (here a e) = rw e is
        go (above a e) = rw e (preserves _ (best.each (i - 1) d (omega (arith, count))))

    abbrev Has : Scored → Type 0
    Has other = Contains new other ⊎ ((length new ≡ k) × All (λ one. ComesBefore one other) new)

    -- one that is at an index of the longer list
    at_index : (other : Scored) (m : ℕ) → m < length longer → get_or longer m other ≡ other → Has other
    at_index other m lt is = elim (cases_lt m k) [
      | inl inside ↦
          let short : m < length new = omega (arith, size, count) in
          inl (m, short, selected_at m other short ∙ is)
      | inr past ↦ inr (
        omega (arith, size, count),
        λ i d within.
            let order = ordered i m other (omega (arith, size)) lt in
            rw (selected_at i d within, get_or_default longer i d other (omega (arith, size))) (rw is at order),
      )
    ]

    others : (other : Scored) → Next other → Has other
    others other next = elim (splits other next) [
      | inr same ↦ at_index other at (omega (arith, count, position.within)) (get_or-insert_at old at x other position.within ∙ sym same)
      | inl one ↦ elim (best.others other one) [
        | inl has ↦
            let (m, lt, same) = has in
            elim (cases_lt m at) [
              | inl under ↦ at_index other m (omega (arith, count)) (get_or-insert_below old at x other m under position.within ∙ same)
              | inr over ↦ at_index other (m + 1) (omega (arith, count)) (get_or-insert_above old at x other m over position.within ∙ same)
            ]
        | inr after ↦ inr (omega (arith, size, after.0), λ i d lt. rw (selected_at i d lt) (comes i d (omega (arith, size, after.0)) after.1))
      ]
    ]
      where
        comes : (i : ℕ) (d : Scored) → i < length old → All (λ one. ComesBefore one other) old → ComesBefore (get_or longer i d) other
        comes i d lt after = go (was i d)
          where
            go : Was i d → ComesBefore (get_or longer i d) other
            go (below a e) = rw e (after i d lt)
            go (here a e) =
                let order = after_x at d (omega arith) (omega arith) in
                rw e (transitive x (get_or old at d) other order (after at d (omega arith)))
            go (above a e) = rw e (after (i - 1) d (omega arith))

    still_few : length new ≤ k
    still_few = omega (arith, size)

    still_ordered : (i j : ℕ) (d : Scored) → i < j → j < length new → ComesBefore (get_or new i d) (get_or new j d)
    still_ordered i j d lt within = rw (selected_at i d (omega arith), selected_at j d within) (ordered i j d lt (omega (arith, size, count)))

    best_inserted : AreBest Next k new
    best_inserted = record {
      few = still_few;
      each = λ i d lt. rw (selected_at i d lt) (each i d (omega (arith, size, count)));
      ordered = still_ordered;
      others = others;
    }

pub best_selected : (One Next : Scored → Type 0) (k : ℕ) (x : Scored) (old new : List Scored) → AreBest One k old → IsSelected k x old new
    → ((d : Scored) → One d → d.id ≡ x.id → ⊥) → ((d : Scored) → One d → Next d) → Next x → ((d : Scored) → Next d → One d ⊎ (d ≡ x)) → AreBest Next k new
best_selected One Next k x old new best selected fresh preserves is splits =
    best_inserted One Next k x old best fresh selected.at selected.position preserves is splits new selected.count selected.each

-- ---- others, each of which comes after one that comes after all

pub best_skipped : (One Next : Scored → Type 0) (k : ℕ) (found : List Scored) → AreBest One k found → ((d : Scored) → One d → Next d)
    → ((d : Scored) → Next d → One d ⊎ (x : Scored) × IsFull k x found × (x.id ≤ d.id) × (d.score ≤ x.score)) → AreBest Next k found
best_skipped One Next k found best preserves splits = record {
  few = best.few;
  each = λ i d lt. preserves _ (best.each i d lt);
  ordered = best.ordered;
  others = λ other next. elim (splits other next) [
    | inl one ↦ best.others other one
    | inr rest ↦
        let (x, full, low, high) = rest in
        inr (omega (arith, best.few, full.full), λ i d lt. comes x full other (low, high) i d lt)
  ];
}
  where
    after_last : (x : Scored) → IsFull k x found → (other : Scored) → (x.id ≤ other.id) × (other.score ≤ x.score) → (d : Scored) → 0 < k
        → ComesBefore (get_or found (length found - 1) d) other
    after_last x full other rest d some =
        let last = full.last d some in (
          omega (arith, last.0, rest.1),
          λ e. let same : x.score ≡ (get_or found (length found - 1) d).score = omega (arith, e, last.0, rest.1) in
              omega (arith, last.1 same, rest.0),
        )

    comes : (x : Scored) → IsFull k x found → (other : Scored) → (x.id ≤ other.id) × (other.score ≤ x.score) → (i : ℕ) (d : Scored) → i < length found
        → ComesBefore (get_or found i d) other
    comes x full other rest i d lt = elim (cases_lt i (length found - 1)) [
      | inl before ↦
          transitive (get_or found i d) (get_or found (length found - 1) d) other (best.ordered i (length found - 1) d before (omega arith))
          (after_last x full other rest d (omega (arith, best.few, lt)))
      | inr end ↦
          let same : i ≡ length found - 1 = omega arith in
          rw same (after_last x full other rest d (omega (arith, best.few, lt)))
    ]

-- the same documents, told otherwise
pub best_same : (One Next : Scored → Type 0) (k : ℕ) (found : List Scored) → AreBest One k found → ((d : Scored) → One d → Next d)
    → ((d : Scored) → Next d → One d) → AreBest Next k found
best_same One Next k found best preserves back = record {
  few = best.few;
  each = λ i d lt. preserves _ (best.each i d lt);
  ordered = best.ordered;
  others = λ other next. best.others other (back other next);
}

pub best_none : (One : Scored → Type 0) (k : ℕ) (found : List Scored) → length found ≡ 0 → ((d : Scored) → One d → ⊥) → AreBest One k found
best_none One k found none nothing = record {
  few = omega (arith, none);
  each = λ i d lt. absurd (omega (arith, none));
  ordered = λ i j d lt within. absurd (omega (arith, none));
  others = λ other one. absurd (nothing other one);
}
