-- The best stay so when more documents of a word are past: others cannot be among them, or there are none, or one is selected.
use Rattle.std.proofs.Common.{◌≡◌, ℕ, ◌+◌, ◌-◌, ◌<◌, ◌≤◌, ◌⊎◌, Bool, false, true, cond, leb, ltb, min, List, ◌∷◌, ◌++◌, length, get_or, map, take, drop, refl, subst, sym, ap, ◌∙◌, inl, inr, arith}
use Rattle.std.specs.Prelude.{◌||◌, ◌&&◌}
use Rattle.std.specs.List.{count_by, sum_by}
use Rattle.std.proofs.lemmas.Bool.{cases_lt, le-leb, le-ltb, leb-true, lt-ltb, ltb-true}
use Rattle.std.proofs.lemmas.List.{take-map, take_rest}
use Rattle.bitpack_ranked.specs.declared.found.Scored.{Scored}
use Rattle.bitpack_ranked.specs.Ranked.{AreBest, IsHit, IsScored, has_word, part_in, position_of}
use Rattle.bitpack_ranked.specs.Scores.{part_at}
use Rattle.bitpack_ranked.specs.Terms.{IsWord, Word}
use Rattle.bitpack_ranked.specs.inner.Selecting.{IsFull}
use Rattle.bitpack_ranked.specs.inner.Walks.{IsPast, IsPastIn}
use Rattle.bitpack_ranked.proofs.BestSteps.{best_none, best_same, best_skipped}
use Rattle.bitpack_ranked.proofs.ManySteps.{or_cases, or_first, or_second}
use Rattle.bitpack_ranked.proofs.PositionLemmas.{id_at}
use Rattle.bitpack_ranked.proofs.WordSteps.{enough_first, no_parts, split_words, sum_all, sum_more}

-- a hit that has none of the words before, and has the word at a position from one on that is below another
pub record IsFresh (before : List Word) (word : Word) (after : List Word) (classes : List ℕ) (at_least p q : ℕ) (d : Scored) : Type 0 where
  pub hit : IsHit (before ++ word ∷ after) classes at_least d
  pub none : count_by (has_word d.id) before ≡ 0
  pub from : p ≤ position_of word.ids d.id
  pub upto : position_of word.ids d.id < q
  pub within : position_of word.ids d.id < length word.ids

-- ---- both of two

pub both_true : (a b : Bool) → (a && b) ≡ true → (a ≡ true) × (b ≡ true)
both_true true b e = (refl, e)
both_true false b e = absurd cc

pub and_true : (a b : Bool) → a ≡ true → b ≡ true → (a && b) ≡ true
and_true true b e f = f
and_true false b e f = absurd cc

pub and_with : (a b : Bool) → b ≡ true → (a && b) ≡ a
and_with true b e = e
and_with false b e = refl

pub and_second : (a b : Bool) → (b ≡ true → a ≡ true) → (a && b) ≡ b
and_second true b first = refl
and_second false true first = first refl
and_second false false first = refl

pub and_false : (a b : Bool) → b ≡ false → (a && b) ≡ false
and_false true b e = e
and_false false b e = refl

or_false : (a b : Bool) → a ≡ false → b ≡ false → (a || b) ≡ false
or_false true b e f = absurd cc
or_false false b e f = f

-- ---- one word more or less far

module _ (before : List Word) (word : Word) (after : List Word) (is : IsWord word) (classes : List ℕ) (at_least k : ℕ) where
  abbrev Past : ℕ → Scored → Type 0
  Past position = IsPastIn before word after classes at_least position

  abbrev Fresh : ℕ → ℕ → Scored → Type 0
  Fresh p q = IsFresh before word after classes at_least p q

  further : (p q : ℕ) → p ≤ q → (d : Scored) → Past p d → Past q d
  further p q le d was = record {
    hit = was.hit;
    past = elim was.past [
      | inl some ↦ inl some
      | inr here ↦ inr (omega (arith, here.0, le), here.1)
    ];
  }

  split : (p q : ℕ) (d : Scored) → Past q d → Past p d ⊎ Fresh p q d
  split p q d was = elim was.past [
    | inl some ↦ inl (record { hit = was.hit; past = inl some })
    | inr here ↦ elim (cases_lt (position_of word.ids d.id) p) [
      | inl less ↦ inl (record { hit = was.hit; past = inr (less, here.1) })
      | inr more ↦ elim (cases_lt 0 (count_by (has_word d.id) before)) [
        | inl some ↦ inl (record { hit = was.hit; past = inl some })
        | inr few ↦ inr (record { hit = was.hit; none = omega (arith, few); from = more; upto = here.0; within = here.1 })
      ]
    ]
  ]

  part_here : (id : ℕ) → position_of word.ids id < length word.ids
      → part_in classes id word ≡ part_at word.table (get_or word.counts (position_of word.ids id) 0) (get_or classes id 0)
  part_here id within = rw (lt-ltb (position_of word.ids id) (length word.ids) within) refl

  adds : (p q : ℕ) (d : Scored) → Fresh p q d
      → d.score ≡ part_at word.table (get_or word.counts (position_of word.ids d.id) 0) (get_or classes d.id 0) + sum_by (part_in classes d.id) after
  adds p q d fresh =
      omega (arith, fresh.hit.adds_up, sum_all (part_in classes d.id) before word after, no_parts classes d.id before fresh.none, part_here d.id fresh.within)

  -- what a document at a position can have at most
  abbrev IsBelow : Scored → ℕ → Type 0
  IsBelow x i =
      (x.id ≤ get_or word.ids i 0)
      × (part_at word.table (get_or word.counts i 0) (get_or classes (get_or word.ids i 0) 0) + sum_by (part_in classes (get_or word.ids i 0)) after ≤ x.score)

  pub past_full : (found : List Scored) (p q : ℕ) (x : Scored) → p ≤ q → ((i : ℕ) → p ≤ i → i < q → i < length word.ids → IsBelow x i)
      → IsFull k x found → AreBest (Past p) k found → AreBest (Past q) k found
  past_full found p q x le most full best = best_skipped (Past p) (Past q) k found best (further p q le) (λ d was. elim (split p q d was) [
    | inl one ↦ inl one
    | inr fresh ↦
        let its = most (position_of word.ids d.id) fresh.from fresh.upto fresh.within in
        let same = id_at word.ids d.id fresh.within in
        let (id, score) = rw same at its in
        inr (x, full, id, omega (arith, score, adds p q d fresh))
  ])

  -- all documents of the word
  pub past_whole : (found : List Scored) (p : ℕ) → length word.ids ≤ p → AreBest (Past p) k found → AreBest (Past (length word.ids)) k found
  past_whole found p le best =
      best_same (Past p) (Past (length word.ids)) k found best (λ d was. record {
        hit = was.hit;
        past = elim was.past [
          | inl some ↦ inl some
          | inr here ↦ inr (here.1, here.1)
        ];
      }) (further (length word.ids) p le)

  -- ---- the same, as tests of ids

  abbrev pub its_words : List Word
  its_words = before ++ word ∷ after

  -- whether an id is of a document that has none of the words before, and has the word at a position from one on that is below another
  abbrev pub is_new : ℕ → ℕ → ℕ → Bool
  is_new p q id = ltb (count_by (has_word id) before) 1 && (leb p (position_of word.ids id) && ltb (position_of word.ids id) (min q (length word.ids)))

  abbrev pub has_enough : ℕ → Bool
  has_enough id = leb at_least (count_by (has_word id) its_words)

  abbrev pub is_fresh : ℕ → ℕ → ℕ → Bool
  is_fresh p q id = has_enough id && is_new p q id

  abbrev pub is_past : ℕ → ℕ → Bool
  is_past p id = has_enough id && (ltb 0 (count_by (has_word id) before) || ltb (position_of word.ids id) (min p (length word.ids)))

  pub new_from : (p q id : ℕ) → is_new p q id ≡ true
      → (count_by (has_word id) before ≡ 0) × (p ≤ position_of word.ids id) × (position_of word.ids id < q) × (position_of word.ids id < length word.ids)
  new_from p q id is =
      let (none, rest) =
      both_true (ltb (count_by (has_word id) before) 1) (leb p (position_of word.ids id) && ltb (position_of word.ids id) (min q (length word.ids))) is in
      let (from, upto) = both_true (leb p (position_of word.ids id)) (ltb (position_of word.ids id) (min q (length word.ids))) rest in
      let few = ltb-true (count_by (has_word id) before) 1 none in
      let below = ltb-true (position_of word.ids id) (min q (length word.ids)) upto in (
        omega (arith, few),
        leb-true p (position_of word.ids id) from,
        omega (arith, below),
        omega (arith, below),
      )

  pub is_new_at : (p q id : ℕ) → p ≤ position_of word.ids id → position_of word.ids id < q → position_of word.ids id < length word.ids
      → is_new p q id ≡ ltb (count_by (has_word id) before) 1
  is_new_at p q id from upto within =
      and_with (ltb (count_by (has_word id) before) 1) (leb p (position_of word.ids id) && ltb (position_of word.ids id) (min q (length word.ids)))
      (and_true (leb p (position_of word.ids id)) (ltb (position_of word.ids id) (min q (length word.ids))) (le-leb p (position_of word.ids id) from) (lt-ltb (position_of word.ids id) (min q (length word.ids)) (omega (arith, upto, within))))

  past_from : (p q : ℕ) → p ≤ q → (d : Scored) → IsScored (is_past p) its_words classes d → Past q d
  past_from p q le d was =
      let (enough, past) =
      both_true (has_enough d.id) (ltb 0 (count_by (has_word d.id) before) || ltb (position_of word.ids d.id) (min p (length word.ids))) was.passes in record {
        hit = record { enough = leb-true at_least (count_by (has_word d.id) its_words) enough; adds_up = was.adds_up };
        past = elim (or_cases (ltb 0 (count_by (has_word d.id) before)) (ltb (position_of word.ids d.id) (min p (length word.ids))) past) [
          | inl some ↦ inl (ltb-true 0 (count_by (has_word d.id) before) some)
          | inr here ↦
              let below = ltb-true (position_of word.ids d.id) (min p (length word.ids)) here in
              inr (omega (arith, below, le), omega (arith, below))
        ];
      }

  past_test : (p : ℕ) (d : Scored) → Past p d → is_past p d.id ≡ true
  past_test p d was = and_true (has_enough d.id) (ltb 0 (count_by (has_word d.id) before) || ltb (position_of word.ids d.id) (min p (length word.ids))) (le-leb at_least (count_by (has_word d.id) its_words) was.hit.enough) (elim was.past [
    | inl some ↦ or_first (ltb 0 (count_by (has_word d.id) before)) _ (lt-ltb 0 (count_by (has_word d.id) before) some)
    | inr here ↦
        or_second (ltb 0 (count_by (has_word d.id) before)) _ (lt-ltb (position_of word.ids d.id) (min p (length word.ids)) (omega (arith, here.0, here.1)))
  ])

  pub to_tests : (found : List Scored) (p : ℕ) → AreBest (Past p) k found → AreBest (IsScored (is_past p) its_words classes) k found
  to_tests found p best = best_same (Past p) (IsScored (is_past p) its_words classes) k found best
      (λ d was. record { passes = past_test p d was; adds_up = was.hit.adds_up }) (past_from p p (omega arith))

  pub from_tests : (found : List Scored) (p q : ℕ) → p ≤ q → AreBest (IsScored (λ id. is_past p id || is_fresh p q id) its_words classes) k found → AreBest (Past q) k found
  from_tests found p q le best = best_same (IsScored (λ id. is_past p id || is_fresh p q id) its_words classes) (Past q) k found best
      (λ d was. elim (or_cases (is_past p d.id) (is_fresh p q d.id) was.passes) [
        | inl past ↦ past_from p q le d (record { passes = past; adds_up = was.adds_up })
        | inr new ↦
            let (enough, rest) = both_true (has_enough d.id) (is_new p q d.id) new in
            let (none, from, upto, within) = new_from p q d.id rest in record {
              hit = record { enough = leb-true at_least (count_by (has_word d.id) its_words) enough; adds_up = was.adds_up };
              past = inr (upto, within);
            }
      ])
      (λ d was. record {
        passes = elim (split p q d was) [
          | inl past ↦ or_first (is_past p d.id) _ (past_test p d past)
          | inr new ↦ or_second (is_past p d.id) _ (and_true (has_enough d.id) (is_new p q d.id) (le-leb at_least (count_by (has_word d.id) its_words) new.hit.enough)
              (is_new_at p q d.id new.from new.upto new.within ∙ lt-ltb (count_by (has_word d.id) before) 1 (omega (arith, new.none))))
        ];
        adds_up = was.hit.adds_up;
      })

  pub fresh_not_past : (p q id : ℕ) → is_fresh p q id ≡ true → is_past p id ≡ false
  fresh_not_past p q id is =
      let (enough, rest) = both_true (has_enough id) (is_new p q id) is in
      let (none, from, upto, within) = new_from p q id rest in
      and_false (has_enough id) (ltb 0 (count_by (has_word id) before) || ltb (position_of word.ids id) (min p (length word.ids)))
      (or_false (ltb 0 (count_by (has_word id) before)) (ltb (position_of word.ids id) (min p (length word.ids))) (le-ltb 0 (count_by (has_word id) before) (omega (arith, none)))
      (le-ltb (position_of word.ids id) (min p (length word.ids)) (omega (arith, from))))

  -- it has one word more than of those after
  pub count_new : (p q id : ℕ) → is_new p q id ≡ true → count_by (has_word id) its_words ≡ 1 + count_by (has_word id) after
  count_new p q id is =
      let (none, from, upto, within) = new_from p q id is in
      let one : ◌≡◌ {A = ℕ} (cond (has_word id word) 1 0) 1 = rw (lt-ltb (position_of word.ids id) (length word.ids) within) refl in
      omega (arith, none, one, sum_all (λ t. cond (has_word id t) 1 0) before word after)

-- ---- the words of a query, one after the other

module _ {T : Type 0} (f : T → Word) (ts : List T) (i : ℕ) (x : T) (it : x ≡ get_or ts i x) (lt : i < length ts) (classes : List ℕ) (at_least k : ℕ)
    (found : List Scored) where
  abbrev PastWords : ℕ → Scored → Type 0
  PastWords n = IsPast (map f ts) classes at_least n

  abbrev behind : List T
  behind = take (length ts - (i + 1)) (drop (i + 1) ts)

  abbrev PastOne : ℕ → Scored → Type 0
  PastOne position = IsPastIn (map f (take i ts)) (f x) (map f behind) classes at_least position

  all : map f (take i ts) ++ f x ∷ map f behind ≡ map f ts
  all = ap (λ l. map f (take i ts) ++ f x ∷ map f l) (take_rest ts (i + 1)) ∙ split_words f ts i x it lt

  counts : (id : ℕ) → count_by (has_word id) (take i (map f ts)) ≡ count_by (has_word id) (map f (take i ts))
  counts id = ap (λ ws. count_by (has_word id) ws) (take-map f i ts)

  pub word_begins : AreBest (PastWords i) k found → AreBest (PastOne 0) k found
  word_begins best =
      best_same (PastWords i) (PastOne 0) k found best (λ d was. record {
        hit = subst (λ ws. IsHit ws classes at_least d) (sym all) was.hit;
        past = inl (omega (arith, was.past, counts d.id));
      }) (λ d was. record {
        hit = subst (λ ws. IsHit ws classes at_least d) all was.hit;
        past = elim was.past [
          | inl some ↦ omega (arith, some, counts d.id)
          | inr here ↦ absurd (omega (arith, here.0))
        ];
      })

  pub word_ends : AreBest (PastOne (length (f x).ids)) k found → AreBest (PastWords (i + 1)) k found
  word_ends best =
      best_same (PastOne (length (f x).ids)) (PastWords (i + 1)) k found best (λ d was. record {
        hit = subst (λ ws. IsHit ws classes at_least d) all was.hit;
        past = elim was.past [
          | inl some ↦ omega (arith, some, counts d.id, more d)
          | inr here ↦
              let one : ◌≡◌ {A = ℕ} (cond (has_word d.id (f x)) 1 0) 1 = rw (lt-ltb (position_of (f x).ids d.id) (length (f x).ids) here.1) refl in
              omega (arith, one, more d)
        ];
      }) (λ d was. record {
        hit = subst (λ ws. IsHit ws classes at_least d) (sym all) was.hit;
        past = elim (cases_lt (position_of (f x).ids d.id) (length (f x).ids)) [
          | inl here ↦ inr (here, here)
          | inr lacks ↦
              let none : ◌≡◌ {A = ℕ} (cond (has_word d.id (f x)) 1 0) 0 = rw (le-ltb (position_of (f x).ids d.id) (length (f x).ids) lacks) refl in
              inl (omega (arith, was.past, none, counts d.id, more d))
        ];
      })
    where
      more : (d : Scored) → count_by (has_word d.id) (take (i + 1) (map f ts)) ≡ count_by (has_word d.id) (take i (map f ts)) + cond (has_word d.id (f x)) 1 0
      more d = sum_more f ts i x it lt (λ t. cond (has_word d.id t) 1 0)

pub none_past : (words : List Word) (classes : List ℕ) (at_least k : ℕ) (found : List Scored) → length found ≡ 0 → AreBest (IsPast words classes at_least 0) k found
none_past words classes at_least k found none = best_none (IsPast words classes at_least 0) k found none (λ d was. omega (arith, was.past))

pub all_past : (words : List Word) (classes : List ℕ) (at_least k first : ℕ) (found : List Scored) → 1 ≤ at_least → first ≡ length words + 1 - at_least
    → AreBest (IsPast words classes at_least first) k found → AreBest (IsHit words classes at_least) k found
all_past words classes at_least k first found some is best =
    best_same (IsPast words classes at_least first) (IsHit words classes at_least) k found best (λ d was. was.hit)
    (λ d hit. record { hit = hit; past = enough_first (has_word d.id) words first at_least some is hit.enough })
