-- One document more is retained with its score, or left out.
use Rattle.std.proofs.Common.{◌≡◌, ℕ, ◌+◌, ◌<◌, ◌≤◌, List, length, get_or, set, refl, sym, ap, ◌∙◌, subst, inl, inr, arith}
use Rattle.std.proofs.lemmas.Bool.{cases_eq, cases_lt}
use Rattle.std.proofs.lemmas.List.{get_or-set_other, get_or-set_same}
use Rattle.bitpack_ranked.specs.inner.Candidates.{AreMarked, AreRetained, IsThere, Rise}

module _ (IsGone : ℕ → Type 0) (old_ids old_scores : List ℕ) (i : ℕ) (ids scores : List ℕ) (n : ℕ) (le : n ≤ i) (in_ids : i < length ids) (in_scores : i < length scores)
    (id : get_or ids i 0 ≡ get_or old_ids i 0) (score : get_or scores i 0 ≡ get_or old_scores i 0) (done : AreRetained IsGone old_ids old_scores i ids scores n) where
  abbrev new_ids : List ℕ
  new_ids = set ids n (get_or ids i 0)

  abbrev new_scores : List ℕ
  new_scores = set scores n (get_or scores i 0)

  earlier : (j : ℕ) → j < n → (get_or new_ids j 0 ≡ get_or ids j 0) × (get_or new_scores j 0 ≡ get_or scores j 0)
  earlier j lt = (
    get_or-set_other ids n j (get_or ids i 0) 0 (λ e. omega (arith, e, lt)),
    get_or-set_other scores n j (get_or scores i 0) 0 (λ e. omega (arith, e, lt)),
  )

  last : (get_or new_ids n 0 ≡ get_or old_ids i 0) × (get_or new_scores n 0 ≡ get_or old_scores i 0)
  last = (
    get_or-set_same ids n (get_or ids i 0) 0 (omega (arith, le, in_ids)) ∙ id,
    get_or-set_same scores n (get_or scores i 0) 0 (omega (arith, le, in_scores)) ∙ score,
  )

  abbrev From : ℕ → Type 0
  From j = (p : ℕ) × (p < i + 1) × (get_or old_ids p 0 ≡ get_or new_ids j 0) × (get_or old_scores p 0 ≡ get_or new_scores j 0)

  from_earlier : (j : ℕ) → j < n → From j
  from_earlier j lt =
      let (p, less, its, has) = done.from j lt in
      let (same, also) = earlier j lt in
      (p, omega (arith, less), its ∙ sym same, has ∙ sym also)

  rise_earlier : Rise old_ids (i + 1) → Rise new_ids n
  rise_earlier rises a b less upto =
      let was = done.rise (λ x y l u. rises x y l (omega (arith, u))) a b less upto in
      omega (arith, was, (earlier a (omega (arith, less, upto))).0, (earlier b upto).0)

  there_earlier : (m p : ℕ) → n ≤ m → IsThere ids n (get_or old_ids p 0) → IsThere new_ids m (get_or old_ids p 0)
  there_earlier m p few there =
      let (j, lt, same) = there in
      (j, omega (arith, lt, few), (earlier j lt).0 ∙ same)

  one_out : IsGone i → AreRetained IsGone old_ids old_scores (i + 1) new_ids new_scores n
  one_out gone = record {
    from = from_earlier;
    rise = rise_earlier;
    others = λ p upto. elim (cases_eq p i) [
      | inl at ↦ inr (subst IsGone (sym at) gone)
      | inr other ↦ elim (done.others p (omega (arith, upto, other))) [
        | inl there ↦ inl (there_earlier n p (omega arith) there)
        | inr out ↦ inr out
      ]
    ];
  }

  one_in : AreRetained IsGone old_ids old_scores (i + 1) new_ids new_scores (n + 1)
  one_in = record {
    from = λ j upto. elim (cases_lt j n) [
      | inl lt ↦ from_earlier j lt
      | inr end ↦
          let at : n ≡ j = omega (arith, end, upto) in
          subst From at (i, omega arith, sym last.0, sym last.1)
    ];
    rise = λ rises a b less upto. elim (cases_lt b n) [
      | inl lt ↦ rise_earlier rises a b less lt
      | inr end ↦
          let at : b ≡ n = omega (arith, end, upto) in
          let (p, low, its, has) = done.from a (omega (arith, less, at)) in
          omega (arith, ap (λ m. get_or new_ids m 0) at, last.0, (earlier a (omega (arith, less, at))).0, its, rises p i low (omega arith))
    ];
    others = λ p upto. elim (cases_eq p i) [
      | inl at ↦ inl (n, omega arith, last.0 ∙ ap (λ m. get_or old_ids m 0) (sym at))
      | inr other ↦ elim (done.others p (omega (arith, upto, other))) [
        | inl there ↦ inl (there_earlier (n + 1) p (omega arith) there)
        | inr out ↦ inr out
      ]
    ];
  }

  pub retained_more : (m : ℕ) → m ≤ 1 → (m ≡ 0 → IsGone i) → AreRetained IsGone old_ids old_scores (i + 1) new_ids new_scores (n + m)
  retained_more m few gone = elim (cases_eq m 0) [
    | inl none ↦
        let same : n ≡ n + m = omega (arith, none) in
        subst (λ k. AreRetained IsGone old_ids old_scores (i + 1) new_ids new_scores k) same (one_out (gone none))
    | inr some ↦
        let same : n + 1 ≡ n + m = omega (arith, some, few) in
        subst (λ k. AreRetained IsGone old_ids old_scores (i + 1) new_ids new_scores k) same one_in
  ]

  pub marked_more : (IsOne : ℕ → Type 0) (m : ℕ) → m ≤ 1 → (m ≡ 1 → IsOne i) → AreMarked IsOne old_ids i ids n → AreMarked IsOne old_ids (i + 1) new_ids (n + m)
  marked_more IsOne m few one marked j upto = elim (cases_lt j n) [
    | inl lt ↦
        let (p, less, its, is) = marked j lt in
        (p, omega (arith, less), its ∙ sym (earlier j lt).0, is)
    | inr end ↦
        let at : n ≡ j = omega (arith, end, upto, few) in
        (i, omega arith, sym last.0 ∙ ap (λ m. get_or new_ids m 0) at, one (omega (arith, end, upto, few)))
  ]

-- what is known of the others is said in another way
pub retained_as : (IsGone IsOut : ℕ → Type 0) (ids scores : List ℕ) (len : ℕ) (its also : List ℕ) (n : ℕ) → ((p : ℕ) → p < len → IsGone p → IsOut p)
    → AreRetained IsGone ids scores len its also n → AreRetained IsOut ids scores len its also n
retained_as IsGone IsOut ids scores len its also n implies done = record {
  from = done.from;
  rise = done.rise;
  others = λ p lt. elim (done.others p lt) [
    | inl there ↦ inl there
    | inr gone ↦ inr (implies p lt gone)
  ];
}

-- all are retained
pub retained_all : (IsGone : ℕ → Type 0) (ids scores : List ℕ) (len : ℕ) → AreRetained IsGone ids scores len ids scores len
retained_all IsGone ids scores len = record {
  from = λ j lt. (j, lt, refl, refl);
  rise = λ rises. rises;
  others = λ p lt. inl (p, lt, refl);
}
