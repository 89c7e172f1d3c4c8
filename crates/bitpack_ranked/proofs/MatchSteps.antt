-- One id more is looked for among those of some that pass a test.
use Rattle.std.proofs.Common.{◌≡◌, ℕ, ◌+◌, ◌<◌, ◌≤◌, Bool, false, true, cond, List, ◌∷◌, length, get_or, drop, refl, subst, sym, ap, ◌∙◌, inl, inr, arith}
use Rattle.std.specs.List.{filter}
use Rattle.std.proofs.lemmas.Bool.{cases_eq}
use Rattle.std.proofs.lemmas.List.{drop_more, get_or-drop, length-drop}
use Rattle.std.proofs.lemmas.List.Elements.{filter_passes}

module _ (p : ℕ → Bool) (common ids : List ℕ) (next index more : ℕ) (lt : index < length ids) (same : drop next common ≡ filter p (drop index ids))
    (there : more ≡ 1 → (next < length common) × (get_or common next 0 ≡ get_or ids index 0))
    (lacking : more ≡ 0 → next < length common → get_or common next 0 ≡ get_or ids index 0 → ⊥) (few : more ≤ 1) where
  abbrev x : ℕ
  x = get_or ids index 0

  abbrev rest : List ℕ
  rest = drop (index + 1) ids

  opened : drop next common ≡ cond (p x) (x ∷ filter p rest) (filter p rest)
  opened = same ∙ ap (filter p) (drop_more ids index 0 lt)

  abbrev Goal : Type 0
  Goal = (more ≡ cond (p x) 1 0) × (drop (next + more) common ≡ filter p rest)

  passes : p x ≡ true → Goal
  passes e =
      let is : drop next common ≡ x ∷ filter p rest = opened ∙ ap (λ b. cond b (x ∷ filter p rest) (filter p rest)) e in
      let within : next < length common = omega (arith, ap length is, length-drop next common) in
      let parts : get_or common next 0 ∷ drop (next + 1) common ≡ x ∷ filter p rest = sym (drop_more common next 0 within) ∙ is in
      let head : get_or common next 0 ≡ x = ap (λ l. get_or l 0 0) parts in
      let one : more ≡ 1 = elim (cases_eq more 0) [
        | inl none ↦ absurd (lacking none within head)
        | inr some ↦ omega (arith, some, few)
      ] in (
        one ∙ sym (ap (λ b. cond b 1 0) e),
        subst (λ n. drop (next + n) common ≡ filter p rest) (sym one) (ap (λ l. drop 1 l) parts),
      )

  fails : p x ≡ false → Goal
  fails e =
      let is : drop next common ≡ filter p rest = opened ∙ ap (λ b. cond b (x ∷ filter p rest) (filter p rest)) e in
      let zero : more ≡ 0 = elim (cases_eq more 0) [
        | inl none ↦ none
        | inr some ↦
            let its = there (omega (arith, some, few)) in
            let within : 0 < length (filter p rest) = omega (arith, its.0, ap length is, length-drop next common) in
            let first : get_or (filter p rest) 0 0 ≡ x =
            sym (ap (λ l. get_or l 0 0) is) ∙ get_or-drop next common 0 0 ∙ ap (λ n. get_or common n 0) (let e : next + 0 ≡ next = omega arith in e) ∙ its.1 in
            let no' : true ≡ false = sym (filter_passes p rest 0 0 within) ∙ ap p first ∙ e in
            absurd cc
      ] in (
        zero ∙ sym (ap (λ b. cond b 1 0) e),
        subst (λ n. drop n common ≡ filter p rest) (let e : next ≡ next + more = omega (arith, zero) in e) is,
      )

  pub one_more : Goal
  one_more = go (p x) refl
    where
      go : (b : Bool) → p x ≡ b → Goal
      go true e = passes e
      go false e = fails e
