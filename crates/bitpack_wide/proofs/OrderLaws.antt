-- Ids are tested one after the other, and their high words are counted.
use Rattle.std.proofs.Common.{◌≡◌, ◌≢◌, ℕ, ◌+◌, ◌-◌, ◌*◌, ◌/◌, ◌%◌, ◌^◌, ◌<◌, ◌≤◌, min, List, [], ◌∷◌, drop, get_or, length, take, None, refl, sym, ap, ◌∙◌, arith, inl, inr, subst}
use Rattle.std.proofs.lemmas.Bool.Decides.{eqb_tells}
use Rattle.std.proofs.lemmas.List.{get_or-drop, get_or-take}
use Rattle.bitpack_slices.specs.Slices.{first_fall}
use Rattle.bitpack_sets.proofs.ForCallers.{Counted, counted_other, counted_same}
use Rattle.bitpack_wide.specs.Reads.{paired}
use Rattle.bitpack_wide.specs.Wide.{words_of}
use Rattle.bitpack_slices.specs.Bodies.{parts}
use Rattle.bitpack_wide.specs.inner.Parts.{IsPart}

-- values that are copied from the first of a part on
pub part_copied : (position room count : ℕ) (values unpacked : List ℕ) → position % 1024 ≡ 0 → room ≡ 1024 → count ≡ min room (length values - position)
    → take count unpacked ≡ take count (drop position values) → IsPart values (position / 1024) unpacked
part_copied position room count values unpacked whole long size same k lt within =
    let at : 1024 * (position / 1024) ≡ position = omega arith in
    let less : k < count = omega arith in
    sym (get_or-take count unpacked k 0 less) ∙ ap (λ (l : List ℕ). get_or l k 0) same ∙ get_or-take count (drop position values) k 0 less
    ∙ get_or-drop position values k 0 ∙ ap (λ (n : ℕ). get_or values (n + k) 0) (sym at)

-- no id, no high word
pub none_fall : (hs ls : List ℕ) → hs ≡ [] → (first_fall 0 (paired hs ls) ≡ None) × (length (words_of (paired hs ls)) ≡ 0)
unfolding paired first_fall parts
none_fall [] ls e = (refl, refl)
none_fall (h ∷ hs) ls e = cc

pub one_more : (words i high before change : ℕ) (xs : List ℕ) → 1 ≤ i → i < length xs → high ≡ get_or xs i 0 / 2 ^ 32 → before ≡ get_or xs (i - 1) 0 / 2 ^ 32
    → (high ≡ before → change ≡ 0) → (high ≢ before → change ≡ 1) → words ≤ i → Counted (2 ^ 32) words i xs → (words + change ≤ i + 1) × Counted (2 ^ 32) (words + change) (i + 1) xs
one_more words i high before change xs some lt e f same other few so_far = elim (eqb_tells high before) [
  | inl (equal, is) ↦
      let none = same is in
      let there = counted_same (2 ^ 32) words i xs some lt (sym e ∙ is ∙ f) so_far in
      let unchanged : words ≡ words + change = omega arith in
      (omega arith, subst (λ (n : ℕ). Counted (2 ^ 32) n (i + 1) xs) unchanged there)
  | inr (differs, isnt) ↦
      let one = other isnt in
      let there = counted_other (2 ^ 32) words i xs some lt (λ g. isnt (e ∙ g ∙ sym f)) so_far in
      let grows : words + 1 ≡ words + change = omega arith in
      (omega arith, subst (λ (n : ℕ). Counted (2 ^ 32) n (i + 1) xs) grows there)
]
