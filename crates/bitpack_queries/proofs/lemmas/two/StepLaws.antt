-- A step of the union in an array: the ids below the next one of the set are moved, and then this one is written.
use Rattle.std.proofs.Common.{◌≡◌, ◌≢◌, ℕ, zero, suc, ◌+◌, ◌<◌, ◌≤◌, Bool, true, false, List, [], ◌∷◌, ◌++◌, length, take, drop, set, get_or, refl, sym, ap, subst, ◌∙◌, arith}
use mir.Val.{bool_byte}
use Rattle.std.proofs.lemmas.List.{drop-drop, drop-set-lt, drop_more, get_or-drop, length-drop, length-take-le, take-append-drop, take_more_set}
use Rattle.bitpack_slices.proofs.ForCallers.{Below}
use Rattle.bitpack_queries.proofs.lemmas.two.RetainedLaws.{IsMoved}
use Rattle.bitpack_queries.proofs.lemmas.two.UnitedLaws.{IsUniting, not_read, other_done, passed, shared_done}

below_taken : (bound n : ℕ) (xs : List ℕ) → ((k : ℕ) → k < n → get_or xs k 0 < bound) → Below bound (take n xs)
below_taken bound zero xs h = tt
below_taken bound (suc n) [] h = tt
below_taken bound (suc n) (x ∷ xs) h = (h 0 (omega arith), below_taken bound n xs (λ k lt. h (suc k) (omega arith)))

at_next : (own ids out out' left : List ℕ) (written from moved id : ℕ) → IsUniting own ids (take written out) (drop from out) (id ∷ left) written from
    → IsMoved id written from out out' moved → IsUniting own ids (take (written + moved) out') (drop (from + moved) out') (id ∷ left) (written + moved) (from + moved)
at_next own ids out out' left written from moved id so m =
    let block : List ℕ = take moved (drop from out) in
    let later : List ℕ = drop (from + moved) out' in
    let split : drop from out ≡ block ++ later =
    sym (ap (λ (xs : List ℕ). block ++ xs) (m.rest ∙ sym (drop-drop moved from out)) ∙ take-append-drop moved (drop from out)) in
    let within = m.within in
    let room : moved ≤ length (drop from out) = (let cut = length-drop from out in omega arith) in
    let size : length block ≡ moved = length-take-le moved (drop from out) room in
    let less : Below id block = below_taken id moved (drop from out) (λ k lt. (let e = get_or-drop from out k 0 in let b = m.below k lt in omega arith)) in
    let next = passed own ids (take written out) block later left written from id
    (subst (λ (xs : List ℕ). IsUniting own ids (take written out) xs (id ∷ left) written from) split so) less in
    subst (λ (n : ℕ). IsUniting own ids (take (written + moved) out') later (id ∷ left) (written + n) (from + n)) size
    (subst (λ (xs : List ℕ). IsUniting own ids xs later (id ∷ left) (written + length block) (from + length block)) (sym m.front) next)

-- an id is written, and what is left is as it was
pub record IsWritten (own ids out left : List ℕ) (written from id : ℕ) : Type 0 where
  pub free : written < from
  pub within : from ≤ length out
  pub so : IsUniting own ids (take (written + 1) (set out written id)) (drop from (set out written id)) left (written + 1) from

written_so : (own ids out left : List ℕ) (written from id : ℕ) → written < from → from ≤ length out
    → IsUniting own ids (take written out ++ (id ∷ [])) (drop from out) left (written + 1) from → IsWritten own ids out left written from id
written_so own ids out left written from id free within so = record {
  free = free;
  within = within;
  so =
      subst (λ (xs : List ℕ). IsUniting own ids xs (drop from (set out written id)) left (written + 1) from) (sym (take_more_set out written id (omega arith)))
      (subst (λ (xs : List ℕ). IsUniting own ids (take written out ++ (id ∷ [])) xs left (written + 1) from) (sym (drop-set-lt from out written id free)) so);
}

id_written : (own ids out left : List ℕ) (written from id : ℕ) (there : Bool) → IsUniting own ids (take written out) (drop from out) (id ∷ left) written from
    → from ≤ length out → (from < length out → id ≤ get_or out from 0) → (there ≡ true → (from < length out) × (get_or out from 0 ≡ id))
    → (there ≡ false → from < length out → get_or out from 0 ≢ id) → IsWritten own ids out left written (from + bool_byte there) id
id_written own ids out left written from id true so within reached is lacks =
    let (less, e) = is refl in
    let next : drop from out ≡ id ∷ drop (from + 1) out = drop_more out from 0 less ∙ ap (λ (x : ℕ). x ∷ drop (from + 1) out) e in
    let behind = not_read own ids (take written out) (drop from out) (id ∷ left) written from so in
    written_so own ids out left written (from + 1) id (omega arith) (omega arith)
    (shared_done own ids (take written out) (drop (from + 1) out) left written from id
    (subst (λ (xs : List ℕ). IsUniting own ids (take written out) xs (id ∷ left) written from) next so))
id_written own ids out left written from id false so within reached is lacks =
    let same : from + 0 ≡ from = omega arith in
    let more : 0 < length (drop from out) → id < get_or (drop from out) 0 0 = λ h.
    (let cut = length-drop from out in
    let less : from < length out = omega arith in
    let first : get_or (drop from out) 0 0 ≡ get_or out from 0 = get_or-drop from out 0 0 ∙ ap (λ (k : ℕ). get_or out k 0) same in
    let least = reached less in
    let apart = lacks refl less in
    omega arith) in
    let so' = other_done own ids (take written out) (drop from out) left written from id so more in
    let behind : written + 1 ≤ from = not_read own ids (take written out ++ (id ∷ [])) (drop from out) left (written + 1) from so' in
    subst (λ (k : ℕ). IsWritten own ids out left written k id) (sym same) (written_so own ids out left written from id (omega arith) within so')

pub step : (own ids out out' left : List ℕ) (written from moved id : ℕ) (there : Bool) → IsUniting own ids (take written out) (drop from out) (id ∷ left) written from
    → IsMoved id written from out out' moved → (from + moved < length out → id ≤ get_or out (from + moved) 0)
    → (there ≡ true → (from + moved < length out') × (get_or out' (from + moved) 0 ≡ id))
    → (there ≡ false → from + moved < length out' → get_or out' (from + moved) 0 ≢ id)
    → IsWritten own ids out' left (written + moved) (from + moved + bool_byte there) id
step own ids out out' left written from moved id there so m reached is lacks =
    let within = m.within in
    let long = m.long in
    let zero_more : (from + moved) + 0 ≡ from + moved = omega arith in
    let same : get_or out' (from + moved) 0 ≡ get_or out (from + moved) 0 =
    ap (λ (k : ℕ). get_or out' k 0) (sym zero_more) ∙ sym (get_or-drop (from + moved) out' 0 0) ∙ ap (λ (xs : List ℕ). get_or xs 0 0) m.rest ∙ get_or-drop (from + moved) out 0 0
    ∙ ap (λ (k : ℕ). get_or out k 0) zero_more in
    id_written own ids out' left (written + moved) (from + moved) id there (at_next own ids out out' left written from moved id so m) (omega arith)
    (λ h. (let least = reached (omega arith) in omega arith)) is lacks
