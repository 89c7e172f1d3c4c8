-- What is retained of the ids of an array, and its union with a set, in its place.
use Rattle.std.proofs.Common.{◌≡◌, ℕ, ◌+◌, ◌<◌, ◌≤◌, Bool, true, false, not, cond, List, [], ◌∷◌, ◌++◌, length, take, drop, set, get_or, refl, sym, ap, ◌∙◌, arith, append-nil, append_assoc, below_more}
use Rattle.std.specs.List.{filter}
use mathlib.Core.Bool.{beq}
use mir.Val.{bool_byte}
use Rattle.std.proofs.lemmas.List.{drop-drop, drop-set-lt, get_or-drop, length-drop, length-set, take_more, take_more_set, take-set}
use Rattle.std.proofs.lemmas.List.Elements.{filter-append}
use Rattle.bitpack_queries.specs.Retained.{IsRetained, retains}
use Rattle.bitpack_slices.specs.Reads.{has}
use Rattle.bitpack_slices.proofs.ForCallers.{known}

-- ---- what is retained

pub same_at : (old new : List ℕ) (index : ℕ) → drop index new ≡ drop index old → get_or new index 0 ≡ get_or old index 0
same_at old new index e =
    let zero_more : index + 0 ≡ index = omega arith in
    ap (λ (k : ℕ). get_or new k 0) (sym zero_more) ∙ sym (get_or-drop index new 0 0) ∙ ap (λ (xs : List ℕ). get_or xs 0 0) e ∙ get_or-drop index old 0 0
    ∙ ap (λ (k : ℕ). get_or old k 0) zero_more

pub next_same : (old new : List ℕ) (index : ℕ) → drop index new ≡ drop index old → drop (index + 1) new ≡ drop (index + 1) old
next_same old new index e = sym (drop-drop 1 index new) ∙ ap (drop 1) e ∙ drop-drop 1 index old

retain_one : (test : ℕ → Bool) (t : Bool) (old new : List ℕ) (retained index x : ℕ) → IsRetained test old new retained index → index < length old → x ≡ get_or new index 0 → t ≡ test x
    → IsRetained test old (set new retained x) (retained + bool_byte t) (index + 1)
retain_one test true old new retained index x so h e t = record {
  front =
      take_more_set new retained x (let b = so.behind in let l = so.long in omega arith)
      ∙ ap (λ (xs : List ℕ). xs ++ (x ∷ [])) so.front
      ∙ ap (λ (b : Bool). filter test (take index old) ++ cond b (x ∷ []) []) t
      ∙ ap (λ (y : ℕ). filter test (take index old) ++ filter test (y ∷ [])) (e ∙ same_at old new index so.rest)
      ∙ sym (filter-append test (take index old) (get_or old index 0 ∷ []))
      ∙ sym (ap (filter test) (take_more old index 0 h));
  rest = drop-set-lt (index + 1) new retained x (let b = so.behind in omega arith) ∙ next_same old new index so.rest;
  behind = (let b = so.behind in omega arith);
  long = length-set new retained x ∙ so.long;
}
retain_one test false old new retained index x so h e t = record {
  front =
      (let zero_more : retained + 0 ≡ retained = omega arith in
      ap (λ (k : ℕ). take k (set new retained x)) zero_more ∙ take-set new retained x ∙ so.front
      ∙ sym (append-nil (filter test (take index old)))
      ∙ ap (λ (b : Bool). filter test (take index old) ++ cond b (x ∷ []) []) t
      ∙ ap (λ (y : ℕ). filter test (take index old) ++ filter test (y ∷ [])) (e ∙ same_at old new index so.rest)
      ∙ sym (filter-append test (take index old) (get_or old index 0 ∷ []))
      ∙ sym (ap (filter test) (take_more old index 0 h)));
  rest = drop-set-lt (index + 1) new retained x (let b = so.behind in omega arith) ∙ next_same old new index so.rest;
  behind = (let b = so.behind in omega arith);
  long = length-set new retained x ∙ so.long;
}

pub retain_more : (there b : Bool) (xs old new : List ℕ) (retained index : ℕ) → IsRetained (retains there xs) old new retained index → index < length old → b ≡ has (get_or new index 0) xs
    → IsRetained (retains there xs) old (set new retained (get_or new index 0)) (retained + bool_byte (beq b there)) (index + 1)
retain_more there b xs old new retained index so h e =
    retain_one (retains there xs) (beq b there) old new retained index (get_or new index 0) so h refl (known there b ∙ ap (λ (c : Bool). cond there c (not c)) e)

-- ---- the ids below another are moved

-- some ids from an index on are moved to those written; they are below an id
pub record IsMoved (id written from : ℕ) (old new : List ℕ) (moved : ℕ) : Type 0 where
  pub front : take (written + moved) new ≡ take written old ++ take moved (drop from old)
  pub rest : drop (from + moved) new ≡ drop (from + moved) old
  pub below : (k : ℕ) → k < moved → get_or old (from + k) 0 < id
  pub within : from + moved ≤ length old
  pub long : length new ≡ length old

-- none is moved
pub none_moved : (id written from : ℕ) (old : List ℕ) → from ≤ length old → IsMoved id written from old old 0
none_moved id written from old h = record {
  front = (let e : written + 0 ≡ written = omega arith in ap (λ (k : ℕ). take k old) e ∙ sym (append-nil (take written old)));
  rest = refl;
  below = λ k lt. absurd (omega arith);
  within = omega arith;
  long = refl;
}

-- one more is moved
pub one_moved : (id written from : ℕ) (old new : List ℕ) (moved : ℕ) → IsMoved id written from old new moved → written ≤ from → from + moved < length new
    → get_or new (from + moved) 0 < id → IsMoved id written from old (set new (written + moved) (get_or new (from + moved) 0)) (moved + 1)
one_moved id written from old new moved so behind h less =
    let long = so.long in
    let same = same_at old new (from + moved) so.rest in
    let next : (from + moved) + 1 ≡ from + (moved + 1) = omega arith in
    let position : (written + moved) + 1 ≡ written + (moved + 1) = omega arith in
    record {
      front =
          ap (λ (k : ℕ). take k (set new (written + moved) (get_or new (from + moved) 0))) (sym position)
          ∙ take_more_set new (written + moved) (get_or new (from + moved) 0) (omega arith)
          ∙ ap (λ (xs : List ℕ). xs ++ (get_or new (from + moved) 0 ∷ [])) so.front
          ∙ append_assoc (take written old) (take moved (drop from old)) (get_or new (from + moved) 0 ∷ [])
          ∙ ap (λ (xs : List ℕ). take written old ++ xs)
          (ap (λ (x : ℕ). take moved (drop from old) ++ (x ∷ [])) (same ∙ sym (get_or-drop from old moved 0))
          ∙ sym (take_more (drop from old) moved 0 (let cut = length-drop from old in omega arith)));
      rest =
          ap (λ (k : ℕ). drop k (set new (written + moved) (get_or new (from + moved) 0))) (sym next)
          ∙ drop-set-lt ((from + moved) + 1) new (written + moved) (get_or new (from + moved) 0) (omega arith)
          ∙ next_same old new (from + moved) so.rest ∙ ap (λ (k : ℕ). drop k old) next;
      below = below_more (λ (k : ℕ). get_or old (from + k) 0 < id) moved so.below (omega (arith, same));
      within = omega arith;
      long = length-set new (written + moved) (get_or new (from + moved) 0) ∙ long;
    }
