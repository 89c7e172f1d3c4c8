-- The ids of an array united with a set: what is done, what is left of the array, and what is left of the set.
use Rattle.std.proofs.Common.{◌≡◌, ℕ, suc, ◌+◌, ◌-◌, ◌^◌, ◌<◌, ◌≤◌, Bool, true, false, ◌||◌, ◌&&◌, eqb, cond, List, [], ◌∷◌, ◌++◌, length, take, drop, get_or, refl, sym, ap, subst, ◌∙◌, arith, append-nil, append_assoc, eq-eqb, eqb-true}
use Rattle.std.proofs.Math.Bool.{or-false}
use Rattle.std.specs.List.{copy_within, filter, range_with_len}
use Rattle.std.proofs.lemmas.List.{drop_all, drop_at, length-take-le}
use Rattle.std.proofs.lemmas.Bool.{ne_eqb}
use Rattle.std.proofs.lemmas.List.Elements.{filter-append}
use Rattle.std.proofs.lemmas.Map.Views.{any-filter_same}
use Rattle.bitpack_slices.proofs.ForCallers.{Below, has_append, has_below, rising_append, rising_filter, rising_lower, rising_room, those_are}
use Rattle.bitpack_sets.proofs.ForCallers.{rising_below}
use Rattle.bitpack_slices.specs.Operations.{those}
use Rattle.bitpack_slices.specs.Reads.{has}
use Rattle.bitpack_slices.specs.Bodies.{IsRising}

-- ---- increasing numbers in two parts

-- what is before a number, and what begins with it
rising_cut : (low high y : ℕ) (xs ys : List ℕ) → IsRising low high (xs ++ (y ∷ ys)) → IsRising low y xs × IsRising y high (y ∷ ys)
rising_cut low high y [] ys (a, r) = (a, (omega arith, r))
rising_cut low high y (x ∷ xs) ys (a, r) = let (b, c) = rising_cut (x + 1) high y xs ys r in ((a, b), c)

rising_first : (low high : ℕ) (xs ys : List ℕ) → IsRising low high (xs ++ ys) → IsRising low high xs
rising_first low high [] ys r = let room = rising_room low high ys r in omega arith
rising_first low high (x ∷ xs) ys (a, r) = (a, rising_first (x + 1) high xs ys r)

rising_second : (low high : ℕ) (xs ys : List ℕ) → IsRising low high (xs ++ ys) → IsRising low high ys
rising_second low high [] ys r = r
rising_second low high (x ∷ xs) ys (a, r) = rising_lower (x + 1) low high ys (omega arith) (rising_second (x + 1) high xs ys r)

-- numbers below a bound rise up to it
rising_until : (low high bound : ℕ) (xs : List ℕ) → IsRising low high xs → Below bound xs → low ≤ bound → IsRising low bound xs
rising_until low high bound [] r b h = h
rising_until low high bound (x ∷ xs) (a, r) (b, c) h = (a, rising_until (x + 1) high bound xs r c (omega arith))

below_both : (bound : ℕ) (xs ys : List ℕ) → Below bound xs → Below bound ys → Below bound (xs ++ ys)
below_both bound [] ys b c = c
below_both bound (x ∷ xs) ys (a, b) c = (a, below_both bound xs ys b c)

-- numbers whose first is above another rise from there
rising_above : (low high x : ℕ) (xs : List ℕ) → IsRising low high xs → x < high → (0 < length xs → x < get_or xs 0 0) → IsRising (x + 1) high xs
rising_above low high x [] r small h = omega arith
rising_above low high x (y ∷ ys) (a, r) small h = let more = h (omega arith) in (omega arith, r)

-- ---- which of them are in a set

-- ids below all of a set are not in it
none_in : (bound high : ℕ) (xs ys : List ℕ) → Below bound xs → IsRising bound high ys → filter (λ x. has x ys) xs ≡ []
none_in bound high [] ys b r = refl
none_in bound high (x ∷ xs) ys (a, b) r =
    ap (λ (t : Bool). cond t (x ∷ filter (λ y. has y ys) xs) (filter (λ y. has y ys) xs)) (has_below x bound high ys r a) ∙ none_in bound high xs ys b r

-- above the first id of a set the others count alone
others_in : (y low high : ℕ) (xs ys : List ℕ) → IsRising low high xs → y < low → filter (λ x. has x (y ∷ ys)) xs ≡ filter (λ x. has x ys) xs
others_in y low high [] ys r h = refl
others_in y low high (x ∷ xs) ys (a, r) h =
    ap (λ (t : Bool). cond (t || has x ys) (x ∷ filter (λ z. has z (y ∷ ys)) xs) (filter (λ z. has z (y ∷ ys)) xs)) (ne_eqb y x (λ e. omega arith))
    ∙ ap (λ (zs : List ℕ). cond (has x ys) (x ∷ zs) zs) (others_in y (x + 1) high xs ys r (omega arith))

shared : (x : ℕ) (xs ys : List ℕ) → has x (filter (λ y. has y ys) xs) ≡ (has x ys && has x xs)
shared x xs ys = any-filter_same (λ y. eqb y x) (λ y. has y ys) (has x ys) (λ k e. ap (λ (y : ℕ). has y ys) (eqb-true k x e)) xs

fewer_one : (t u : Bool) (x : ℕ) (xs ys : List ℕ) → length xs ≤ length ys → length (cond (t && u) (x ∷ xs) xs) ≤ length (cond t (x ∷ ys) ys)
fewer_one true true x xs ys h = omega arith
fewer_one true false x xs ys h = omega arith
fewer_one false u x xs ys h = h

fewer : (p q : ℕ → Bool) (xs : List ℕ) → length (filter (λ x. p x && q x) xs) ≤ length (filter p xs)
fewer p q [] = omega arith
fewer p q (x ∷ xs) = fewer_one (p x) (q x) x (filter (λ y. p y && q y) xs) (filter p xs) (fewer p q xs)

those_fewer : (n : ℕ) (p q : ℕ → Bool) → length (those n (λ x. p x && q x)) ≤ length (those n p)
unfolding those
those_fewer n p q = fewer p q (range_with_len 0 n)

-- no more ids are in a set than it has
pub shared_few : (n : ℕ) (xs ys : List ℕ) → IsRising 0 n xs → IsRising 0 n ys → length (filter (λ x. has x ys) xs) ≤ length ys
shared_few n xs ys r s =
    let both = those_are (λ x. has x ys && has x xs) n (filter (λ x. has x ys) xs) (rising_filter (λ x. has x ys) 0 n xs r) (λ x h. sym (shared x xs ys)) in
    let one = those_are (λ x. has x ys) n ys s (λ x h. refl) in
    let less = those_fewer n (λ x. has x ys) (λ x. has x xs) in
    let a : length (those n (λ x. has x ys && has x xs)) ≡ length (filter (λ x. has x ys) xs) = ap length both in
    let b : length (those n (λ x. has x ys)) ≡ length ys = ap length one in
    omega arith

counted_one : (a b : Bool) (x : ℕ) (either both one other : List ℕ) → length either + length both ≡ length one + length other
    → length (cond (a || b) (x ∷ either) either) + length (cond (b && a) (x ∷ both) both) ≡ length (cond a (x ∷ one) one) + length (cond b (x ∷ other) other)
counted_one true true x either both one other h = omega arith
counted_one true false x either both one other h = omega arith
counted_one false true x either both one other h = omega arith
counted_one false false x either both one other h = h

counted : (p q : ℕ → Bool) (xs : List ℕ) → length (filter (λ x. p x || q x) xs) + length (filter (λ x. q x && p x) xs) ≡ length (filter p xs) + length (filter q xs)
counted p q [] = refl
counted p q (x ∷ xs) = counted_one (p x) (q x) x (filter (λ y. p y || q y) xs) (filter (λ y. q y && p y) xs) (filter p xs) (filter q xs) (counted p q xs)

those_counted : (n : ℕ) (p q : ℕ → Bool) → length (those n (λ x. p x || q x)) + length (those n (λ x. q x && p x)) ≡ length (those n p) + length (those n q)
unfolding those
those_counted n p q = counted p q (range_with_len 0 n)

-- the union has each shared id once
pub union_count : (n : ℕ) (xs ys : List ℕ) → IsRising 0 n xs → IsRising 0 n ys
    → length (those n (λ x. has x xs || has x ys)) + length (filter (λ x. has x ys) xs) ≡ length xs + length ys
union_count n xs ys r s =
    let both = ap length (those_are (λ x. has x ys && has x xs) n (filter (λ x. has x ys) xs) (rising_filter (λ x. has x ys) 0 n xs r) (λ x h. sym (shared x xs ys))) in
    let one = ap length (those_are (λ x. has x xs) n xs r (λ x h. refl)) in
    let other = ap length (those_are (λ x. has x ys) n ys s (λ x h. refl)) in
    let all = those_counted n (λ x. has x xs) (λ x. has x ys) in
    omega arith

-- numbers that were copied to the end
pub at_end : (xs ys : List ℕ) (count start : ℕ) → count ≤ length xs → start ≡ length xs - count → ys ≡ copy_within xs 0 count start → drop start ys ≡ take count xs
at_end xs ys count start le e copied =
    let same : count ≡ count - 0 = omega arith in
    ap (drop start) copied
    ∙ subst (λ n. drop start ((take start xs ++ take n xs) ++ drop (start + n) xs) ≡ take count xs) same
    (ap (drop start) (append_assoc (take start xs) (take count xs) (drop (start + count) xs))
    ∙ drop_at (take start xs) (take count xs ++ drop (start + count) xs) start (length-take-le start xs (omega arith))
    ∙ ap (λ rest. take count xs ++ rest) (drop_all (start + count) xs (omega arith)) ∙ append-nil (take count xs))

-- ---- the union so far

-- The ids that are done, then what is left of the array and of the set: these have all ids of both. There is room for what is left of the set.
pub record IsUniting (own set done rest left : List ℕ) (written from : ℕ) : Type 0 where
  pub rises : IsRising 0 (2 ^ 32) (done ++ rest)
  pub later : IsRising 0 (2 ^ 32) (done ++ left)
  pub all : (x : ℕ) → (has x (done ++ rest) || has x left) ≡ (has x own || has x set)
  pub room : written + length left ≡ from + length (filter (λ x. has x left) rest)

pub started : (own set : List ℕ) (from : ℕ) → IsRising 0 (2 ^ 32) own → IsRising 0 (2 ^ 32) set → length set ≡ from + length (filter (λ x. has x set) own)
    → IsUniting own set [] own set 0 from
started own set from r s e = record { rises = r; later = s; all = λ x. refl; room = omega arith }

module _ (own set done rest left : List ℕ) (written from : ℕ) (so : IsUniting own set done rest left written from) where
  -- what is written is not yet read
  pub not_read : written ≤ from
  not_read =
      let few = shared_few (2 ^ 32) rest left (rising_second 0 (2 ^ 32) done rest so.rises) (rising_second 0 (2 ^ 32) done left so.later) in
      let room = so.room in
      omega arith

-- the ids below the next one of the set are done
pub passed : (own set done moved rest left : List ℕ) (written from id : ℕ) → IsUniting own set done (moved ++ rest) (id ∷ left) written from → Below id moved
    → IsUniting own set (done ++ moved) rest (id ∷ left) (written + length moved) (from + length moved)
passed own set done moved rest left written from id so below =
    let whole : done ++ (moved ++ rest) ≡ (done ++ moved) ++ rest = sym (append_assoc done moved rest) in
    let cut = rising_cut 0 (2 ^ 32) id done left so.later in
    let front : IsRising 0 (2 ^ 32) (done ++ moved) = rising_first 0 (2 ^ 32) (done ++ moved) rest (subst (λ (xs : List ℕ). IsRising 0 (2 ^ 32) xs) whole so.rises) in
    let under : IsRising 0 id (done ++ moved) = rising_until 0 (2 ^ 32) id (done ++ moved) front (below_both id done moved (rising_below 0 id done cut.0) below) (omega arith) in
    record {
      rises = subst (λ (xs : List ℕ). IsRising 0 (2 ^ 32) xs) whole so.rises;
      later = rising_append 0 id (2 ^ 32) (done ++ moved) (id ∷ left) under cut.1;
      all = λ x. ap (λ (xs : List ℕ). has x xs || has x (id ∷ left)) (sym whole) ∙ so.all x;
      room =
          (let none = none_in id (2 ^ 32) moved (id ∷ left) below cut.1 in
          let parts = filter-append (λ x. has x (id ∷ left)) moved rest ∙ ap (λ (xs : List ℕ). xs ++ filter (λ x. has x (id ∷ left)) rest) none in
          let same : length (filter (λ x. has x (id ∷ left)) (moved ++ rest)) ≡ length (filter (λ x. has x (id ∷ left)) rest) = ap length parts in
          let room = so.room in
          omega arith);
    }

twice : (f e r l : Bool) → ((f || (e || r)) || l) ≡ ((f || (e || r)) || (e || l))
twice true e r l = refl
twice false true r l = refl
twice false false r l = refl

once : (f e r l : Bool) → ((f || (e || r)) || l) ≡ ((f || r) || (e || l))
once true e r l = refl
once false true true l = refl
once false true false l = refl
once false false r l = refl

first_counts : (id : ℕ) (rest left : List ℕ) → filter (λ x. has x (id ∷ left)) (id ∷ rest) ≡ id ∷ filter (λ x. has x (id ∷ left)) rest
first_counts id rest left =
    ap (λ (t : Bool). cond (t || has id left) (id ∷ filter (λ x. has x (id ∷ left)) rest) (filter (λ x. has x (id ∷ left)) rest)) (eq-eqb id id refl)

-- the next id of the set is the array's too
pub shared_done : (own set done rest left : List ℕ) (written from id : ℕ) → IsUniting own set done (id ∷ rest) (id ∷ left) written from
    → IsUniting own set (done ++ (id ∷ [])) rest left (written + 1) (from + 1)
shared_done own set done rest left written from id so =
    let whole : done ++ (id ∷ rest) ≡ (done ++ (id ∷ [])) ++ rest = sym (append_assoc done (id ∷ []) rest) in
    let others : done ++ (id ∷ left) ≡ (done ++ (id ∷ [])) ++ left = sym (append_assoc done (id ∷ []) left) in
    let (under, above) = rising_cut 0 (2 ^ 32) id done rest so.rises in
    record {
      rises = subst (λ (xs : List ℕ). IsRising 0 (2 ^ 32) xs) whole so.rises;
      later = subst (λ (xs : List ℕ). IsRising 0 (2 ^ 32) xs) others so.later;
      all = λ x. ap (λ (xs : List ℕ). has x xs || has x left) (sym whole) ∙ ap (λ (t : Bool). t || has x left) (has_append x done (id ∷ rest))
          ∙ twice (has x done) (eqb id x) (has x rest) (has x left) ∙ ap (λ (t : Bool). t || has x (id ∷ left)) (sym (has_append x done (id ∷ rest))) ∙ so.all x;
      room =
          (let one : length (filter (λ x. has x (id ∷ left)) (id ∷ rest)) ≡ suc (length (filter (λ x. has x (id ∷ left)) rest)) = ap length (first_counts id rest left) in
          let same : length (filter (λ x. has x (id ∷ left)) rest) ≡ length (filter (λ x. has x left) rest) =
          ap length (others_in id (id + 1) (2 ^ 32) rest left above.1 (omega arith)) in
          let room = so.room in
          omega arith);
    }

-- the next id of the set alone
pub other_done : (own set done rest left : List ℕ) (written from id : ℕ) → IsUniting own set done rest (id ∷ left) written from → (0 < length rest → id < get_or rest 0 0)
    → IsUniting own set (done ++ (id ∷ [])) rest left (written + 1) from
other_done own set done rest left written from id so more =
    let whole : done ++ (id ∷ rest) ≡ (done ++ (id ∷ [])) ++ rest = sym (append_assoc done (id ∷ []) rest) in
    let others : done ++ (id ∷ left) ≡ (done ++ (id ∷ [])) ++ left = sym (append_assoc done (id ∷ []) left) in
    let (under, above) = rising_cut 0 (2 ^ 32) id done left so.later in
    let small : id + 1 + length left ≤ 2 ^ 32 = rising_room (id + 1) (2 ^ 32) left above.1 in
    let later : IsRising (id + 1) (2 ^ 32) rest = rising_above 0 (2 ^ 32) id rest (rising_second 0 (2 ^ 32) done rest so.rises) (omega arith) more in
    record {
      rises = subst (λ (xs : List ℕ). IsRising 0 (2 ^ 32) xs) whole (rising_append 0 id (2 ^ 32) done (id ∷ rest) under (omega arith, later));
      later = subst (λ (xs : List ℕ). IsRising 0 (2 ^ 32) xs) others so.later;
      all = λ x. ap (λ (xs : List ℕ). has x xs || has x left) (sym whole) ∙ ap (λ (t : Bool). t || has x left) (has_append x done (id ∷ rest))
          ∙ once (has x done) (eqb id x) (has x rest) (has x left) ∙ ap (λ (t : Bool). t || has x (id ∷ left)) (sym (has_append x done rest)) ∙ so.all x;
      room =
          (let same : length (filter (λ x. has x (id ∷ left)) rest) ≡ length (filter (λ x. has x left) rest) =
          ap length (others_in id (id + 1) (2 ^ 32) rest left later (omega arith)) in
          let room = so.room in
          omega arith);
    }

none_has : (xs : List ℕ) → filter (λ x. has x []) xs ≡ []
none_has [] = refl
none_has (x ∷ xs) = none_has xs

-- all is done, and what is left of the array is in its place
pub united : (own set done rest : List ℕ) (written from : ℕ) → IsUniting own set done rest [] written from
    → (done ++ rest ≡ those (2 ^ 32) (λ x. has x own || has x set)) × (written ≡ from)
united own set done rest written from so = (
  sym (those_are (λ x. has x own || has x set) (2 ^ 32) (done ++ rest) so.rises (λ x h. sym (so.all x) ∙ or-false (has x (done ++ rest)))),
  (let none : length (filter (λ x. has x []) rest) ≡ 0 = ap length (none_has rest) in let room = so.room in omega arith),
)
