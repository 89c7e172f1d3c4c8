-- The answer of sets has no more chunks than they need work space for.
use Rattle.std.proofs.Common.{◌≡◌, ◌≢◌, ℕ, ◌+◌, ◌/◌, ◌%◌, ◌^◌, ◌<◌, ◌≤◌, ◌==◌, ◌||◌, not, Bool, true, false, cond, List, [], ◌∷◌, length, length-append, map, eqb, eqb-true, eq-eqb, refl, sym, ap, subst, ◌∙◌, arith, inl, inr}
use Rattle.std.specs.List.{filter, flat_map, fold, list_any, sum}
use Rattle.std.proofs.Math.Bool.{or-true}
use Rattle.std.proofs.Math.Nat.{le-min}
use Rattle.std.proofs.lemmas.Bool.{cases_eq, false≢true, ne_eqb}
use Rattle.std.proofs.lemmas.List.{length-map}
use Rattle.std.proofs.lemmas.List.Sums.{sum_by-cons}
use Rattle.bitpack_slices.proofs.ForCallers.{bit_le, has_append, has_below, has_those, keys, keys_rise, parts_are, rising_room, those_rise}
use Rattle.bitpack_slices.specs.Bodies.{IsRising, parts, with_number}
use Rattle.bitpack_slices.specs.Operations.{apply, those}
use Rattle.bitpack_slices.specs.Reads.{has}
use Rattle.bitpack_slices.specs.declared.operation.Operation.{Operation}
use Rattle.bitpack_sets.proofs.ForCallers.{parts_most}
use Rattle.bitpack_sets.specs.Written.{is_in_chunks, places}
use Rattle.bitpack_queries.proofs.lemmas.many.FoldLaws.{neither}
use Rattle.bitpack_queries.proofs.lemmas.two.CountLaws.{one_more}
use Rattle.bitpack_queries.proofs.lemmas.two.GatherLaws.{Gathering, next_chunk}
use Rattle.bitpack_queries.specs.Gathered.{most_keys}
use Rattle.bitpack_queries.specs.Operations.{answer_all, folded}
use Rattle.bitpack_queries.specs.Pairs.{IsPart}

-- ---- numbers that others have

kept_has : (b : Bool) (x y : ℕ) (xs : List ℕ) → x ≢ y → has x (cond b (y ∷ xs) xs) ≡ has x xs
kept_has true x y xs apart = ap (λ (b : Bool). b || has x xs) (ne_eqb y x (λ e. apart (sym e)))
kept_has false x y xs apart = refl

abbrev without : ℕ → List ℕ → List ℕ
without x ys = filter (λ y. not (y == x)) ys

fewer : (x : ℕ) (ys : List ℕ) → length (without x ys) ≤ length ys
fewer x [] = omega arith
fewer x (y ∷ ys) =
    let step = one_more (λ y. not (y == x)) y ys in
    let one = bit_le (not (y == x)) in
    let rest = fewer x ys in
    omega arith

one_fewer : (x : ℕ) (ys : List ℕ) → has x ys ≡ true → length (without x ys) < length ys
one_fewer x [] h = absurd (false≢true h)
one_fewer x (y ∷ ys) h = elim (cases_eq y x) [
  | inl same ↦ (
      let step : length (without x (y ∷ ys)) ≡ length (without x ys) = ap (λ (b : Bool). length (cond (not b) (y ∷ without x ys) (without x ys))) (eq-eqb y x same) in
      let rest = fewer x ys in
      omega arith)
  | inr apart ↦ (
      let step = one_more (λ y. not (y == x)) y ys in
      let one = bit_le (not (y == x)) in
      let rest = one_fewer x ys (sym (ap (λ (b : Bool). b || has x ys) (ne_eqb y x apart)) ∙ h) in
      omega arith)
]

others_stay : (x z : ℕ) (ys : List ℕ) → z ≢ x → has z ys ≡ true → has z (without x ys) ≡ true
others_stay x z [] apart h = h
others_stay x z (y ∷ ys) apart h = elim (cases_eq y z) [
  | inl same ↦
      ap (λ (b : Bool). has z (cond (not b) (y ∷ without x ys) (without x ys))) (ne_eqb y x (λ e. apart (sym same ∙ e)))
      ∙ ap (λ (b : Bool). b || has z (without x ys)) (eq-eqb y z same)
  | inr differ ↦
      kept_has (not (y == x)) z y (without x ys) (λ e. differ (sym e))
      ∙ others_stay x z ys apart (sym (ap (λ (b : Bool). b || has z ys) (ne_eqb y z differ)) ∙ h)
]

has_first : (x : ℕ) (xs : List ℕ) → has x (x ∷ xs) ≡ true
has_first x xs = ap (λ (b : Bool). b || has x xs) (eq-eqb x x refl)

has_later : (x y : ℕ) (xs : List ℕ) → has y xs ≡ true → has y (x ∷ xs) ≡ true
has_later x y xs h = ap (λ (b : Bool). (x == y) || b) h ∙ or-true (x == y)

-- increasing numbers are no more than others that have each
none_more : (low high : ℕ) (xs ys : List ℕ) → IsRising low high xs → ((x : ℕ) → has x xs ≡ true → has x ys ≡ true) → length xs ≤ length ys
none_more low high [] ys rise each = omega arith
none_more low high (x ∷ xs) ys (a, rise) each =
    let one = one_fewer x ys (each x (has_first x xs)) in
    let rest = none_more (x + 1) high xs (without x ys) rise
    (λ z h. others_stay x z ys (λ e. false≢true (sym (has_below z (x + 1) high xs rise (omega arith)) ∙ h)) (each z (has_later x z xs h))) in
    omega arith

-- ---- keys

same_twice : (p q h : Bool) → p ≡ q → (p || h) ≡ (q || (p || h))
same_twice true q h e = ap (λ (b : Bool). b || true) e
same_twice false q h e = ap (λ (b : Bool). b || h) e

key_case : (b : Bool) (base x k : ℕ) (part : ℕ × List ℕ) (ps : List (ℕ × List ℕ)) → (b ≡ true → part.0 ≡ x / base)
    → has k (keys (cond b ((part.0, x % base ∷ part.1) ∷ ps) ((x / base, x % base ∷ []) ∷ part ∷ ps))) ≡ ((x / base == k) || has k (keys (part ∷ ps)))
key_case true base x k part ps same = same_twice (part.0 == k) (x / base == k) (has k (keys ps)) (ap (λ (n : ℕ). n == k) (same refl))
key_case false base x k part ps same = refl

key_put : (base x k : ℕ) (ps : List (ℕ × List ℕ)) → has k (keys (with_number base x ps)) ≡ ((x / base == k) || has k (keys ps))
unfolding with_number
key_put base x k [] = refl
key_put base x k (part ∷ ps) = key_case (eqb part.0 (x / base)) base x k part ps (λ e. eqb-true part.0 (x / base) e)

-- a key is one of a number
keys_has : (base k : ℕ) (xs : List ℕ) → has k (keys (parts base xs)) ≡ list_any (λ x. x / base == k) xs
unfolding parts
keys_has base k [] = refl
keys_has base k (x ∷ xs) = key_put base x k (parts base xs) ∙ ap (λ (b : Bool). (x / base == k) || b) (keys_has base k xs)

own_key : (base x : ℕ) (xs : List ℕ) → has x xs ≡ true → list_any (λ y. y / base == x / base) xs ≡ true
own_key base x [] h = h
own_key base x (y ∷ xs) h = elim (cases_eq y x) [
  | inl same ↦ ap (λ (b : Bool). b || list_any (λ z. z / base == x / base) xs) (eq-eqb (y / base) (x / base) (ap (λ (n : ℕ). n / base) same))
  | inr apart ↦
      ap (λ (b : Bool). (y / base == x / base) || b) (own_key base x xs (sym (ap (λ (b : Bool). b || has x xs) (ne_eqb y x apart)) ∙ h))
      ∙ or-true (y / base == x / base)
]

keys_in : (base : ℕ) (xs ks : List ℕ) → ((x : ℕ) → has x xs ≡ true → has (x / base) ks ≡ true) → (k : ℕ) → list_any (λ x. x / base == k) xs ≡ true → has k ks ≡ true
keys_in base [] ks each k h = absurd (false≢true h)
keys_in base (x ∷ xs) ks each k h = elim (cases_eq (x / base) k) [
  | inl same ↦ subst (λ (n : ℕ). has n ks ≡ true) same (each x (has_first x xs))
  | inr apart ↦ keys_in base xs ks (λ y t. each y (has_later x y xs t)) k (sym (ap (λ (b : Bool). b || list_any (λ y. y / base == k) xs) (ne_eqb (x / base) k apart)) ∙ h)
]

-- ---- the keys of sets

abbrev keys_of_all : List (List ℕ) → List ℕ
keys_of_all sets = flat_map (λ ids. keys (parts 65536 ids)) sets

either : (a b c d : Bool) → (a ≡ true → c ≡ true) → (b ≡ true → d ≡ true) → (a || b) ≡ true → (c || d) ≡ true
either true b c d f g h = ap (λ (e : Bool). e || d) (f refl)
either false b c d f g h = ap (λ (e : Bool). c || e) (g h) ∙ or-true c

key_of_one : (x : ℕ) (sets : List (List ℕ)) → list_any (λ ids. has x ids) sets ≡ true → has (x / 65536) (keys_of_all sets) ≡ true
key_of_one x [] h = h
key_of_one x (ids ∷ sets) h =
    has_append (x / 65536) (keys (parts 65536 ids)) (keys_of_all sets)
    ∙ either (has x ids) (list_any (λ ys. has x ys) sets) (has (x / 65536) (keys (parts 65536 ids))) (has (x / 65536) (keys_of_all sets))
    (λ e. keys_has 65536 (x / 65536) ids ∙ own_key 65536 x ids e) (key_of_one x sets) h

places_case : (b : Bool) (ids : List ℕ) → length (parts 65536 ids) ≤ cond b (length (parts 65536 ids)) (length ids)
places_case true ids = omega arith
places_case false ids = parts_most 65536 ids

keys_most : (sets : List (List ℕ)) → length (keys_of_all sets) ≤ sum (map places sets)
keys_most [] = omega arith
keys_most (ids ∷ sets) =
    let split = length-append (keys (parts 65536 ids)) (keys_of_all sets) in
    let own = length-map (parts 65536 ids) (λ part. part.0) in
    let few : length (parts 65536 ids) ≤ places ids = places_case (is_in_chunks ids) ids in
    let more = sum_by-cons (λ (n : ℕ). n) (places ids) (map places sets) in
    let rest = keys_most sets in
    omega arith

below : (x low high : ℕ) (xs : List ℕ) → IsRising low high xs → has x xs ≡ true → x < high
below x low high [] rise h = absurd (false≢true h)
below x low high (y ∷ xs) (a, rise) h = elim (cases_eq y x) [
  | inl same ↦ (let room = rising_room (y + 1) high xs rise in omega arith)
  | inr apart ↦ below x (y + 1) high xs rise (sym (ap (λ (b : Bool). b || has x xs) (ne_eqb y x apart)) ∙ h)
]

-- what only ids of these sets pass has no more chunks than they need work space for
pub most_chunks : (sets : List (List ℕ)) (P : ℕ → Bool) → ((x : ℕ) → x < 2 ^ 32 → P x ≡ true → list_any (λ ids. has x ids) sets ≡ true)
    → length (parts (2 ^ 16) (those (2 ^ 32) P)) ≤ most_keys sets
most_chunks sets P each =
    let xs : List ℕ = those (2 ^ 32) P in
    let rise : IsRising 0 (2 ^ 32) xs = those_rise P (2 ^ 32) in
    let keys_rising : IsRising 0 65536 (keys (parts 65536 xs)) = keys_rise 65536 0 65536 (parts 65536 xs) (parts_are 65536 0 65536 0 xs (omega arith) (omega arith) rise) in
    let room = rising_room 0 65536 (keys (parts 65536 xs)) keys_rising in
    let count = length-map (parts 65536 xs) (λ part. part.0) in
    let fewer = none_more 0 65536 (keys (parts 65536 xs)) (keys_of_all sets) keys_rising
    (λ k h. keys_in 65536 xs (keys_of_all sets)
    (λ x t. (let small = below x 0 (2 ^ 32) xs rise t in key_of_one x sets (each x small (sym (has_those P x (2 ^ 32) small) ∙ t))))
    k (sym (keys_has 65536 k xs) ∙ h)) in
    let most = keys_most sets in
    le-min (omega arith) (omega arith)

-- ---- of a fold

given : (operation : Operation) (b more : Bool) → (apply operation false b || more) ≡ true → (b || more) ≡ true
given operation true more h = refl
given operation false more h = sym (ap (λ (b : Bool). b || more) (neither operation)) ∙ h

some_one : (operation : Operation) (x : ℕ) (b : Bool) (sets : List (List ℕ)) → fold (apply operation) b (map (has x) sets) ≡ true → (b || list_any (λ ids. has x ids) sets) ≡ true
some_one operation x true sets h = refl
some_one operation x false [] h = h
some_one operation x false (ids ∷ sets) h =
    given operation (has x ids) (list_any (λ ys. has x ys) sets) (some_one operation x (apply operation false (has x ids)) sets h)

-- an id that operations leave is one of a set
pub folded_some : (operation : Operation) (x : ℕ) (sets : List (List ℕ)) → folded operation (map (has x) sets) ≡ true → list_any (λ ids. has x ids) sets ≡ true
folded_some operation x [] h = h
folded_some operation x (ids ∷ sets) h = some_one operation x (has x ids) sets h

pub answer_chunks : (operation : Operation) (sets : List (List ℕ)) → length (parts (2 ^ 16) (answer_all operation sets)) ≤ most_keys sets
answer_chunks operation sets = most_chunks sets (λ x. folded operation (map (has x) sets)) (λ x small h. folded_some operation x sets h)

-- ---- of what is gathered

-- a key with ids is one more of the chunks of the answer
pub gather_room : (number : ℕ) (test before after : ℕ → Bool) (all old mid keys counts sizes : List ℕ) (count chunks size : ℕ) → IsPart number test before after
    → Gathering all (those (2 ^ 32) before) old mid keys counts sizes count chunks size → 0 < length (those 65536 test) → chunks < length (parts (2 ^ 16) all)
gather_room number test before after all old mid keys counts sizes count chunks size part so some =
    let parted = so.parted in
    let next = ap length (next_chunk number test before after part some) in
    omega arith
