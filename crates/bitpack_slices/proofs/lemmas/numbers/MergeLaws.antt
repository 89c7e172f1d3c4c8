-- What an operation on two lists gives below a bound, from the lowest number of both on.
use mir.Val.{bool_byte}
use Rattle.std.proofs.Common.{◌≡◌, ℕ, ◌+◌, ◌<◌, ◌≤◌, Bool, true, false, ◌||◌, leb, List, [], ◌∷◌, ◌++◌, map, drop, length, get_or, min, refl, sym, ap, ◌∙◌, arith, cond, subst, inl, inr, append-nil, eq-eqb}
use Rattle.std.proofs.lemmas.Bool.{cases_lt, le-leb, lt-leb, ne_eqb}
use Rattle.std.proofs.lemmas.List.{drop_all, drop_more}
use Rattle.bitpack_slices.proofs.lemmas.numbers.AnswerLaws.{each, none_left, none_pass, none_right, those_part}
use Rattle.bitpack_slices.proofs.lemmas.bits.CombineLaws.{apply_none}
use Rattle.bitpack_slices.proofs.lemmas.bodies.LoadLaws.{those_are}
use Rattle.bitpack_slices.proofs.lemmas.bodies.ReadLaws.{has_below}
use Rattle.bitpack_slices.proofs.lemmas.slices.SelectionLaws.{retained, retained_right}
use Rattle.bitpack_slices.proofs.lemmas.slices.SliceLaws.{rising_room}
use Rattle.bitpack_slices.proofs.lemmas.numbers.RangeLaws.{rising_drop}
use Rattle.bitpack_slices.specs.Operations.{apply, combined, those}
use Rattle.bitpack_slices.specs.Reads.{has}
use Rattle.bitpack_slices.specs.Bodies.{IsRising}
use Rattle.bitpack_slices.specs.declared.operation.Operation.{Operation}

-- ---- the first number that passes a test

one_map : (v : ℕ) (b : Bool) → map (λ i. v + i) (cond b (0 ∷ []) []) ≡ cond b (v ∷ []) []
one_map v true = let e : v + 0 ≡ v = omega arith in ap (λ (n : ℕ). n ∷ []) e
one_map v false = refl

one_those : (p : ℕ → Bool) → those 1 p ≡ cond (p 0) (0 ∷ []) []
unfolding those
one_those p = refl

pub those_first : (n v : ℕ) (p r : ℕ → Bool) → v < n → ((x : ℕ) → x < v → p x ≡ false) → ((x : ℕ) → x < v + 1 → r x ≡ false) → ((x : ℕ) → v + 1 ≤ x → p x ≡ r x)
    → those n p ≡ cond (p v) (v ∷ []) [] ++ those n r
those_first n v p r room before passed after =
    let e : v + 0 ≡ v = omega arith in
    those_part n v 1 p (λ i. p (v + i)) r (omega arith) before (λ x h. refl) passed (λ x a b. after x a)
    ∙ ap (λ (l : List ℕ). map (λ i. v + i) l ++ those n r) (one_those (λ i. p (v + i)))
    ∙ ap (λ (l : List ℕ). l ++ those n r) (one_map v (p (v + 0)))
    ∙ ap (λ (k : ℕ). cond (p k) (v ∷ []) [] ++ those n r) e

-- ---- a list from a number on

-- the second list has the numbers of the first that are above one
record IsPast (v : ℕ) (xs ys : List ℕ) : Type 0 where
  below : (x : ℕ) → x < v → has x xs ≡ false
  passed : (x : ℕ) → x < v + 1 → has x ys ≡ false
  above : (x : ℕ) → v + 1 ≤ x → has x xs ≡ has x ys

past_first : (low high v : ℕ) (xs : List ℕ) → IsRising low high (v ∷ xs) → IsPast v (v ∷ xs) xs
past_first low high v xs (a, r) = record {
  below = λ x h. has_below x v high (v ∷ xs) (omega arith, r) h;
  passed = λ x h. has_below x (v + 1) high xs r h;
  above = λ x h. ap (λ (b : Bool). b || has x xs) (ne_eqb v x (λ e. omega arith));
}

past_later : (low high v : ℕ) (xs : List ℕ) → IsRising low high xs → v < low → IsPast v xs xs
past_later low high v xs r h = record {
  below = λ x less. has_below x low high xs r (omega arith);
  passed = λ x less. has_below x low high xs r (omega arith);
  above = λ x less. refl;
}

answer_first : (n : ℕ) (operation : Operation) (v : ℕ) (p q : Bool) (xs xs' ys ys' : List ℕ) → v < n → IsPast v xs xs' → IsPast v ys ys' → has v xs ≡ p → has v ys ≡ q
    → combined n operation xs ys ≡ cond (apply operation p q) (v ∷ []) [] ++ combined n operation xs' ys'
answer_first n operation v p q xs xs' ys ys' small a b e f =
    those_first n v (λ x. apply operation (has x xs) (has x ys)) (λ x. apply operation (has x xs') (has x ys')) small
    (λ x h. apply_none operation (has x xs) (has x ys) (a.below x h) (b.below x h))
    (λ x h. apply_none operation (has x xs') (has x ys') (a.passed x h) (b.passed x h))
    (λ x h. each operation (has x xs) (has x xs') (has x ys) (has x ys') (a.above x h) (b.above x h))
    ∙ ap (λ (c : Bool). cond c (v ∷ []) [] ++ combined n operation xs' ys') (each operation (has v xs) p (has v ys) q e f)

there : (v : ℕ) (xs : List ℕ) → has v (v ∷ xs) ≡ true
there v xs = ap (λ (b : Bool). b || has v xs) (eq-eqb v v refl)

-- one step, when the lowest of both is written if it is in the answer
step : (n : ℕ) (operation : Operation) (low low' x y : ℕ) (xs ys : List ℕ) → IsRising low n (x ∷ xs) → IsRising low' n (y ∷ ys)
    → combined n operation (x ∷ xs) (y ∷ ys) ≡ cond (apply operation (leb x y) (leb y x)) (min x y ∷ []) [] ++ combined n operation (drop (bool_byte (leb x y)) (x ∷ xs)) (drop (bool_byte (leb y x)) (y ∷ ys))
step n operation low low' x y xs ys r s =
    let room = rising_room low n (x ∷ xs) r in
    let (a, r') = r in
    let (b, s') = s in
    let top = rising_room (x + 1) n xs r' in
    let top' = rising_room (y + 1) n ys s' in
    let goal : Bool → Bool → ℕ → Type 0 = λ p q m. combined n operation (x ∷ xs) (y ∷ ys)
    ≡ cond (apply operation p q) (m ∷ []) [] ++ combined n operation (drop (bool_byte p) (x ∷ xs)) (drop (bool_byte q) (y ∷ ys)) in
    elim (cases_lt x y) [
      | inl less ↦ (
          let e : leb x y ≡ true = le-leb x y (omega arith) in
          let f : leb y x ≡ false = lt-leb y x less in
          let m : min x y ≡ x = omega arith in
          subst (λ (p : Bool). goal p (leb y x) (min x y)) (sym e) (subst (λ (q : Bool). goal true q (min x y)) (sym f) (subst (goal true false) (sym m)
          (answer_first n operation x true false (x ∷ xs) xs (y ∷ ys) (y ∷ ys) (omega arith) (past_first low n x xs r)
          (past_later y n x (y ∷ ys) (omega arith, s') less) (there x xs) (has_below x y n (y ∷ ys) (omega arith, s') less)))))
      | inr more ↦ elim (cases_lt y x) [
        | inl less ↦ (
            let e : leb x y ≡ false = lt-leb x y less in
            let f : leb y x ≡ true = le-leb y x (omega arith) in
            let m : min x y ≡ y = omega arith in
            subst (λ (p : Bool). goal p (leb y x) (min x y)) (sym e) (subst (λ (q : Bool). goal false q (min x y)) (sym f) (subst (goal false true) (sym m)
            (answer_first n operation y false true (x ∷ xs) (x ∷ xs) (y ∷ ys) ys (omega arith) (past_later x n y (x ∷ xs) (omega arith, r') less)
            (past_first low' n y ys s) (has_below y x n (x ∷ xs) (omega arith, r') less) (there y ys)))))
        | inr same ↦ (
            let e : leb x y ≡ true = le-leb x y (omega arith) in
            let f : leb y x ≡ true = le-leb y x (omega arith) in
            let m : min x y ≡ x = omega arith in
            let x_is : y ≡ x = omega arith in
            subst (λ (p : Bool). goal p (leb y x) (min x y)) (sym e) (subst (λ (q : Bool). goal true q (min x y)) (sym f) (subst (goal true true) (sym m)
            (answer_first n operation x true true (x ∷ xs) xs (y ∷ ys) ys (omega arith) (past_first low n x xs r)
            (subst (λ (k : ℕ). IsPast k (y ∷ ys) ys) x_is (past_first low' n y ys s)) (there x xs)
            (ap (λ (k : ℕ). has k (y ∷ ys)) (sym x_is) ∙ there y ys)))))
      ]
    ]

drop_one : (b : Bool) (i : ℕ) (xs : List ℕ) → i < length xs → drop (bool_byte b) (get_or xs i 0 ∷ drop (i + 1) xs) ≡ drop (i + bool_byte b) xs
drop_one true i xs h = refl
drop_one false i xs h = let e : i + 0 ≡ i = omega arith in sym (drop_more xs i 0 h) ∙ ap (λ (n : ℕ). drop n xs) (sym e)

-- the same of what is left of two lists
pub answer_step : (n : ℕ) (operation : Operation) (i j : ℕ) (xs ys : List ℕ) → IsRising 0 n xs → IsRising 0 n ys → i < length xs → j < length ys
    → (x y : ℕ) → x ≡ get_or xs i 0 → y ≡ get_or ys j 0
    → combined n operation (drop i xs) (drop j ys) ≡ cond (apply operation (leb x y) (leb y x)) (min x y ∷ []) [] ++ combined n operation (drop (i + bool_byte (leb x y)) xs) (drop (j + bool_byte (leb y x)) ys)
answer_step n operation i j xs ys r s h k x y e f =
    let first : drop i xs ≡ x ∷ drop (i + 1) xs = drop_more xs i 0 h ∙ ap (λ (n : ℕ). n ∷ drop (i + 1) xs) (sym e) in
    let first' : drop j ys ≡ y ∷ drop (j + 1) ys = drop_more ys j 0 k ∙ ap (λ (n : ℕ). n ∷ drop (j + 1) ys) (sym f) in
    let rest : drop (bool_byte (leb x y)) (x ∷ drop (i + 1) xs) ≡ drop (i + bool_byte (leb x y)) xs =
    ap (λ (n : ℕ). drop (bool_byte (leb x y)) (n ∷ drop (i + 1) xs)) e ∙ drop_one (leb x y) i xs h in
    let rest' : drop (bool_byte (leb y x)) (y ∷ drop (j + 1) ys) ≡ drop (j + bool_byte (leb y x)) ys =
    ap (λ (n : ℕ). drop (bool_byte (leb y x)) (n ∷ drop (j + 1) ys)) f ∙ drop_one (leb y x) j ys k in
    let front : List ℕ = cond (apply operation (leb x y) (leb y x)) (min x y ∷ []) [] in
    ap (λ (l : List ℕ). combined n operation l (drop j ys)) first ∙ ap (combined n operation (x ∷ drop (i + 1) xs)) first'
    ∙ step n operation 0 0 x y (drop (i + 1) xs) (drop (j + 1) ys) (subst (IsRising 0 n) first (rising_drop 0 n i xs r))
    (subst (IsRising 0 n) first' (rising_drop 0 n j ys s))
    ∙ ap (λ (l : List ℕ). front ++ combined n operation l (drop (bool_byte (leb y x)) (y ∷ drop (j + 1) ys))) rest
    ∙ ap (λ (l : List ℕ). front ++ combined n operation (drop (i + bool_byte (leb x y)) xs) l) rest'

-- ---- one list alone is left

pub answer_left : (n : ℕ) (operation : Operation) (c : Bool) (xs : List ℕ) → IsRising 0 n xs → apply operation true false ≡ c → combined n operation xs [] ≡ cond c xs []
answer_left n operation true xs r e = those_are (λ x. apply operation (has x xs) false) n xs r (λ i h. retained operation (has i xs) e)
answer_left n operation false xs r e = none_pass n (λ x. apply operation (has x xs) false) (λ x h. none_left operation (has x xs) e)

pub answer_right : (n : ℕ) (operation : Operation) (c : Bool) (ys : List ℕ) → IsRising 0 n ys → apply operation false true ≡ c → combined n operation [] ys ≡ cond c ys []
answer_right n operation true ys r e = those_are (λ x. apply operation false (has x ys)) n ys r (λ i h. retained_right operation (has i ys) e)
answer_right n operation false ys r e = none_pass n (λ x. apply operation false (has x ys)) (λ x h. none_right operation (has x ys) e)

cond_none : (c : Bool) (xs : List ℕ) → xs ≡ [] → cond c xs [] ≡ []
cond_none true xs e = e
cond_none false xs e = refl

-- the first list has ended
pub answer_ended : (n : ℕ) (operation : Operation) (p q : Bool) (i j : ℕ) (xs ys : List ℕ) → IsRising 0 n xs → IsRising 0 n ys → length xs ≤ i
    → p ≡ apply operation true false → q ≡ apply operation false true → combined n operation (drop i xs) (drop j ys) ≡ cond p (drop i xs) [] ++ cond q (drop j ys) []
answer_ended n operation p q i j xs ys r s h e f =
    let none : drop i xs ≡ [] = drop_all i xs h in
    ap (λ (l : List ℕ). combined n operation l (drop j ys)) none ∙ answer_right n operation q (drop j ys) (rising_drop 0 n j ys s) (sym f)
    ∙ ap (λ (l : List ℕ). l ++ cond q (drop j ys) []) (sym (cond_none p (drop i xs) none))

-- the second list has ended
pub answer_ended' : (n : ℕ) (operation : Operation) (p q : Bool) (i j : ℕ) (xs ys : List ℕ) → IsRising 0 n xs → IsRising 0 n ys → length ys ≤ j
    → p ≡ apply operation true false → q ≡ apply operation false true → combined n operation (drop i xs) (drop j ys) ≡ cond p (drop i xs) [] ++ cond q (drop j ys) []
answer_ended' n operation p q i j xs ys r s h e f =
    let none : drop j ys ≡ [] = drop_all j ys h in
    ap (combined n operation (drop i xs)) none ∙ answer_left n operation p (drop i xs) (rising_drop 0 n i xs r) (sym e)
    ∙ sym (append-nil (cond p (drop i xs) [])) ∙ ap (λ (l : List ℕ). cond p (drop i xs) [] ++ l) (sym (cond_none q (drop j ys) none))

pub cond_few : (c : Bool) (xs : List ℕ) → length (cond c xs []) ≤ length xs
cond_few true xs = omega arith
cond_few false xs = omega arith
