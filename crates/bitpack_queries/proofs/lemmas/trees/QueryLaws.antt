-- The steps of a query, and the operands that wait.
use Rattle.std.proofs.Common.{◌≡◌, ℕ, zero, suc, ◌+◌, ◌-◌, ◌*◌, ◌/◌, ◌%◌, ◌<◌, ◌≤◌, ◌≢◌, ◌⊎◌, inl, inr, eqb, leb, ltb, if◌then◌else◌, ◌&&◌, ◌||◌, Bool, true, false, List, [], ◌∷◌, ◌++◌, length, get_or, map, max, set, take, drop, eq-eqb, refl, sym, ap, ◌∙◌, subst, arith, Option, None, Some, get_or-set_same}
use Rattle.std.specs.List.{AllZip, list_any}
use Rattle.std.proofs.lemmas.Bool.{eqb-true, false≢true, le-leb, leb-false, le-ltb, ltb-false, lt-leb, lt-ltb, ne_eqb}
use Rattle.std.proofs.lemmas.Bool.Decides.{nat_tests}
use Rattle.std.proofs.lemmas.List.{drop_all, get_or-drop, get_or-map, get_or-set_other, get_or-take, length-map, set-append_left, take_all}
use Rattle.std.proofs.lemmas.List.Sums.{fold_more}
use Rattle.std.proofs.lemmas.Option.{none-some}
use Rattle.bitpack_queries.proofs.lemmas.many.FoldLaws.{none_of_highs, set_ids}
use Rattle.bitpack_slices.specs.Bitmaps.{has_bit}
use Rattle.bitpack_slices.specs.Operations.{apply, can_give}
use Rattle.bitpack_sets.specs.Chunks.{first_key}
use Rattle.bitpack_queries.specs.Queries.{evaluate, fault_from, has_keys, is_found, most_waiting, passes, waiting_after}
use Rattle.bitpack_slices.specs.Reads.{has}
use Rattle.bitpack_slices.specs.declared.operation.Operation.{Operation}
use Rattle.bitpack_queries.specs.declared.query_error.QueryError.{QueryError}
use Rattle.bitpack_queries.specs.declared.query_error.QueryError.TheVariants.{Empty, NoSet, TooDeep, MissingOperand, LeftOver}
use Rattle.bitpack_queries.specs.declared.step.Step.{Step}
use Rattle.bitpack_queries.specs.declared.step.Step.TheVariants.{Set, Combine}

-- ---- faults of the steps that are left

rest_is : (steps : List Step) (i : ℕ) (d s : Step) → i < length steps → get_or steps i d ≡ s → drop i steps ≡ s ∷ drop (i + 1) steps
rest_is [] i d s l e = absurd (omega arith)
rest_is (t ∷ ts) zero d s l e = ap (λ (u : Step). u ∷ ts) e
rest_is (t ∷ ts) (suc i) d s l e = let n : suc i + 1 ≡ suc (i + 1) = omega arith in rest_is ts i d s (omega arith) e ∙ ap (λ (k : ℕ). s ∷ drop k (t ∷ ts)) (sym n)

-- the step of what stands for one
step_within : {A : Type 0} (f : A → Step) (steps : List A) (i : ℕ) → i < length steps → i < length (map f steps)
step_within f steps i l = omega (arith, length-map steps f)

step_is : {A : Type 0} (f : A → Step) (steps : List A) (i : ℕ) (a : A) (r s : Step) → i < length steps → a ≡ get_or steps i a → r ≡ f a → r ≡ s → get_or (map f steps) i s ≡ s
step_is f steps i a r s l at is e = get_or-map f steps i a s l ∙ ap f (sym at) ∙ sym is ∙ e

pub rest_at : {A : Type 0} (f : A → Step) (steps : List A) (i : ℕ) (a : A) (r s : Step) → i < length steps → a ≡ get_or steps i a → r ≡ f a → r ≡ s → drop i (map f steps) ≡ s ∷ drop (i + 1) (map f steps)
rest_at f steps i a r s l at is e = rest_is (map f steps) i s s (step_within f steps i l) (step_is f steps i a r s l at is e)

if_false : {A : Type 0} (b : Bool) (x y : A) → b ≡ false → (if b then x else y) ≡ y
if_false b x y e = ap (λ (c : Bool). if c then x else y) e

if_true : {A : Type 0} (b : Bool) (x y : A) → b ≡ true → (if b then x else y) ≡ x
if_true b x y e = ap (λ (c : Bool). if c then x else y) e

pub set_goes : (most sets depth i k : ℕ) (rest : List Step) → k < sets → depth ≢ most → fault_from most sets i depth (Set k ∷ rest) ≡ fault_from most sets (i + 1) (depth + 1) rest
unfolding fault_from
set_goes most sets depth i k rest l n = if_false (leb sets k) _ _ (lt-leb sets k l) ∙ if_false (eqb depth most) _ _ (ne_eqb depth most n)

pub combine_goes : (most sets depth i : ℕ) (operation : Operation) (rest : List Step) → 2 ≤ depth → fault_from most sets i depth (Combine operation ∷ rest) ≡ fault_from most sets (i + 1) (depth - 1) rest
unfolding fault_from
combine_goes most sets depth i operation rest h = if_false (ltb depth 2) _ _ (le-ltb depth 2 h)

pub set_missing : (most sets depth i k : ℕ) (rest : List Step) → sets ≤ k → fault_from most sets i depth (Set k ∷ rest) ≡ Some (NoSet i)
unfolding fault_from
set_missing most sets depth i k rest l = if_true (leb sets k) _ _ (le-leb sets k l)

pub set_deep : (most sets depth i k : ℕ) (rest : List Step) → k < sets → depth ≡ most → fault_from most sets i depth (Set k ∷ rest) ≡ Some (TooDeep i)
unfolding fault_from
set_deep most sets depth i k rest l e = if_false (leb sets k) _ _ (lt-leb sets k l) ∙ if_true (eqb depth most) _ _ (eq-eqb depth most e)

pub operand_missing : (most sets depth i : ℕ) (operation : Operation) (rest : List Step) → depth < 2 → fault_from most sets i depth (Combine operation ∷ rest) ≡ Some (MissingOperand i)
unfolding fault_from
operand_missing most sets depth i operation rest h = if_true (ltb depth 2) _ _ (lt-ltb depth 2 h)

rest_none : {A : Type 0} (f : A → Step) (steps : List A) (i : ℕ) → length steps ≤ i → drop i (map f steps) ≡ []
rest_none f steps i l = drop_all i (map f steps) (omega (arith, length-map steps f))

pub none_left_over : {A : Type 0} (f : A → Step) (most sets depth i : ℕ) (steps : List A) → length steps ≤ i → depth ≡ 0 → fault_from most sets i depth (drop i (map f steps)) ≡ Some Empty
unfolding fault_from
none_left_over f most sets depth i steps l e = ap (fault_from most sets i depth) (rest_none f steps i l) ∙ if_true (eqb depth 0) _ _ (eq-eqb depth 0 e)

pub one_left_over : {A : Type 0} (f : A → Step) (most sets depth i : ℕ) (steps : List A) → length steps ≤ i → depth ≡ 1 → fault_from most sets i depth (drop i (map f steps)) ≡ None
unfolding fault_from
one_left_over f most sets depth i steps l e = ap (fault_from most sets i depth) (rest_none f steps i l) ∙ if_false (eqb depth 0) _ _ (ne_eqb depth 0 (λ z. omega arith)) ∙ if_true (eqb depth 1) _ _ (eq-eqb depth 1 e)

pub more_left_over : {A : Type 0} (f : A → Step) (most sets depth i : ℕ) (steps : List A) → length steps ≤ i → 1 < depth → fault_from most sets i depth (drop i (map f steps)) ≡ Some (LeftOver depth)
unfolding fault_from
more_left_over f most sets depth i steps l e =
    ap (fault_from most sets i depth) (rest_none f steps i l) ∙ if_false (eqb depth 0) _ _ (ne_eqb depth 0 (λ z. omega arith)) ∙ if_false (eqb depth 1) _ _ (ne_eqb depth 1 (λ z. omega arith))

-- ---- the most operands that wait at once

at_least : (depth : ℕ) (steps : List Step) → depth ≤ most_waiting depth steps
unfolding most_waiting
at_least depth [] = omega arith
at_least depth (Set i ∷ steps) = omega arith
at_least depth (Combine operation ∷ steps) = omega arith

pub most_after_set : (most new depth k : ℕ) (rest : List Step) → depth ≤ most → new ≡ max most (depth + 1) → max most (most_waiting depth (Set k ∷ rest)) ≡ max new (most_waiting (depth + 1) rest)
unfolding most_waiting
most_after_set most new depth k rest h e = omega (arith, at_least (depth + 1) rest)

pub most_after_combine : (most depth : ℕ) (operation : Operation) (rest : List Step) → depth ≤ most → max most (most_waiting depth (Combine operation ∷ rest)) ≡ max most (most_waiting (depth - 1) rest)
unfolding most_waiting
most_after_combine most depth operation rest h = omega arith

pub most_at_end : {A : Type 0} (f : A → Step) (most depth i : ℕ) (steps : List A) → length steps ≤ i → depth ≤ most → max most (most_waiting depth (drop i (map f steps))) ≡ most
unfolding most_waiting
most_at_end f most depth i steps l h = ap (λ rest. max most (most_waiting depth rest)) (rest_none f steps i l) ∙ omega arith

-- what steps without a fault show
pub record SetFits (most sets depth i k : ℕ) (rest : List Step) : Type 0 where
  pub within : k < sets
  pub room : depth ≢ most
  pub later : fault_from most sets (i + 1) (depth + 1) rest ≡ None

pub record OperandsWait (most sets depth i : ℕ) (rest : List Step) : Type 0 where
  pub two : 2 ≤ depth
  pub later : fault_from most sets (i + 1) (depth - 1) rest ≡ None

not_then : {A : Type 0} (b : Bool) (a : A) (r : Option A) → (if b then Some a else r) ≡ None → (b ≡ false) × (r ≡ None)
not_then true a r e = absurd (none-some a (sym e))
not_then false a r e = (refl, e)

not_else : {A : Type 0} (b : Bool) (a : A) → (if b then None else Some a) ≡ None → b ≡ true
not_else true a e = refl
not_else false a e = absurd (none-some a (sym e))

different : (a b : ℕ) → eqb a b ≡ false → a ≢ b
different a b e same = false≢true (sym e ∙ eq-eqb a b same)

set_fits : (most sets depth i k : ℕ) (rest : List Step) → fault_from most sets i depth (Set k ∷ rest) ≡ None → SetFits most sets depth i k rest
unfolding fault_from
set_fits most sets depth i k rest e =
    let first = not_then (leb sets k) (NoSet i) (if eqb depth most then Some (TooDeep i) else fault_from most sets (i + 1) (depth + 1) rest) e in
    let second = not_then (eqb depth most) (TooDeep i) (fault_from most sets (i + 1) (depth + 1) rest) first.1 in
    record { within = leb-false sets k first.0; room = different depth most second.0; later = second.1 }

operands_wait : (most sets depth i : ℕ) (operation : Operation) (rest : List Step) → fault_from most sets i depth (Combine operation ∷ rest) ≡ None → OperandsWait most sets depth i rest
unfolding fault_from
operands_wait most sets depth i operation rest e =
    let first = not_then (ltb depth 2) (MissingOperand i) (fault_from most sets (i + 1) (depth - 1) rest) e in
    record { two = ltb-false depth 2 first.0; later = first.1 }

pub set_at : {A : Type 0} (f : A → Step) (most sets depth i k : ℕ) (steps : List A) (a : A) (r : Step) → i < length steps → a ≡ get_or steps i a → r ≡ f a → r ≡ Set k → fault_from most sets i depth (drop i (map f steps)) ≡ None
    → SetFits most sets depth i k (drop (i + 1) (map f steps))
set_at f most sets depth i k steps a r l at is e none =
    set_fits most sets depth i k (drop (i + 1) (map f steps)) (sym (ap (fault_from most sets i depth) (rest_at f steps i a r (Set k) l at is e)) ∙ none)

pub combine_at : {A : Type 0} (f : A → Step) (most sets depth i : ℕ) (operation : Operation) (steps : List A) (a : A) (r : Step) → i < length steps → a ≡ get_or steps i a → r ≡ f a → r ≡ Combine operation
    → fault_from most sets i depth (drop i (map f steps)) ≡ None → OperandsWait most sets depth i (drop (i + 1) (map f steps))
combine_at f most sets depth i operation steps a r l at is e none =
    operands_wait most sets depth i operation (drop (i + 1) (map f steps)) (sym (ap (fault_from most sets i depth) (rest_at f steps i a r (Combine operation) l at is e)) ∙ none)

one_waits : (depth : ℕ) (fault : QueryError) → (if eqb depth 1 then None else Some fault) ≡ None → depth ≡ 1
one_waits depth fault e = eqb-true depth 1 (not_else (eqb depth 1) fault e)

one_left : {A : Type 0} (f : A → Step) (most sets depth i : ℕ) (steps : List A) → length steps ≤ i → fault_from most sets i depth (drop i (map f steps)) ≡ None → depth ≡ 1
unfolding fault_from
one_left f most sets depth i steps l e =
    let at_end : fault_from most sets i depth [] ≡ None = sym (ap (fault_from most sets i depth) (rest_none f steps i l)) ∙ e in
    one_waits depth (LeftOver depth) (not_then (eqb depth 0) Empty (if eqb depth 1 then None else Some (LeftOver depth)) at_end).1

pub some_waits : (most sets : ℕ) (steps : List Step) → fault_from most sets 0 0 steps ≡ None → 0 < most
unfolding fault_from
some_waits most sets [] e = absurd (none-some Empty (sym e))
some_waits most sets (Set k ∷ steps) e = let room = (set_fits most sets 0 0 k steps e).room in omega arith
some_waits most sets (Combine operation ∷ steps) e = let two = (operands_wait most sets 0 0 operation steps e).two in absurd (omega arith)

-- ---- the operands that wait, and what the code stores for each

-- what is stored at the first positions, the last first
abbrev pub tower : {A : Type 0} → A → List A → ℕ → List A
tower z xs zero = []
tower z xs (suc depth) = get_or xs depth z ∷ tower z xs depth

tower_unchanged : {A : Type 0} (z : A) (xs : List A) (i depth : ℕ) (v : A) → depth ≤ i → tower z (set xs i v) depth ≡ tower z xs depth
tower_unchanged z xs i zero v h = refl
tower_unchanged z xs i (suc depth) v h = ap (λ x. x ∷ tower z (set xs i v) depth) (get_or-set_other xs i depth v z (λ e. omega arith)) ∙ ap (λ ys. get_or xs depth z ∷ ys) (tower_unchanged z xs i depth v (omega arith))

tower_set : {A : Type 0} (z : A) (xs : List A) (depth : ℕ) (v : A) → depth < length xs → tower z (set xs depth v) (suc depth) ≡ v ∷ tower z xs depth
tower_set z xs depth v h = ap (λ x. x ∷ tower z (set xs depth v) depth) (get_or-set_same xs depth v z h) ∙ ap (λ ys. v ∷ ys) (tower_unchanged z xs depth depth v (omega arith))

-- each operand that waits is as what is stored for it
abbrev pub Stored : {A : Type 0} → (A → Bool → Type 0) → A → List A → ℕ → List Bool → Type 0
Stored R z xs depth waiting = AllZip R (tower z xs depth) waiting

pub stored_set : {A : Type 0} (R : A → Bool → Type 0) (z : A) (xs : List A) (depth : ℕ) (waiting : List Bool) (v : A) (b : Bool) → depth < length xs → R v b → Stored R z xs depth waiting
    → Stored R z (set xs depth v) (depth + 1) (b ∷ waiting)
stored_set R z xs depth waiting v b h r stored =
    let more : depth + 1 ≡ suc depth = omega arith in
    subst (λ (d : ℕ). Stored R z (set xs depth v) d (b ∷ waiting)) (sym more)
    (subst (λ ys. AllZip R ys (b ∷ waiting)) (sym (tower_set z xs depth v h)) (r, stored))

stored_two : {A : Type 0} (R : A → Bool → Type 0) (z : A) (xs : List A) (low : ℕ) (waiting : List Bool) (joined : Operation → Bool → Bool → Bool) (member : ℕ → Bool) (operation : Operation) (v : A)
    → ((a b : Bool) → R (get_or xs low z) a → R (get_or xs (suc low) z) b → R v (joined operation a b)) → Stored R z xs (suc (suc low)) waiting
    → AllZip R (v ∷ tower z xs low) (waiting_after joined member waiting (Combine operation))
stored_two R z xs low [] joined member operation v join stored = absurd stored
stored_two R z xs low (b ∷ []) joined member operation v join stored = absurd stored.1
stored_two R z xs low (b ∷ a ∷ waiting) joined member operation v join stored = (join a b stored.1.0 stored.0, stored.1.1)

pub stored_combined : {A : Type 0} (R : A → Bool → Type 0) (z : A) (xs : List A) (depth low high : ℕ) (waiting : List Bool) (joined : Operation → Bool → Bool → Bool) (member : ℕ → Bool) (operation : Operation) (v : A) → 2 ≤ depth → low + 2 ≡ depth → low + 1 ≡ high → low < length xs
    → ((a b : Bool) → R (get_or xs low z) a → R (get_or xs high z) b → R v (joined operation a b)) → Stored R z xs depth waiting
    → Stored R z (set xs low v) high (waiting_after joined member waiting (Combine operation))
stored_combined R z xs depth low high waiting joined member operation v two d h l join stored =
    let is : depth ≡ suc (suc low) = omega arith in
    let above : high ≡ suc low = omega arith in
    let both = stored_two R z xs low waiting joined member operation v (λ a b p q. join a b p (subst (λ (n : ℕ). R (get_or xs n z) b) (sym above) q)) (subst (λ (n : ℕ). Stored R z xs n waiting) is stored) in
    subst (λ (n : ℕ). Stored R z (set xs low v) n (waiting_after joined member waiting (Combine operation))) (sym above)
    (subst (λ ys. AllZip R ys (waiting_after joined member waiting (Combine operation))) (sym (tower_set z xs low v l)) both)

-- ---- the steps one by one

one_more : (joined : Operation → Bool → Bool → Bool) (steps : List Step) (i : ℕ) (member : ℕ → Bool) (d s : Step) → i < length steps → get_or steps i d ≡ s → evaluate joined (take (i + 1) steps) member ≡ waiting_after joined member (evaluate joined (take i steps) member) s
one_more joined steps i member d s l e = fold_more (waiting_after joined member) [] steps i d l ∙ ap (waiting_after joined member (evaluate joined (take i steps) member)) e

pub passes_at : (test : List ℕ → Bool) (sets : List (List ℕ)) (i : ℕ) (xs : List ℕ) → i < length sets → get_or sets i [] ≡ xs → passes test sets i ≡ test xs
unfolding passes
passes_at test sets i xs l e = get_or-map test sets i [] false l ∙ ap test e

-- the steps are at their end: what is stored for the operand that is left is as the answer
stored_one : {A : Type 0} (R : A → Bool → Type 0) (z : A) (xs : List A) (waiting : List Bool) → Stored R z xs (suc zero) waiting → R (get_or xs 0 z) (get_or waiting 0 false)
stored_one R z xs [] stored = absurd stored
stored_one R z xs (b ∷ waiting) stored = stored.0

pub stored_last : {A B : Type 0} (f : B → Step) (R : A → Bool → Type 0) (z : A) (retained : List A) (most count depth i : ℕ) (joined : Operation → Bool → Bool → Bool) (member : ℕ → Bool) (steps : List B) → length steps ≤ i
    → fault_from most count i depth (drop i (map f steps)) ≡ None
    → Stored R z retained depth (evaluate joined (take i (map f steps)) member) → R (get_or retained 0 z) (get_or (evaluate joined (map f steps) member) 0 false)
stored_last f R z retained most count depth i joined member steps l none stored =
    let one : depth ≡ suc zero = one_left f most count depth i steps l none in
    let all : take i (map f steps) ≡ map f steps = take_all i (map f steps) (omega (arith, length-map steps f)) in
    stored_one R z retained (evaluate joined (map f steps) member)
    (subst (λ (ss : List Step). Stored R z retained (suc zero) (evaluate joined ss member)) all (subst (λ (d : ℕ). Stored R z retained d (evaluate joined (take i (map f steps)) member)) one stored))

pub stored_found : {A B : Type 0} (f : B → Step) (R : A → Bool → Type 0) (z : A) (retained : List A) (most count depth i : ℕ) (sets : List (List ℕ)) (steps : List B) (x : ℕ) → length steps ≤ i → fault_from most count i depth (drop i (map f steps)) ≡ None
    → Stored R z retained depth (evaluate apply (take i (map f steps)) (passes (has x) sets)) → R (get_or retained 0 z) (is_found sets (map f steps) x)
unfolding is_found
stored_found f R z retained most count depth i sets steps x l none stored = stored_last f R z retained most count depth i apply (passes (has x) sets) steps l none stored

-- ---- what is stored for an operand

-- a key from one on, below which the operand does not have this id
abbrev pub Before : ℕ → ℕ → ℕ → Bool → Type 0
Before from x key b = (from ≤ key) × ((key ≤ 65536) × (x / 65536 < key → b ≡ false))

-- high bytes without which the operand does not have this id
abbrev pub Covers : ℕ → List ℕ → Bool → Type 0
Covers x highs b = has_bit highs (x % 65536 / 256) ≡ false → b ≡ false

-- bits that say whether the operand has this id
abbrev pub IsBit : ℕ → List ℕ → Bool → Type 0
IsBit x words b = has_bit words (x % 65536) ≡ b

pub before_joined : (operation : Operation) (from x key k l : ℕ) (a b : Bool) → (key ≡ k) ⊎ (key ≡ l) → ((n : ℕ) (p q : Bool) → n < key → (n < k → p ≡ false) → (n < l → q ≡ false) → apply operation p q ≡ false)
    → Before from x k a → Before from x l b → Before from x key (apply operation a b)
before_joined operation from x key k l a b (inl e) none p q = (omega (arith, p.0), (omega (arith, p.1.0), λ h. none (x / 65536) a b h p.1.1 q.1.1))
before_joined operation from x key k l a b (inr e) none p q = (omega (arith, q.0), (omega (arith, q.1.0), λ h. none (x / 65536) a b h p.1.1 q.1.1))

-- a key from which on the operand can have ids
abbrev pub Reaches : ℕ → ℕ → Bool → Type 0
Reaches to key b = key ≤ to → b ≡ true

or_up : (p q a b : Bool) → (p ≡ true → q ≡ true) → (a ≡ true → b ≡ true) → (p || a) ≡ true → (q || b) ≡ true
or_up true q a b f g e = ap (λ (c : Bool). c || b) (f refl)
or_up false true a b f g e = refl
or_up false false a b f g e = g e

any_up : (p q : ℕ → Bool) (xs : List ℕ) → ((x : ℕ) → p x ≡ true → q x ≡ true) → list_any p xs ≡ true → list_any q xs ≡ true
any_up p q [] f e = e
any_up p q (x ∷ xs) f e = or_up (p x) (q x) (list_any p xs) (list_any q xs) (f x) (any_up p q xs f) e

within : (key from to : ℕ) → from ≤ key → key ≤ to → (leb from key && leb key to) ≡ true
within key from to a b = ap (λ (c : Bool). c && leb key to) (le-leb from key a) ∙ le-leb key to b

wider : (key low high from to : ℕ) → from ≤ low → high ≤ to → (leb low key && leb key high) ≡ true → (leb from key && leb key to) ≡ true
wider key low high from to a b e = grind (arith, nat_tests)

-- ids of a key are also of keys that it is among
pub has_more_keys : (low high from to : ℕ) (xs : List ℕ) → from ≤ low → high ≤ to → has_keys low high xs ≡ true → has_keys from to xs ≡ true
has_more_keys low high from to xs a b e = any_up (λ x. leb low (x / 65536) && leb (x / 65536) high) (λ x. leb from (x / 65536) && leb (x / 65536) to) xs (λ x. wider (x / 65536) low high from to a b) e

pub has_its_key : (x from to : ℕ) (xs : List ℕ) → from ≤ x / 65536 → x / 65536 ≤ to → has x xs ≡ true → has_keys from to xs ≡ true
has_its_key x from to xs a b e =
    any_up (λ y. eqb y x) (λ y. leb from (y / 65536) && leb (y / 65536) to) xs (λ y same. subst (λ (z : ℕ). (leb from (z / 65536) && leb (z / 65536) to) ≡ true) (sym (eqb-true y x same)) (within (x / 65536) from to a b)) e

-- the first of some ids has their first key
pub has_first_key : (low key : ℕ) (xs ids : List ℕ) → key ≡ first_key xs → low ≤ key → key < 65536 → ((x : ℕ) → low * 65536 ≤ x → has x ids ≡ has x xs) → has_keys key key ids ≡ true
has_first_key low key [] ids e l h same = absurd (omega arith)
has_first_key low key (x ∷ xs) ids e l h same =
    let own : has x (x ∷ xs) ≡ true = ap (λ (c : Bool). c || has x xs) (eq-eqb x x refl) in
    has_its_key x key key ids (omega arith) (omega arith) (same x (omega arith) ∙ own)

pub reaches_joined : (operation : Operation) (to key k l : ℕ) (a b : Bool) → ((n : ℕ) (p q : Bool) → key ≤ n → (k ≤ n → p ≡ true) → (l ≤ n → q ≡ true) → can_give operation p q ≡ true)
    → Reaches to k a → Reaches to l b → Reaches to key (can_give operation a b)
reaches_joined operation to key k l a b some p q h = some to a b h p q

pub covers_joined : (operation : Operation) (x : ℕ) (highs ones others : List ℕ) (a b : Bool)
    → ((h : ℕ) → h < 256 → has_bit highs h ≡ false → apply operation (has_bit ones h) (has_bit others h) ≡ false)
    → ((h : ℕ) → h < 256 → has_bit highs h ≡ false → apply operation (has_bit ones h) false ≡ false)
    → ((h : ℕ) → h < 256 → has_bit highs h ≡ false → apply operation false (has_bit others h) ≡ false)
    → Covers x ones a → Covers x others b → Covers x highs (apply operation a b)
covers_joined operation x highs ones others a b both left right p q none =
    let h : ℕ = x % 65536 / 256 in
    let small : h < 256 = omega arith in
    none_of_highs operation (has_bit ones h) (has_bit others h) a b p q (both h small none) (left h small none) (right h small none)

pub joined_set : (xs front back : List (List ℕ)) (i : ℕ) (v : List ℕ) → xs ≡ front ++ back → i < length front → set front i v ++ back ≡ set xs i v
joined_set xs front back i v e l = sym (set-append_left front back i v l) ∙ ap (λ (ys : List (List ℕ)). set ys i v) (sym e)

pub bit_joined : (operation : Operation) (x : ℕ) (xs front back : List (List ℕ)) (low high : ℕ) (words : List ℕ) (a b : Bool) → front ≡ take high xs → back ≡ drop high xs → low < high
    → has_bit words (x % 65536) ≡ apply operation (has_bit (get_or front low []) (x % 65536)) (has_bit (get_or back 0 []) (x % 65536))
    → IsBit x (get_or xs low []) a → IsBit x (get_or xs high []) b → IsBit x words (apply operation a b)
bit_joined operation x xs front back low high words a b f g l own p q =
    let first : get_or front low [] ≡ get_or xs low [] = ap (λ (ys : List (List ℕ)). get_or ys low []) f ∙ get_or-take high xs low [] l in
    let zeroth : high + 0 ≡ high = omega arith in
    let second : get_or back 0 [] ≡ get_or xs high [] = ap (λ (ys : List (List ℕ)). get_or ys 0 []) g ∙ get_or-drop high xs 0 [] ∙ ap (λ (n : ℕ). get_or xs n []) zeroth in
    own ∙ ap (λ (ws : List ℕ). apply operation (has_bit ws (x % 65536)) (has_bit (get_or back 0 []) (x % 65536))) first
    ∙ ap (λ (ws : List ℕ). apply operation (has_bit (get_or xs low []) (x % 65536)) (has_bit ws (x % 65536))) second
    ∙ ap (λ (c : Bool). apply operation c (has_bit (get_or xs high []) (x % 65536))) p ∙ ap (apply operation a) q

pub stored_after_set : {A B C : Type 0} (f : B → Step) (h : C → List ℕ) (R : A → Bool → Type 0) (z : A) (retained : List A) (depth i k : ℕ) (sets : List C) (steps : List B) (b : B) (r : Step) (s : C) (xs : List ℕ)
    (joined : Operation → Bool → Bool → Bool) (test : List ℕ → Bool) (v : A)
    → i < length steps → b ≡ get_or steps i b → r ≡ f b → r ≡ Set k → k < length sets → s ≡ get_or sets k s → xs ≡ h s → depth < length retained → R v (test xs)
    → Stored R z retained depth (evaluate joined (take i (map f steps)) (passes test (map h sets)))
    → Stored R z (set retained depth v) (depth + 1) (evaluate joined (take (i + 1) (map f steps)) (passes test (map h sets)))
stored_after_set f h R z retained depth i k sets steps b r s xs joined test v l at is e within set_is own room fact stored =
    let member = passes test (map h sets) in
    let in_it : member k ≡ test xs = passes_at test (map h sets) k xs (omega (arith, length-map sets h)) (set_ids h sets k s within set_is ∙ sym own) in
    subst (λ bs. Stored R z (set retained depth v) (depth + 1) bs) (sym (one_more joined (map f steps) i member (Set k) (Set k) (step_within f steps i l) (step_is f steps i b r (Set k) l at is e)))
    (stored_set R z retained depth (evaluate joined (take i (map f steps)) member) v (member k) room (subst (R v) (sym in_it) fact) stored)

pub stored_after_combine : {A B : Type 0} (f : B → Step) (R : A → Bool → Type 0) (z : A) (retained : List A) (depth low high i : ℕ) (steps : List B) (b : B) (r : Step) (operation : Operation)
    (joined : Operation → Bool → Bool → Bool) (member : ℕ → Bool) (v : A)
    → i < length steps → b ≡ get_or steps i b → r ≡ f b → r ≡ Combine operation → 2 ≤ depth → low + 2 ≡ depth → low + 1 ≡ high → low < length retained → ((a b : Bool) → R (get_or retained low z) a → R (get_or retained high z) b → R v (joined operation a b))
    → Stored R z retained depth (evaluate joined (take i (map f steps)) member) → Stored R z (set retained low v) high (evaluate joined (take (i + 1) (map f steps)) member)
stored_after_combine f R z retained depth low high i steps b r operation joined member v l at is e two under over room join stored =
    subst (λ bs. Stored R z (set retained low v) high bs) (sym (one_more joined (map f steps) i member (Combine operation) (Combine operation) (step_within f steps i l) (step_is f steps i b r (Combine operation) l at is e)))
    (stored_combined R z retained depth low high (evaluate joined (take i (map f steps)) member) joined member operation v two under over room join stored)
