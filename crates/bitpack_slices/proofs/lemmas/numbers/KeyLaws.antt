-- The ids of one key, by their low 16 bits.
use Rattle.std.proofs.Common.{◌≡◌, ℕ, ◌+◌, ◌*◌, ◌/◌, ◌%◌, ◌^◌, ◌<◌, ◌≤◌, Bool, true, false, ◌||◌, ◌&&◌, not, eqb, List, [], ◌∷◌, ◌++◌, map, refl, sym, ap, ◌∙◌, arith, cond, append-nil}
use Rattle.std.specs.List.{filter, range_with_len}
use Rattle.std.proofs.Math.Bool.{and_comm}
use Rattle.std.proofs.lemmas.Bool.{ne_eqb}
use Rattle.bitpack_slices.proofs.lemmas.numbers.AnswerLaws.{each, none_pass, those_part, those_same}
use Rattle.bitpack_slices.proofs.lemmas.bits.CombineLaws.{apply_none}
use Rattle.bitpack_slices.proofs.lemmas.bodies.LoadLaws.{those_are}
use Rattle.bitpack_slices.proofs.lemmas.bodies.ReadLaws.{eqb_same}
use Rattle.bitpack_slices.specs.Bitmaps.{has_bit}
use Rattle.bitpack_slices.specs.Lists.{in_bitmap, retains}
use Rattle.bitpack_slices.specs.Operations.{answer, apply, combined, those}
use Rattle.bitpack_slices.specs.Reads.{has}
use Rattle.bitpack_slices.specs.Bodies.{IsRising}
use Rattle.bitpack_slices.specs.declared.operation.Operation.{Operation}
use Rattle.bitpack_slices.specs.declared.operation.Operation.TheVariants.{And, AndNot}

-- the low 16 bits of ids
abbrev pub lows_in : List ℕ → List ℕ
lows_in ids = map (λ id. id % 65536) ids

-- ids of a key
abbrev pub AreOf : ℕ → List ℕ → Type 0
AreOf key ids = ids ≡ map (λ low. key * 65536 + low) (lows_in ids)

own_raised : (k x : ℕ) (xs : List ℕ) → has (k + x) (map (λ low. k + low) xs) ≡ has x xs
own_raised k x [] = refl
own_raised k x (y ∷ ys) =
    ap (λ (b : Bool). b || has (k + x) (map (λ low. k + low) ys)) (eqb_same (k + y) (k + x) y x (λ e. omega arith) (λ e. omega arith))
    ∙ ap (λ (b : Bool). eqb y x || b) (own_raised k x ys)

none_below : (k x : ℕ) (ids : List ℕ) → x < k → has x (map (λ low. k + low) (lows_in ids)) ≡ false
none_below k x [] h = refl
none_below k x (y ∷ ys) h = ap (λ (b : Bool). b || has x (map (λ low. k + low) (lows_in ys))) (ne_eqb (k + y % 65536) x (λ e. omega arith)) ∙ none_below k x ys h

none_above : (k x : ℕ) (ids : List ℕ) → k + 65536 ≤ x → has x (map (λ low. k + low) (lows_in ids)) ≡ false
none_above k x [] h = refl
none_above k x (y ∷ ys) h = ap (λ (b : Bool). b || has x (map (λ low. k + low) (lows_in ys))) (ne_eqb (k + y % 65536) x (λ e. omega arith)) ∙ none_above k x ys h

pub of_below : (key x : ℕ) (ids : List ℕ) → AreOf key ids → x < key * 65536 → has x ids ≡ false
of_below key x ids are h = ap (has x) are ∙ none_below (key * 65536) x ids h

pub of_above : (key x : ℕ) (ids : List ℕ) → AreOf key ids → key * 65536 + 65536 ≤ x → has x ids ≡ false
of_above key x ids are h = ap (has x) are ∙ none_above (key * 65536) x ids h

pub of_own : (key x : ℕ) (ids : List ℕ) → AreOf key ids → has (key * 65536 + x) ids ≡ has x (lows_in ids)
of_own key x ids are = ap (has (key * 65536 + x)) are ∙ own_raised (key * 65536) x (lows_in ids)

-- what passes a test is of a key
of_key : (key : ℕ) (p q : ℕ → Bool) → key < 65536 → ((x : ℕ) → x < key * 65536 → p x ≡ false) → ((x : ℕ) → key * 65536 + 65536 ≤ x → p x ≡ false)
    → ((x : ℕ) → x < 65536 → p (key * 65536 + x) ≡ q x) → those (2 ^ 32) p ≡ map (λ low. key * 65536 + low) (those 65536 q)
of_key key p q small below above own =
    those_part (2 ^ 32) (key * 65536) 65536 p q (λ x. false) (omega arith) below own (λ x h. refl) (λ x a b. above x a)
    ∙ ap (λ (l : List ℕ). map (λ low. key * 65536 + low) (those 65536 q) ++ l) (none_pass (2 ^ 32) (λ x. false) (λ x h. refl))
    ∙ append-nil (map (λ low. key * 65536 + low) (those 65536 q))

-- the answer of two lists of ids of a key
pub answer_of_key : (operation : Operation) (key : ℕ) (xs ys : List ℕ) → key < 65536 → AreOf key xs → AreOf key ys
    → answer operation xs ys ≡ map (λ low. key * 65536 + low) (combined 65536 operation (lows_in xs) (lows_in ys))
answer_of_key operation key xs ys small a b =
    of_key key (λ x. apply operation (has x xs) (has x ys)) (λ x. apply operation (has x (lows_in xs)) (has x (lows_in ys))) small
    (λ x h. apply_none operation (has x xs) (has x ys) (of_below key x xs a h) (of_below key x ys b h))
    (λ x h. apply_none operation (has x xs) (has x ys) (of_above key x xs a h) (of_above key x ys b h))
    (λ x h. each operation (has (key * 65536 + x) xs) (has x (lows_in xs)) (has (key * 65536 + x) ys) (has x (lows_in ys)) (of_own key x xs a) (of_own key x ys b))

-- ---- ids that are looked up

one_both : (a b : Bool) (q : ℕ → Bool) (y : ℕ) (l r : List ℕ) → q y ≡ b → l ≡ filter q r → cond (a && b) (y ∷ l) l ≡ filter q (cond a (y ∷ r) r)
one_both true b q y l r e f = ap (λ (m : List ℕ). cond b (y ∷ m) m) f ∙ ap (λ (c : Bool). cond c (y ∷ filter q r) (filter q r)) (sym e)
one_both false b q y l r e f = f

filter_both : (p q : ℕ → Bool) (xs : List ℕ) → filter (λ x. p x && q x) xs ≡ filter q (filter p xs)
filter_both p q [] = refl
filter_both p q (x ∷ xs) = one_both (p x) (q x) q x (filter (λ y. p y && q y) xs) (filter p xs) refl (filter_both p q xs)

-- those of a list that pass a test
pub those_of : (n : ℕ) (p : ℕ → Bool) (xs : List ℕ) → IsRising 0 n xs → those n (λ x. has x xs && p x) ≡ filter p xs
unfolding those
those_of n p xs r = filter_both (λ x. has x xs) p (range_with_len 0 n) ∙ ap (filter p) (those_are (λ x. has x xs) n xs r (λ i h. refl))

-- and, if they are there
abbrev pub looks : Bool → Operation
looks there = cond there And AndNot

retains_own : (there : Bool) (key x : ℕ) (numbers : List ℕ) → x < 65536 → retains there numbers (key * 65536 + x) ≡ cond there (has x numbers) (not (has x numbers))
retains_own there key x numbers h = let e : (key * 65536 + x) % 65536 ≡ x = omega arith in ap (λ (n : ℕ). cond there (has n numbers) (not (has n numbers))) e

looked : (there p q : Bool) → (p && cond there q (not q)) ≡ apply (looks there) p q
looked true p q = refl
looked false p q = refl

pub filter_of_key : (there : Bool) (key : ℕ) (xs numbers : List ℕ) → key < 65536 → IsRising 0 (2 ^ 32) xs → AreOf key xs
    → filter (retains there numbers) xs ≡ map (λ low. key * 65536 + low) (combined 65536 (looks there) (lows_in xs) numbers)
filter_of_key there key xs numbers small r a =
    sym (those_of (2 ^ 32) (retains there numbers) xs r)
    ∙ of_key key (λ x. has x xs && retains there numbers x) (λ x. apply (looks there) (has x (lows_in xs)) (has x numbers)) small
    (λ x h. ap (λ (b : Bool). b && retains there numbers x) (of_below key x xs a h))
    (λ x h. ap (λ (b : Bool). b && retains there numbers x) (of_above key x xs a h))
    (λ x h. ap (λ (b : Bool). b && retains there numbers (key * 65536 + x)) (of_own key x xs a) ∙ ap (λ (b : Bool). has x (lows_in xs) && b) (retains_own there key x numbers h)
    ∙ looked there (has x (lows_in xs)) (has x numbers))

-- ---- a bitmap of low 16 bits

in_matched : (high bit own : Bool) → bit ≡ own → (high ≡ false → own ≡ false) → (high && bit) ≡ own
in_matched true bit own e none = e
in_matched false bit own e none = sym (none refl)

pub mixed_of_key : (operation : Operation) (numbers xs highs words : List ℕ) → ((x : ℕ) → has_bit words x ≡ has x xs) → ((x : ℕ) → has_bit highs (x / 256) ≡ false → has x xs ≡ false)
    → those 65536 (λ x. apply operation (has x numbers) (in_bitmap highs words x)) ≡ combined 65536 operation numbers xs
mixed_of_key operation numbers xs highs words bits none =
    those_same 65536 (λ x. apply operation (has x numbers) (in_bitmap highs words x)) (λ x. apply operation (has x numbers) (has x xs))
    (λ x h. ap (apply operation (has x numbers)) (in_matched (has_bit highs (x / 256)) (has_bit words x) (has x xs) (bits x) (none x)))

-- ---- the two sets exchanged

pub and_turned : (n : ℕ) (xs ys : List ℕ) → combined n And xs ys ≡ combined n And ys xs
and_turned n xs ys = those_same n (λ x. apply And (has x xs) (has x ys)) (λ x. apply And (has x ys) (has x xs)) (λ x h. and_comm (has x xs) (has x ys))
