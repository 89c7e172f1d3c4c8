-- How many ids an operation on two sets gives, by how many both have.
use Rattle.std.proofs.Common.{◌≡◌, ℕ, ◌+◌, ◌*◌, Bool, true, false, cond, not, ◌&&◌, ◌||◌, List, [], ◌∷◌, length, refl, ap, arith}
use Rattle.std.specs.List.{filter, range_with_len}
use Rattle.bitpack_slices.proofs.ForCallers.{those_are}
use Rattle.bitpack_slices.specs.Bodies.{IsRising}
use Rattle.bitpack_slices.specs.Operations.{those}
use Rattle.bitpack_slices.specs.Reads.{has}
use Rattle.bitpack_sets.proofs.ForCallers.{ids_are_read}
use Rattle.bitpack_sets.specs.Opened.{ids}
use Rattle.bitpack_sets.specs.Sets.{IsSet}
use Rattle.bitpack_sets.specs.declared.id_set.IdSet.{IdSet}

-- the ids of an opened set
pub set_is : (set : IdSet) → IsSet (ids set)
set_is set = (ids_are_read set.bytes.now set.are_bytes set.states.none).0

head_len : (b : Bool) (x : ℕ) (xs : List ℕ) → length (cond b (x ∷ xs) xs) ≡ cond b 1 0 + length xs
head_len true x xs = omega arith
head_len false x xs = omega arith

-- one number more
pub one_more : (p : ℕ → Bool) (x : ℕ) (xs : List ℕ) → length (filter p (x ∷ xs)) ≡ cond (p x) 1 0 + length (filter p xs)
one_more p x xs = head_len (p x) x (filter p xs)

either_bit : (a b : Bool) → cond (a || b) 1 0 + cond (a && b) 1 0 ≡ cond a 1 0 + cond b 1 0
either_bit true true = refl
either_bit true false = refl
either_bit false true = refl
either_bit false false = refl

first_bit : (a b : Bool) → cond (a && not b) 1 0 + cond (a && b) 1 0 ≡ cond a 1 0
first_bit true true = refl
first_bit true false = refl
first_bit false true = refl
first_bit false false = refl

one_bit : (a b : Bool) → cond (cond a (not b) b) 1 0 + 2 * cond (a && b) 1 0 ≡ cond a 1 0 + cond b 1 0
one_bit true true = refl
one_bit true false = refl
one_bit false true = refl
one_bit false false = refl

either_len : (p q : ℕ → Bool) (xs : List ℕ)
    → length (filter (λ x. p x || q x) xs) + length (filter (λ x. p x && q x) xs) ≡ length (filter p xs) + length (filter q xs)
either_len p q [] = refl
either_len p q (x ∷ xs) =
    let ih = either_len p q xs in
    let bits = either_bit (p x) (q x) in
    let all = one_more (λ y. p y || q y) x xs in
    let both = one_more (λ y. p y && q y) x xs in
    let one = one_more p x xs in
    let other = one_more q x xs in
    omega arith

first_len : (p q : ℕ → Bool) (xs : List ℕ) → length (filter (λ x. p x && not (q x)) xs) + length (filter (λ x. p x && q x) xs) ≡ length (filter p xs)
first_len p q [] = refl
first_len p q (x ∷ xs) =
    let ih = first_len p q xs in
    let bits = first_bit (p x) (q x) in
    let all = one_more (λ y. p y && not (q y)) x xs in
    let both = one_more (λ y. p y && q y) x xs in
    let one = one_more p x xs in
    omega arith

one_len : (p q : ℕ → Bool) (xs : List ℕ)
    → length (filter (λ x. cond (p x) (not (q x)) (q x)) xs) + 2 * length (filter (λ x. p x && q x) xs) ≡ length (filter p xs) + length (filter q xs)
one_len p q [] = refl
one_len p q (x ∷ xs) =
    let ih = one_len p q xs in
    let bits = one_bit (p x) (q x) in
    let all = one_more (λ y. cond (p y) (not (q y)) (q y)) x xs in
    let both = one_more (λ y. p y && q y) x xs in
    let one = one_more p x xs in
    let other = one_more q x xs in
    omega arith

-- the numbers of a set below the bound are the set
pub own_len : (n : ℕ) (xs : List ℕ) → IsRising 0 n xs → length (those n (λ x. has x xs)) ≡ length xs
own_len n xs rising = ap (λ (l : List ℕ). length l) (those_are (λ x. has x xs) n xs rising (λ i lt. refl))

pub or_len : (n : ℕ) (xs ys : List ℕ) → IsRising 0 n xs → IsRising 0 n ys
    → length (those n (λ x. has x xs || has x ys)) + length (those n (λ x. has x xs && has x ys)) ≡ length xs + length ys
unfolding those
or_len n xs ys rise rise' =
    let all = either_len (λ x. has x xs) (λ x. has x ys) (range_with_len 0 n) in
    let one = own_len n xs rise in
    let other = own_len n ys rise' in
    omega arith

pub not_len : (n : ℕ) (xs ys : List ℕ) → IsRising 0 n xs
    → length (those n (λ x. has x xs && not (has x ys))) + length (those n (λ x. has x xs && has x ys)) ≡ length xs
unfolding those
not_len n xs ys rise =
    let all = first_len (λ x. has x xs) (λ x. has x ys) (range_with_len 0 n) in
    let one = own_len n xs rise in
    omega arith

pub xor_len : (n : ℕ) (xs ys : List ℕ) → IsRising 0 n xs → IsRising 0 n ys
    → length (those n (λ x. cond (has x xs) (not (has x ys)) (has x ys))) + 2 * length (those n (λ x. has x xs && has x ys)) ≡ length xs + length ys
unfolding those
xor_len n xs ys rise rise' =
    let all = one_len (λ x. has x xs) (λ x. has x ys) (range_with_len 0 n) in
    let one = own_len n xs rise in
    let other = own_len n ys rise' in
    omega arith
