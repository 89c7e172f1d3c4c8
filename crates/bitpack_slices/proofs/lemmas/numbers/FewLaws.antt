-- How many slices numbers have, and how many bytes if each slice has few of them.
use Rattle.std.proofs.Common.{◌≡◌, ℕ, suc, ◌+◌, ◌-◌, ◌/◌, ◌%◌, ◌<◌, ◌≤◌, ◌∙◌, Bool, true, false, not, eqb, cond, List, [], ◌∷◌, drop, length, get_or, refl, sym, ap, inl, inr, arith, eq-eqb, length-drop}
use mir.Val.{bool_byte}
use Rattle.std.proofs.lemmas.Bool.{cond_below, ne_eqb}
use Rattle.std.proofs.lemmas.Bool.Decides.{eqb_tells}
use Rattle.std.proofs.lemmas.List.{drop_more, nil_from_length}
use Rattle.bitpack_slices.proofs.lemmas.numbers.FallLaws.{blocks_size, sizes, two_more}
use Rattle.bitpack_slices.specs.Bodies.{blocks, parts, with_number}
use Rattle.bitpack_slices.specs.Slices.{slice_len}

-- ---- how many slices

record Begins (x : ℕ) (ps : List (ℕ × List ℕ)) : Type 0 where
  high : ℕ
  part : List ℕ
  others : List (ℕ × List ℕ)
  are : ps ≡ (high, part) ∷ others
  high_is : high ≡ x / 256

begins : (x : ℕ) (ps : List (ℕ × List ℕ)) → Begins x (with_number 256 x ps)
unfolding with_number
begins x [] = record { high = x / 256; part = x % 256 ∷ []; others = []; are = refl; high_is = refl }
begins x (p ∷ ps) =
    let either : Bool → List (ℕ × List ℕ) = λ b. cond b ((p.0, x % 256 ∷ p.1) ∷ ps) ((x / 256, x % 256 ∷ []) ∷ p ∷ ps) in
    elim (eqb_tells p.0 (x / 256)) [
      | inl (same, h) ↦ record { high = p.0; part = x % 256 ∷ p.1; others = ps; are = ap either (eq-eqb p.0 (x / 256) h); high_is = h }
      | inr (other, h) ↦ record { high = x / 256; part = x % 256 ∷ []; others = p ∷ ps; are = ap either (ne_eqb p.0 (x / 256) h); high_is = refl }
    ]

one_or_two : (b : Bool) (p q r : ℕ × List ℕ) (ps : List (ℕ × List ℕ)) → length (cond b (p ∷ ps) (q ∷ r ∷ ps)) ≡ bool_byte (not b) + suc (length ps)
one_or_two true p q r ps = omega arith
one_or_two false p q r ps = omega arith

parts_two : (x y : ℕ) (ys : List ℕ) → length (parts 256 (x ∷ y ∷ ys)) ≡ bool_byte (not (eqb (y / 256) (x / 256))) + length (parts 256 (y ∷ ys))
unfolding parts with_number
parts_two x y ys =
    let is : Begins y (parts 256 (y ∷ ys)) = begins y (parts 256 ys) in
    ap (λ (ps : List (ℕ × List ℕ)). length (with_number 256 x ps)) is.are
    ∙ one_or_two (eqb is.high (x / 256)) (is.high, x % 256 ∷ is.part) (x / 256, x % 256 ∷ []) (is.high, is.part) is.others
    ∙ ap (λ (h : ℕ). bool_byte (not (eqb h (x / 256))) + suc (length is.others)) is.high_is
    ∙ ap (λ (ps : List (ℕ × List ℕ)). bool_byte (not (eqb (y / 256) (x / 256))) + length ps) (sym is.are)

pub slices_more : (xs : List ℕ) (i : ℕ) → 1 ≤ i → i < length xs
    → length (parts 256 (drop (i - 1) xs)) ≡ bool_byte (not (eqb (get_or xs i 0 / 256) (get_or xs (i - 1) 0 / 256))) + length (parts 256 (drop (i + 1 - 1) xs))
slices_more xs i some lt =
    let e : i ≡ i + 1 - 1 = omega arith in
    ap (λ (l : List ℕ). length (parts 256 l)) (two_more xs i some lt) ∙ parts_two (get_or xs (i - 1) 0) (get_or xs i 0) (drop (i + 1) xs)
    ∙ ap (λ (l : List ℕ). bool_byte (not (eqb (get_or xs i 0 / 256) (get_or xs (i - 1) 0 / 256))) + length (parts 256 l)) (sym (drop_more xs i 0 lt) ∙ ap (λ (n : ℕ). drop n xs) e)

pub slices_done : (xs : List ℕ) (i : ℕ) → i ≡ length xs → 1 ≤ i → length (parts 256 (drop (i - 1) xs)) ≡ 1
unfolding parts with_number
slices_done xs i done some =
    let none : drop (i - 1 + 1) xs ≡ [] = nil_from_length (drop (i - 1 + 1) xs) (omega (arith, length-drop (i - 1 + 1) xs)) in
    ap (λ (l : List ℕ). length (parts 256 l)) (drop_more xs (i - 1) 0 (omega arith) ∙ ap (λ (l : List ℕ). get_or xs (i - 1) 0 ∷ l) none)

-- ---- how many bytes

abbrev numbers_of : List (ℕ × List ℕ) → ℕ
numbers_of [] = 0
numbers_of (p ∷ ps) = length p.1 + numbers_of ps

abbrev AreSome : List (ℕ × List ℕ) → Type 0
AreSome [] = Unit {0}
AreSome (p ∷ ps) = (1 ≤ length p.1) × AreSome ps

least : (ps : List (ℕ × List ℕ)) → AreSome ps → length ps ≤ numbers_of ps
least [] some = omega arith
least (p ∷ ps) (own, later) = let rest = least ps later in omega arith

sizes_few : (ps : List (ℕ × List ℕ)) → AreSome ps → numbers_of ps < length ps + 31 → sizes ps ≡ numbers_of ps
sizes_few [] some few = refl
sizes_few (p ∷ ps) (own, later) few =
    let rest = least ps later in
    let one : length p.1 ≡ slice_len (length p.1) = cond_below (length p.1) 32 (length p.1) _ (omega arith) in
    let ih = sizes_few ps later (omega arith) in
    omega arith

record Counted (n : ℕ) (ps : List (ℕ × List ℕ)) : Type 0 where
  some : AreSome ps
  numbers : numbers_of ps ≡ n

with_one : (x n : ℕ) (ps : List (ℕ × List ℕ)) → Counted n ps → Counted (suc n) (with_number 256 x ps)
unfolding with_number
with_one x n [] are = let e = are.numbers in record { some = (omega arith, tt); numbers = omega arith }
with_one x n (p ∷ ps) are = either (eqb p.0 (x / 256)) are.some are.numbers
  where
    either : (b : Bool) → AreSome (p ∷ ps) → numbers_of (p ∷ ps) ≡ n → Counted (suc n) (cond b ((p.0, x % 256 ∷ p.1) ∷ ps) ((x / 256, x % 256 ∷ []) ∷ p ∷ ps))
    either true (own, later) e = record { some = (omega arith, later); numbers = omega arith }
    either false some e = record { some = (omega arith, some); numbers = omega arith }

counted : (xs : List ℕ) → Counted (length xs) (parts 256 xs)
unfolding parts
counted [] = record { some = tt; numbers = refl }
counted (x ∷ xs) = with_one x (length xs) (parts 256 xs) (counted xs)

pub slices_least : (xs : List ℕ) → length (parts 256 xs) ≤ length xs
slices_least xs = let are = counted xs in let few = least (parts 256 xs) are.some in let all = are.numbers in omega arith

-- with less than 31 numbers after the first ones of slices each slice has at most 31, and is bytes
pub blocks_few : (xs : List ℕ) → length xs < length (parts 256 xs) + 31
    → length (blocks xs) ≡ 1 + slice_len (length (parts 256 xs)) + length (parts 256 xs) + length xs
blocks_few xs few =
    let are = counted xs in
    let all = are.numbers in
    let size = blocks_size (parts 256 xs) in
    let bytes = sizes_few (parts 256 xs) are.some (omega arith) in
    omega arith
