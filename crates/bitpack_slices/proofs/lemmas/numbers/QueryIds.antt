-- Ids that are not below one.
use Rattle.std.proofs.Common.{◌≡◌, ℕ, zero, suc, ◌+◌, ◌-◌, ◌<◌, ◌≤◌, leb, Bool, true, false, cond, List, [], ◌∷◌, ◌++◌, length, map, get_or, take, drop, refl, sym, ap, ◌∙◌, subst, arith, append_assoc, drop-drop, length-drop}
use Rattle.std.specs.List.{All}
use Rattle.std.proofs.lemmas.Bool.{le-leb, lt-leb}
use Rattle.std.proofs.lemmas.List.{append-nil, drop_all, length-map, length-take-le, take-append-drop}
use Rattle.std.proofs.lemmas.Slice.{take-put_mid}
use borrow.Rule.Slice.PartMut.{put_mid}
use Rattle.std.proofs.lemmas.List.Elements.{All-head, All-tail}
use Rattle.bitpack_slices.proofs.lemmas.bytes.DecodeLaws.{rising_top}
use Rattle.bitpack_slices.proofs.lemmas.numbers.HalfLaws.{rising_at}
use Rattle.bitpack_slices.proofs.lemmas.bodies.JoinLaws.{below_top}
use Rattle.bitpack_slices.proofs.lemmas.bodies.LoadLaws.{those_rise}
use Rattle.bitpack_slices.proofs.lemmas.bits.RaisedLaws.{rising_raised}
use Rattle.bitpack_slices.specs.Operations.{those}
use Rattle.bitpack_slices.specs.Reads.{ids_from}
use Rattle.bitpack_slices.specs.Bodies.{IsRising}

pub head_retained : (b : Bool) (x : ℕ) (xs : List ℕ) → b ≡ true → cond b (x ∷ xs) xs ≡ x ∷ xs
head_retained b x xs e = ap (λ c. cond c (x ∷ xs) xs) e

pub head_left_out : (b : Bool) (x : ℕ) (xs : List ℕ) → b ≡ false → cond b (x ∷ xs) xs ≡ xs
head_left_out b x xs e = ap (λ c. cond c (x ∷ xs) xs) e

pub all_from : (low high bound : ℕ) (xs : List ℕ) → bound ≤ low → IsRising low high xs → ids_from bound xs ≡ xs
all_from low high bound [] h r = refl
all_from low high bound (x ∷ xs) h r =
    let le : bound ≤ x = omega (arith, r.0) in
    head_retained (leb bound x) x (ids_from bound xs) (le-leb bound x le) ∙ ap (λ ys. x ∷ ys) (all_from (x + 1) high bound xs (omega arith) r.1)

pub none_from : (low high bound : ℕ) (xs : List ℕ) → high ≤ bound → IsRising low high xs → ids_from bound xs ≡ []
none_from low high bound [] h r = refl
none_from low high bound (x ∷ xs) h r =
    let lt : x < bound = omega (arith, below_top (x + 1) high xs r.1) in
    head_left_out (leb bound x) x (ids_from bound xs) (lt-leb bound x lt) ∙ none_from (x + 1) high bound xs h r.1

-- the numbers from a position on are those that are not below the number there
pub from_position : (low high k : ℕ) (xs : List ℕ) → IsRising low high xs → k < length xs → drop k xs ≡ ids_from (get_or xs k 0) xs
from_position low high k [] r l = absurd (omega arith)
from_position low high zero (x ∷ xs) r l = sym (head_retained (leb x x) x (ids_from x xs) (le-leb x x (omega arith)) ∙ ap (λ ys. x ∷ ys) (all_from (x + 1) high x xs (omega arith) r.1))
from_position low high (suc k) (x ∷ xs) r l =
    let inside : k < length xs = omega arith in
    let above : x < get_or xs k 0 = omega (arith, rising_at (x + 1) high k xs r.1 inside) in
    from_position (x + 1) high k xs r.1 inside ∙ sym (head_left_out (leb (get_or xs k 0) x) x (ids_from (get_or xs k 0) xs) (lt-leb (get_or xs k 0) x above))

-- the numbers after those that are below a bound
pub from_bound : (low high bound k : ℕ) (xs : List ℕ) → IsRising low high xs → All (λ x. x < bound) (take k xs) → (k < length xs → bound ≤ get_or xs k 0) → drop k xs ≡ ids_from bound xs
from_bound low high bound zero [] r h m = refl
from_bound low high bound (suc k) [] r h m = refl
from_bound low high bound zero (x ∷ xs) r h m =
    let le : bound ≤ x = m (omega arith) in
    sym (head_retained (leb bound x) x (ids_from bound xs) (le-leb bound x le) ∙ ap (λ ys. x ∷ ys) (all_from (x + 1) high bound xs (omega arith) r.1))
from_bound low high bound (suc k) (x ∷ xs) r h m =
    let lt : x < bound = All-head (λ y. y < bound) x (take k xs) h in
    from_bound (x + 1) high bound k xs r.1 (All-tail (λ y. y < bound) x (take k xs) h) (λ l. m (omega arith)) ∙ sym (head_left_out (leb bound x) x (ids_from bound xs) (lt-leb bound x lt))

-- ---- the part of the numbers that there is room for

drop_twice : (k n : ℕ) (xs : List ℕ) → drop (k + n) xs ≡ drop n (drop k xs)
drop_twice k n xs = sym (drop-drop n k xs)

pub parts_joined : (out written before : List ℕ) (xs : List ℕ) (k n least next : ℕ) → out ≡ before ++ written → written ≡ take n (drop k xs) → drop k xs ≡ ids_from least xs → drop (k + n) xs ≡ ids_from next xs
    → out ++ ids_from next xs ≡ before ++ ids_from least xs
parts_joined out written before xs k n least next e w first last =
    ap (λ ys. ys ++ ids_from next xs) (e ∙ ap (λ ys. before ++ ys) w) ∙ append_assoc before (take n (drop k xs)) (ids_from next xs)
    ∙ ap (λ ys. before ++ ys) (ap (λ ys. take n (drop k xs) ++ ys) (sym last ∙ drop_twice k n xs) ∙ take-append-drop n (drop k xs) ∙ first)

pub rising_lt : (low high i j : ℕ) (xs : List ℕ) → IsRising low high xs → i < j → j < length xs → get_or xs i 0 < get_or xs j 0
rising_lt low high i j [] r h l = absurd (omega arith)
rising_lt low high i zero (x ∷ xs) r h l = absurd (omega arith)
rising_lt low high zero (suc j) (x ∷ xs) r h l = omega (arith, rising_at (x + 1) high j xs r.1 (omega arith))
rising_lt low high (suc i) (suc j) (x ∷ xs) r h l = rising_lt (x + 1) high i j xs r.1 (omega arith) (omega arith)

pub numbers_rise : (base : ℕ) (p : ℕ → Bool) → IsRising base (base + 256) (map (λ i. base + i) (those 256 p))
numbers_rise base p = let e : base + 0 ≡ base = omega arith in subst (λ (l : ℕ). IsRising l (base + 256) (map (λ i. base + i) (those 256 p))) e (rising_raised base 0 256 (those 256 p) (those_rise p 256))

pub numbers_count : (n base count : ℕ) (p : ℕ → Bool) (xs : List ℕ) → xs ≡ map (λ i. base + i) (those 256 p) → count ≡ n + length (those 256 p) → n ≡ 0 → length xs ≡ count
numbers_count n base count p xs is e z = ap length is ∙ length-map (those 256 p) (λ i. base + i) ∙ omega arith

pub copied : (at k n : ℕ) (out ys xs : List ℕ) → ys ≡ take (k + n - k) (drop k xs) → k + n ≤ length xs → at ≤ length out → take (at + n) (put_mid at (at + n - at) out ys) ≡ take at out ++ take n (drop k xs)
copied at k n out ys xs e l room =
    let less : k + n - k ≡ n = omega arith in
    let is : ys ≡ take n (drop k xs) = e ∙ ap (λ (m : ℕ). take m (drop k xs)) less in
    let size : length ys ≡ n = ap length is ∙ length-take-le n (drop k xs) (omega (arith, length-drop k xs)) in
    take-put_mid at (at + n - at) out ys (at + n) (omega (arith, size)) room ∙ ap (λ zs. take at out ++ zs) is

-- all are written
pub all_written : (base least : ℕ) (p : ℕ → Bool) (out before : List ℕ) → least ≡ base → out ≡ before ++ map (λ i. base + i) (those 256 p)
    → out ++ ids_from (base + 256) (map (λ i. base + i) (those 256 p)) ≡ before ++ ids_from least (map (λ i. base + i) (those 256 p))
all_written base least p out before is e =
    let xs : List ℕ = map (λ i. base + i) (those 256 p) in
    ap (λ ys. out ++ ys) (none_from base (base + 256) (base + 256) xs (omega arith) (numbers_rise base p)) ∙ append-nil out ∙ e ∙ ap (λ ys. before ++ ys) (sym (all_from base (base + 256) least xs (omega arith) (numbers_rise base p)))

-- those are written that there is room for
pub some_written : (base least k n next : ℕ) (p : ℕ → Bool) (xs out before : List ℕ) → xs ≡ map (λ i. base + i) (those 256 p) → out ≡ before ++ take n (drop k xs)
    → All (λ x. x < least) (take k xs) → (k < length xs → least ≤ get_or xs k 0) → k + n < length xs → next ≡ get_or xs (k + n) 0
    → out ++ ids_from next (map (λ i. base + i) (those 256 p)) ≡ before ++ ids_from least (map (λ i. base + i) (those 256 p))
some_written base least k n next p xs out before is e below above l at =
    let rise : IsRising base (base + 256) xs = subst (IsRising base (base + 256)) (sym is) (numbers_rise base p) in
    subst (λ ys. out ++ ids_from next ys ≡ before ++ ids_from least ys) is
    (parts_joined out (take n (drop k xs)) before xs k n least next e refl (from_bound base (base + 256) least k xs rise below above) (from_position base (base + 256) (k + n) xs rise l ∙ ap (λ (m : ℕ). ids_from m xs) (sym at)))

pub rest_written : (base least k n : ℕ) (p : ℕ → Bool) (xs out before : List ℕ) → xs ≡ map (λ i. base + i) (those 256 p) → out ≡ before ++ take n (drop k xs)
    → All (λ x. x < least) (take k xs) → (k < length xs → least ≤ get_or xs k 0) → length xs ≤ k + n
    → out ++ ids_from (base + 256) (map (λ i. base + i) (those 256 p)) ≡ before ++ ids_from least (map (λ i. base + i) (those 256 p))
rest_written base least k n p xs out before is e below above l =
    let rise : IsRising base (base + 256) xs = subst (IsRising base (base + 256)) (sym is) (numbers_rise base p) in
    subst (λ ys. out ++ ids_from (base + 256) ys ≡ before ++ ids_from least ys) is
    (parts_joined out (take n (drop k xs)) before xs k n least (base + 256) e refl (from_bound base (base + 256) least k xs rise below above)
    (drop_all (k + n) xs l ∙ sym (none_from base (base + 256) (base + 256) xs (omega arith) rise)))

-- where it stopped is after the numbers that were passed over, and within the 256
pub stops_after : (base least k n next : ℕ) (p : ℕ → Bool) (xs : List ℕ) → xs ≡ map (λ i. base + i) (those 256 p) → (k < length xs → least ≤ get_or xs k 0) → 0 < n → k + n < length xs → next ≡ get_or xs (k + n) 0 → least < next
stops_after base least k n next p xs is above some l at =
    let rise : IsRising base (base + 256) xs = subst (IsRising base (base + 256)) (sym is) (numbers_rise base p) in
    omega (arith, at, above (omega arith), rising_lt base (base + 256) k (k + n) xs rise (omega arith) l)

pub stops_within : (base next i : ℕ) (p : ℕ → Bool) (xs : List ℕ) → xs ≡ map (λ i. base + i) (those 256 p) → i < length xs → next ≡ get_or xs i 0 → next ≤ base + 256
stops_within base next i p xs is l at =
    let rise : IsRising base (base + 256) xs = subst (IsRising base (base + 256)) (sym is) (numbers_rise base p) in
    omega (arith, at, rising_top base (base + 256) i xs rise l)
