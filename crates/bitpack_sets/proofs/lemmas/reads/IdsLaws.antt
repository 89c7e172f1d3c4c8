-- Ids that are unpacked, and searched.
use Rattle.std.proofs.Common.{◌≡◌, ℕ, zero, suc, ◌+◌, ◌-◌, ◌^◌, ◌<◌, ◌≤◌, ◌++◌, ◌∙◌, Bool, List, [], ◌∷◌, Some, ap, arith, cond, drop, get_or, inl, inr, length, ltb, max, min, refl, set, slice_get, sym, take}
use lib.Seq.{take-add}
use Rattle.std.proofs.Math.Nat.{max-eq_left, max-eq_right}
use Rattle.std.proofs.lemmas.Bool.{cases_lt, lt-ltb}
use Rattle.std.proofs.lemmas.List.{append-nil, drop-append-le, drop-drop, drop-take, drop_all, drop_more, get_or-drop, get_or-take, length-append, length-drop, length-take-le, take-append-le, take-take, take_all, take_more, take_more_set}
use Rattle.std.proofs.lemmas.Option.{get_or_from_slice_get, slice_get-get_or, slice_get_within}
use Rattle.bitpack_slices.specs.Bodies.{IsRising}
use Rattle.bitpack_slices.specs.Reads.{rank}
use Rattle.bitpack_slices.proofs.ForCallers.{le_self, rank_above, rank_below, rank_under, rising_drop, rising_room}

pub unpacked_at : (next begin end : ℕ) (unpacked xs : List ℕ) → begin ≤ next → next < end → take (end - begin) unpacked ≡ take (end - begin) (drop begin xs)
    → get_or unpacked (next - begin) 0 ≡ get_or xs next 0
unpacked_at next begin end unpacked xs after before values =
    let within : next - begin < end - begin = omega arith in
    let same : begin + (next - begin) ≡ next = omega arith in
    sym (get_or-take (end - begin) unpacked (next - begin) 0 within) ∙ ap (λ (l : List ℕ). get_or l (next - begin) 0) values
    ∙ get_or-take (end - begin) (drop begin xs) (next - begin) 0 within ∙ get_or-drop begin xs (next - begin) 0 ∙ ap (λ (n : ℕ). get_or xs n 0) same

-- the id at a position that is unpacked
pub unpacked_get : (next begin end : ℕ) (unpacked xs : List ℕ) → begin ≤ next → next < end → end ≤ length xs → take (end - begin) unpacked ≡ take (end - begin) (drop begin xs)
    → Some (get_or unpacked (next - begin) 0) ≡ slice_get xs next
unpacked_get next begin end unpacked xs after before within values =
    ap Some (unpacked_at next begin end unpacked xs after before values) ∙ sym (slice_get-get_or xs next 0 (omega arith))

-- the ids that are unpacked, from the next one on
pub unpacked_from : (next begin end : ℕ) (unpacked xs : List ℕ) → begin ≤ next → next ≤ end → take (end - begin) unpacked ≡ take (end - begin) (drop begin xs)
    → take (end - next) (drop (next - begin) unpacked) ≡ take (end - next) (drop next xs)
unpacked_from next begin end unpacked xs after before values =
    let k : ℕ = next - begin in
    let whole : end - begin ≡ k + (end - next) = omega arith in
    let same : begin + k ≡ next = omega arith in
    let cut : take (k + (end - next)) unpacked ≡ take (k + (end - next)) (drop begin xs) =
    ap (λ (n : ℕ). take n unpacked) (sym whole) ∙ values ∙ ap (λ (n : ℕ). take n (drop begin xs)) whole in
    sym (drop-take k (end - next) unpacked) ∙ ap (drop k) cut ∙ drop-take k (end - next) (drop begin xs)
    ∙ ap (take (end - next)) (drop-drop k begin xs ∙ ap (λ (n : ℕ). drop n xs) same)

pub rising_taken : (low high n : ℕ) (xs : List ℕ) → IsRising low high xs → IsRising low high (take n xs)
rising_taken low high zero xs r = let room = rising_room low high xs r in omega arith
rising_taken low high (suc n) [] r = r
rising_taken low high (suc n) (y ∷ ys) (a, r) = (a, rising_taken (y + 1) high n ys r)

pub rank_dropped : (x low high n : ℕ) (xs : List ℕ) → IsRising low high xs → rank x (drop n xs) ≡ rank x xs - n
rank_dropped x low high zero xs r = omega arith
rank_dropped x low high (suc n) [] r = omega arith
rank_dropped x low high (suc n) (y ∷ ys) (a, r) =
    let ih = rank_dropped x (y + 1) high n ys r in
    elim (cases_lt y x) [
      | inl less ↦ (let first : ◌≡◌ {A = ℕ} (cond (ltb y x) 1 0) 1 = ap (λ (b : Bool). cond b 1 0) (lt-ltb y x less) in omega arith)
      | inr more ↦ (let none = rank_below x y high (y ∷ ys) (le_self y, r) more in omega arith)
    ]

-- if the others are not below, the first ones have all that are
pub rank_taken : (x low high n : ℕ) (xs : List ℕ) → IsRising low high xs → rank x xs ≤ n → rank x (take n xs) ≡ rank x xs
rank_taken x low high zero xs r few = omega arith
rank_taken x low high (suc n) [] r few = refl
rank_taken x low high (suc n) (y ∷ ys) (a, r) few =
    elim (cases_lt y x) [
      | inl less ↦ (
          let first : ◌≡◌ {A = ℕ} (cond (ltb y x) 1 0) 1 = ap (λ (b : Bool). cond b 1 0) (lt-ltb y x less) in
          let ih = rank_taken x (y + 1) high n ys r (omega arith) in
          omega arith)
      | inr more ↦ (
          let none = rank_below x y high (y ∷ ys) (le_self y, r) more in
          let ih = rank_taken x (y + 1) high n ys r (omega arith) in
          omega arith)
    ]

-- the last id that is unpacked is not below a number: fewer than all of them are
pub sought : (next begin end target : ℕ) (unpacked xs : List ℕ) → begin ≤ next → next < end → end ≤ length xs → take (end - begin) unpacked ≡ take (end - begin) (drop begin xs)
    → IsRising 0 (2 ^ 32) xs → target ≤ get_or unpacked (end - begin - 1) 0 → (rank target xs < end) × (rank target (take (end - next) (drop next xs)) ≡ rank target xs - next)
sought next begin end target unpacked xs after before within values r least =
    let here = unpacked_at (end - 1) begin end unpacked xs (omega arith) (omega arith) values in
    let index : end - 1 - begin ≡ end - begin - 1 = omega arith in
    let same = ap (λ (n : ℕ). get_or unpacked n 0) index in
    let few = rank_under target 0 (2 ^ 32) (end - 1) xs r (omega arith) (omega arith) in
    let dropped = rank_dropped target 0 (2 ^ 32) next xs r in
    (omega arith, rank_taken target 0 (2 ^ 32) (end - next) (drop next xs) (rising_drop 0 (2 ^ 32) next xs r) (omega arith) ∙ dropped)

pub moved_by : (next passed all : ℕ) → passed ≡ all - next → next + passed ≡ max next all
moved_by next passed all p = elim (cases_lt next all) [
  | inl less ↦ (let e = max-eq_right {n = next} {m = all} (omega arith) in omega arith)
  | inr more ↦ (let e = max-eq_left {n = next} {m = all} more in omega arith)
]

-- ids that are copied, and others that are written after them
pub joined : (next count more : ℕ) (copied tail written rest xs : List ℕ) → length copied ≡ count → copied ≡ take count (drop next xs) → more ≤ length written
    → take more written ≡ take more (drop (next + count) xs) → take (count + more) (take count (copied ++ tail) ++ (written ++ rest)) ≡ take (count + more) (drop next xs)
joined next count more copied tail written rest xs long c enough w =
    let front : take count (copied ++ tail) ≡ copied = take-append-le count copied tail (omega arith) ∙ take_all count copied (omega arith) in
    let first : take count (copied ++ (written ++ rest)) ≡ take count (drop next xs) = take-append-le count copied (written ++ rest) (omega arith) ∙ take_all count copied (omega arith) ∙ c in
    let none : drop count copied ≡ [] = drop_all count copied (omega arith) in
    let second : drop count (copied ++ (written ++ rest)) ≡ written ++ rest = drop-append-le count copied (written ++ rest) (omega arith) ∙ ap (λ (l : List ℕ). l ++ (written ++ rest)) none in
    let others : take more (written ++ rest) ≡ take more (drop count (drop next xs)) =
    take-append-le more written rest enough ∙ w ∙ ap (take more) (sym (drop-drop count next xs)) in
    ap (λ (l : List ℕ). take (count + more) (l ++ (written ++ rest))) front
    ∙ take-add count more (copied ++ (written ++ rest)) ∙ ap (λ (l : List ℕ). l ++ take more (drop count (copied ++ (written ++ rest)))) first
    ∙ ap (λ (l : List ℕ). take count (drop next xs) ++ take more l) second ∙ ap (λ (l : List ℕ). take count (drop next xs) ++ l) others ∙ sym (take-add count more (drop next xs))

pub left_over : (count more : ℕ) (copied tail written rest old : List ℕ) → length copied ≡ count → rest ≡ [] → drop more written ≡ drop more (drop count old)
    → drop (count + more) (take count (copied ++ tail) ++ (written ++ rest)) ≡ drop (count + more) old
left_over count more copied tail written rest old long none w =
    let front : take count (copied ++ tail) ≡ copied = take-append-le count copied tail (omega arith) ∙ take_all count copied (omega arith) in
    let gone : drop count copied ≡ [] = drop_all count copied (omega arith) in
    let second : drop count (copied ++ (written ++ rest)) ≡ written ++ rest = drop-append-le count copied (written ++ rest) (omega arith) ∙ ap (λ (l : List ℕ). l ++ (written ++ rest)) gone in
    let whole : written ++ rest ≡ written = ap (λ (l : List ℕ). written ++ l) none ∙ append-nil written in
    ap (λ (l : List ℕ). drop (count + more) (l ++ (written ++ rest))) front ∙ sym (drop-drop more count (copied ++ (written ++ rest)))
    ∙ ap (drop more) (second ∙ whole) ∙ w ∙ drop-drop more count old

-- the last id that is unpacked is below a number: all of them are
pub passed_all : (next begin end target : ℕ) (unpacked xs : List ℕ) → begin ≤ next → next < end → end ≤ length xs → take (end - begin) unpacked ≡ take (end - begin) (drop begin xs)
    → IsRising 0 (2 ^ 32) xs → get_or unpacked (end - begin - 1) 0 < target → max end (rank target xs) ≡ max next (rank target xs)
passed_all next begin end target unpacked xs after before within values r below =
    let here = unpacked_at (end - 1) begin end unpacked xs (omega arith) (omega arith) values in
    let index : end - 1 - begin ≡ end - begin - 1 = omega arith in
    let same = ap (λ (n : ℕ). get_or unpacked n 0) index in
    let above = rank_above target 0 (2 ^ 32) (end - 1) xs r (omega arith) (omega arith) in
    max-eq_right {n = end} {m = rank target xs} (omega arith) ∙ sym (max-eq_right {n = next} {m = rank target xs} (omega arith))

room_some : (begin end : ℕ) (unpacked xs : List ℕ) → begin < end → end ≤ length xs → take (end - begin) unpacked ≡ take (end - begin) (drop begin xs) → 0 < length unpacked
room_some begin end [] xs less within values =
    let none = ap length (sym (take_all (end - begin) [] (omega arith)) ∙ values) in
    let long = length-take-le (end - begin) (drop begin xs) (omega (arith, length-drop begin xs)) in
    absurd (omega arith)
room_some begin end (y ∷ ys) xs less within values = omega arith

-- one id that is held in place of all that were unpacked
pub held_one : (position id begin end : ℕ) (unpacked xs : List ℕ) → begin < end → end ≤ length xs → take (end - begin) unpacked ≡ take (end - begin) (drop begin xs) → slice_get xs position ≡ Some id
    → take (position + 1 - position) (set unpacked 0 id) ≡ take (position + 1 - position) (drop position xs)
held_one position id begin end unpacked xs less within values found =
    let one : position + 1 - position ≡ 0 + 1 = omega arith in
    let there = slice_get_within xs position id found in
    let here : position + 0 ≡ position = omega arith in
    let first : get_or (drop position xs) 0 0 ≡ id =
    get_or-drop position xs 0 0 ∙ ap (λ (n : ℕ). get_or xs n 0) here ∙ get_or_from_slice_get xs position id 0 found in
    ap (λ (n : ℕ). take n (set unpacked 0 id)) one ∙ take_more_set unpacked 0 id (room_some begin end unpacked xs less within values)
    ∙ ap (λ (x : ℕ). take 0 (drop position xs) ++ x ∷ []) (sym first) ∙ sym (take_more (drop position xs) 0 0 (omega (arith, length-drop position xs)))
    ∙ ap (λ (n : ℕ). take n (drop position xs)) (sym one)

-- ids that are copied from the next one on
pub copied_is : (next begin end count : ℕ) (copied unpacked xs : List ℕ) → begin ≤ next → next + count ≤ end → end ≤ length xs → take (end - begin) unpacked ≡ take (end - begin) (drop begin xs)
    → copied ≡ take (next - begin + count - (next - begin)) (drop (next - begin) unpacked) → (length copied ≡ count) × (copied ≡ take count (drop next xs))
copied_is next begin end count copied unpacked xs after before within values c =
    let size : next - begin + count - (next - begin) ≡ count = omega arith in
    let whole = unpacked_from next begin end unpacked xs after (omega arith) values in
    let is : copied ≡ take count (drop next xs) =
    c ∙ ap (λ (n : ℕ). take n (drop (next - begin) unpacked)) size ∙ sym (take-take count (end - next) (drop (next - begin) unpacked) (omega arith))
    ∙ ap (take count) whole ∙ take-take count (end - next) (drop next xs) (omega arith) in
    (ap length is ∙ length-take-le count (drop next xs) (omega (arith, length-drop next xs)), is)

pub tail_is : (count : ℕ) (copied old : List ℕ) → length copied ≡ count → take (length (copied ++ drop count old) - count) (drop count (copied ++ drop count old)) ≡ drop count old
tail_is count copied old long =
    let gone : drop count copied ≡ [] = drop_all count copied (omega arith) in
    let same : drop count (copied ++ drop count old) ≡ drop count old = drop-append-le count copied (drop count old) (omega arith) ∙ ap (λ (l : List ℕ). l ++ drop count old) gone in
    ap (take (length (copied ++ drop count old) - count)) same ∙ take_all (length (copied ++ drop count old) - count) (drop count old) (omega (arith, length-append copied (drop count old)))

-- the next id comes before those after it
pub stepped : (next after id : ℕ) (xs ys : List ℕ) → Some id ≡ slice_get xs next → after ≡ min (length xs) (next + 1) → ys ≡ xs → drop next xs ≡ id ∷ drop after ys
stepped next after id xs ys found e same =
    let there = slice_get_within xs next id (sym found) in
    let on : next + 1 ≡ after = omega arith in
    drop_more xs next 0 there ∙ ap (λ (x : ℕ). x ∷ drop (next + 1) xs) (get_or_from_slice_get xs next id 0 (sym found))
    ∙ ap (λ (n : ℕ). id ∷ drop n xs) on ∙ ap (λ (l : List ℕ). id ∷ drop after l) (sym same)
