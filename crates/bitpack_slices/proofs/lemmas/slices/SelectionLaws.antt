-- The numbers of a slice that are selected.
use Rattle.std.proofs.Common.{take, ◌≡◌, ℕ, zero, suc, ◌+◌, ◌*◌, ◌/◌, ◌%◌, ◌^◌, ◌-◌, ◌<◌, ◌≤◌, Bool, true, false, ◌&&◌, not, eqb, ltb, List, [], ◌∷◌, ◌++◌, map, drop, length, refl, sym, ap, ◌∙◌, arith, cond, inl, inr, get_or, bit_and, eqb-true, append-nil, length-drop, subst, w32}
use Rattle.std.specs.Int.{bit_at}
use Rattle.std.specs.List.{filter, range_with_len}
use Rattle.std.proofs.Math.Bool.{and_comm}
use Rattle.std.proofs.lemmas.Bool.{cases_lt, cond_below, le-ltb, lt-ltb, true≢false}
use Rattle.std.proofs.lemmas.List.{drop_all, drop_more, ext_get_or, get_or-drop, get_or-take, length-map, length-take-le}
use Rattle.std.proofs.lemmas.Map.Views.{any-filter_same}
use Rattle.std.proofs.lemmas.Nat.Bits.{bit_at-lt, bit_at-zero, bit_at_above, bit_at_not, bit_at_ones, bit_at_ones_above}
use Rattle.std.proofs.lemmas.Nat.{one_shl, shr-shr}
use Rattle.bitpack_slices.proofs.lemmas.bits.BitmapLaws.{those_none, those_split}
use Rattle.bitpack_slices.proofs.lemmas.bits.CombineLaws.{IsLeftOut, apply_none, not_of, word_and}
use Rattle.bitpack_slices.proofs.lemmas.bits.CountLaws.{few_numbers}
use Rattle.bitpack_slices.proofs.lemmas.bodies.LoadLaws.{filtered_same, has_those, none_there, those_are, those_rise}
use Rattle.bitpack_slices.proofs.lemmas.bits.OnesLaws.{ones_all, ones_few}
use Rattle.bitpack_slices.proofs.lemmas.bits.RaisedLaws.{rise_all}
use Rattle.bitpack_slices.proofs.lemmas.bits.RowLaws.{rising_agree}
use Rattle.bitpack_slices.proofs.lemmas.slices.SliceLaws.{bits_room}
use Rattle.bitpack_slices.proofs.lemmas.numbers.RetainedLaws.{rising_filter}
use Rattle.bitpack_slices.proofs.lemmas.bits.UnpackLaws.{by_high, lows, those_by_high}
use Rattle.bitpack_slices.specs.Bitmaps.{has_bit}
use Rattle.bitpack_slices.specs.Operations.{apply, combined, those}
use Rattle.bitpack_slices.specs.Reads.{has}
use Rattle.bitpack_slices.specs.Selections.{matched, parts_numbers}
use Rattle.bitpack_slices.specs.Bodies.{IsRising, bits}
use Rattle.bitpack_slices.specs.Slices.{HasSlice, ones_from, slice_len, slice_numbers}
use Rattle.bitpack_slices.specs.declared.blocks.Blocks.{Blocks}
use Rattle.bitpack_slices.specs.declared.operation.Operation.{Operation}
use Rattle.bitpack_slices.specs.declared.operation.Operation.TheVariants.{And, Or, AndNot, Xor}

-- ---- bits from a position on are 0

pub ones_cut : (x c n : ℕ) → c ≤ n → ((i : ℕ) → c ≤ i → i < n → eqb (bit_at x i) 1 ≡ false) → ones_from x 0 n ≡ ones_from x 0 c
unfolding ones_from
ones_cut x c n h none =
    let p : ℕ → Bool = λ i. eqb (bit_at x i) 1 in
    let e : n ≡ c + (n - c) = omega arith in
    let start : 0 + c ≡ c = omega arith in
    ap (λ (k : ℕ). filter p (range_with_len 0 k)) e ∙ those_split p 0 c (n - c)
    ∙ ap (λ (k : ℕ). filter p (range_with_len 0 c) ++ filter p (range_with_len k (n - c))) start
    ∙ ap (λ (l : List ℕ). filter p (range_with_len 0 c) ++ l) (those_none p c (n - c) (λ i a b. none i a (omega arith))) ∙ append-nil (filter p (range_with_len 0 c))

-- no bit is left
pub ones_end : (x c n : ℕ) → x / 2 ^ c ≡ 0 → c ≤ n → ones_from x 0 n ≡ ones_from x 0 c
ones_end x c n none le = ones_cut x c n le (λ i a b.
    let e : c + (i - c) ≡ i = omega arith in
    ap (λ (m : ℕ). eqb m 1) (ap (bit_at x) (sym e) ∙ ap (λ (m : ℕ). m % 2) (sym (shr-shr x c (i - c))) ∙ ap (λ (m : ℕ). bit_at m (i - c)) none ∙ bit_at-zero (i - c)))

pub ones_below : (x c n : ℕ) → x < 2 ^ n → c ≤ n → ((i : ℕ) → c ≤ i → i < n → eqb (bit_at x i) 1 ≡ false) → x < 2 ^ c
ones_below x c n small h none =
    let all = ones_all x n small in
    let same = ap bits (ones_cut x c n h none) in
    let room = bits_room 0 c (ones_from x 0 c) (rise_all x c) in
    omega arith

-- more positions than a number has bits
pub ones_longer : (x c n : ℕ) → x < 2 ^ c → c ≤ n → ones_from x 0 n ≡ ones_from x 0 c
ones_longer x c n small h = ones_cut x c n h (λ i a b. ap (λ (k : ℕ). eqb k 1) (bit_at_above x c i small a))

-- ---- the elements of a list that pass a test

one_passed : (b : Bool) (f : ℕ → ℕ) (k : ℕ) (xs ys : List ℕ) → map f xs ≡ ys → map f (cond b (k ∷ xs) xs) ≡ cond b (f k ∷ ys) ys
one_passed true f k xs ys e = ap (λ (l : List ℕ). f k ∷ l) e
one_passed false f k xs ys e = e

passed_from : (P : ℕ → Bool) (xs : List ℕ) (k n : ℕ) → k + n ≡ length xs
    → map (λ i. get_or xs i 0) (filter (λ i. P (get_or xs i 0)) (range_with_len k n)) ≡ filter P (drop k xs)
passed_from P xs k zero e = sym (ap (filter P) (drop_all k xs (omega arith)))
passed_from P xs k (suc n) e =
    one_passed (P (get_or xs k 0)) (λ i. get_or xs i 0) k (filter (λ i. P (get_or xs i 0)) (range_with_len (k + 1) n)) (filter P (drop (k + 1) xs)) (passed_from P xs (k + 1) n (omega arith))
    ∙ sym (ap (filter P) (drop_more xs k 0 (omega arith)))

-- matches say which bytes pass a test
abbrev pub Matches : ℕ → List ℕ → (ℕ → Bool) → Type 0
Matches matches bytes P = (i : ℕ) → i < 32 → eqb (bit_at matches i) 1 ≡ (ltb i (length bytes) && P (get_or bytes i 0))

and_true : (b c : Bool) → b ≡ true → (b && c) ≡ c
and_true b c e = ap (λ (d : Bool). d && c) e

pub and_false : (b c : Bool) → b ≡ false → (b && c) ≡ false
and_false b c e = ap (λ (d : Bool). d && c) e

past : (matches : ℕ) (bytes : List ℕ) (P : ℕ → Bool) → Matches matches bytes P → (i : ℕ) → length bytes ≤ i → i < 32 → eqb (bit_at matches i) 1 ≡ false
past matches bytes P is i a b = is i b ∙ and_false (ltb i (length bytes)) (P (get_or bytes i 0)) (le-ltb i (length bytes) a)

pub matches_few : (matches : ℕ) (bytes : List ℕ) (P : ℕ → Bool) → matches < 2 ^ 32 → length bytes < 32 → Matches matches bytes P → matches < 2 ^ length bytes
matches_few matches bytes P small few is = ones_below matches (length bytes) 32 small (omega arith) (past matches bytes P is)

matched_pass : (matches : ℕ) (bytes : List ℕ) (P : ℕ → Bool) → length bytes < 32 → Matches matches bytes P → matched matches bytes ≡ filter P bytes
unfolding ones_from
matched_pass matches bytes P few is =
    ap (map (λ i. get_or bytes i 0)) (ones_cut matches (length bytes) 32 (omega arith) (past matches bytes P is)
    ∙ filtered_same (λ i. eqb (bit_at matches i) 1) (λ i. P (get_or bytes i 0)) 0 (length bytes) (λ i a b.
    is i (omega arith) ∙ and_true (ltb i (length bytes)) (P (get_or bytes i 0)) (lt-ltb i (length bytes) (omega arith))))
    ∙ passed_from P bytes 0 (length bytes) (omega arith)

pub has_passed : (P : ℕ → Bool) (x : ℕ) (xs : List ℕ) → has x (filter P xs) ≡ (has x xs && P x)
has_passed P x xs = any-filter_same (λ y. eqb y x) P (P x) (λ y e. ap P (eqb-true y x e)) xs ∙ and_comm (P x) (has x xs)

-- the bytes whose bit is 1 are the numbers of the slice that pass
pub matched_those : (matches : ℕ) (bytes : List ℕ) (P : ℕ → Bool) → length bytes < 32 → IsRising 0 256 bytes → Matches matches bytes P
    → matched matches bytes ≡ those 256 (λ x. has x bytes && P x)
matched_those matches bytes P few rise is =
    matched_pass matches bytes P few is
    ∙ sym (those_are (λ x. has x bytes && P x) 256 (filter P bytes) (rising_filter P 0 256 bytes rise) (λ x small. sym (has_passed P x bytes)))

-- ---- matches by masks

-- a bit for each byte
mask_bit : (c i : ℕ) → eqb (bit_at (2 ^ c - 1) i) 1 ≡ ltb i c
mask_bit c i = elim (cases_lt i c) [
  | inl less ↦ ap (λ (n : ℕ). eqb n 1) (bit_at_ones c i less) ∙ sym (lt-ltb i c less)
  | inr more ↦ ap (λ (n : ℕ). eqb n 1) (bit_at_ones_above c i more) ∙ sym (le-ltb i c more)
]

true_or : (b c : Bool) → c ≡ true → b ≡ (b && c)
true_or true true e = refl
true_or true false e = absurd (true≢false (sym e))
true_or false c e = refl

pub all_matches : (matches : ℕ) (bytes : List ℕ) (P : ℕ → Bool) → matches ≡ 2 ^ length bytes - 1 → ((i : ℕ) → i < length bytes → P (get_or bytes i 0) ≡ true) → Matches matches bytes P
all_matches matches bytes P e all i h = elim (cases_lt i (length bytes)) [
  | inl less ↦ ap (λ (m : ℕ). eqb (bit_at m i) 1) e ∙ mask_bit (length bytes) i ∙ true_or (ltb i (length bytes)) (P (get_or bytes i 0)) (all i less)
  | inr more ↦ ap (λ (m : ℕ). eqb (bit_at m i) 1) e ∙ mask_bit (length bytes) i ∙ le-ltb i (length bytes) more
      ∙ sym (and_false (ltb i (length bytes)) (P (get_or bytes i 0)) (le-ltb i (length bytes) more))
]

-- the matches of the others
not_matched : (b c : Bool) → (b && not (b && c)) ≡ (b && not c)
not_matched true c = refl
not_matched false c = refl

pub other_matches : (matches others : ℕ) (bytes : List ℕ) (P : ℕ → Bool) → others < 2 ^ 32 → Matches others bytes P
    → matches ≡ bit_and (2 ^ length bytes - 1) (2 ^ 32 - 1 - others) → Matches matches bytes (λ x. not (P x))
other_matches matches others bytes P small is e i h =
    ap (λ (m : ℕ). eqb (bit_at m i) 1) e ∙ word_and (2 ^ length bytes - 1) (2 ^ 32 - 1 - others) i
    ∙ ap (λ (b : Bool). b && eqb (bit_at (2 ^ 32 - 1 - others) i) 1) (mask_bit (length bytes) i)
    ∙ ap (λ (b : Bool). ltb i (length bytes) && b)
    (ap (λ (n : ℕ). eqb n 1) (bit_at_not w32 others i small h) ∙ not_of (bit_at others i) (bit_at-lt others i) ∙ ap not (is i h))
    ∙ not_matched (ltb i (length bytes)) (P (get_or bytes i 0))

-- ---- a slice of fewer than 32 numbers

pub record IsFew (count : ℕ) (own bytes : List ℕ) : Type 0 where
  pub size : length bytes ≡ count
  pub few : length bytes < 32
  pub numbers : slice_numbers count own ≡ bytes
  pub rising : IsRising 0 256 bytes

pub few_there : (slices : List ℕ) (start count : ℕ) (bytes : List ℕ) → HasSlice slices start count → count < 32 → bytes ≡ take (slice_len count) (drop start slices)
    → IsFew count (take (slice_len count) (drop start slices)) bytes
few_there slices start count bytes there few e =
    let numbers : slice_numbers count (take (slice_len count) (drop start slices)) ≡ bytes = few_numbers count (take (slice_len count) (drop start slices)) few ∙ sym e in
    let size : length bytes ≡ count = sym (ap length numbers) ∙ there.slice.count_is in
    record { size = size; few = omega arith; numbers = numbers; rising = subst (IsRising 0 256) numbers there.slice.rising }

-- matches of its bytes, as they are found
pub matches_found : (matches count : ℕ) (bytes own : List ℕ) (P : ℕ → Bool) → bytes ≡ own → length bytes ≡ count
    → ((i : ℕ) → i < 32 → eqb (bit_at matches i) 1 ≡ (ltb i count && P (get_or own i 0))) → Matches matches bytes P
matches_found matches count bytes own P e size is i h =
    is i h ∙ ap (λ (n : ℕ). ltb i n && P (get_or own i 0)) (sym size) ∙ ap (λ (l : List ℕ). ltb i (length bytes) && P (get_or l i 0)) (sym e)

pub mask_is : (count : ℕ) (bytes : List ℕ) → length bytes ≡ count → length bytes < 32 → 1 * 2 ^ count % 2 ^ 32 - 1 ≡ 2 ^ length bytes - 1
mask_is count bytes size few = ap (λ (n : ℕ). n - 1) (one_shl count 32 (omega arith) ∙ ap (λ (n : ℕ). 2 ^ n) (sym size))

-- ---- one slice alone

pub retained : (operation : Operation) (b : Bool) → apply operation true false ≡ true → apply operation b false ≡ b
retained operation true e = e
retained operation false e = apply_none operation false false refl refl

pub retained_right : (operation : Operation) (b : Bool) → apply operation false true ≡ true → apply operation false b ≡ b
retained_right operation true e = e
retained_right operation false e = apply_none operation false false refl refl

pub only_left : (operation : Operation) (xs ys : List ℕ) → IsRising 0 256 xs → ys ≡ [] → apply operation true false ≡ true → xs ≡ combined 256 operation xs ys
only_left operation xs ys rise none retains =
    sym (those_are (λ x. apply operation (has x xs) (has x ys)) 256 xs rise (λ i small. ap (λ (l : List ℕ). apply operation (has i xs) (has i l)) none ∙ retained operation (has i xs) retains))

pub only_right : (operation : Operation) (xs ys : List ℕ) → IsRising 0 256 ys → xs ≡ [] → apply operation false true ≡ true → ys ≡ combined 256 operation xs ys
only_right operation xs ys rise none retains =
    sym (those_are (λ x. apply operation (has x xs) (has x ys)) 256 ys rise (λ i small. ap (λ (l : List ℕ). apply operation (has i l) (has i ys)) none ∙ retained_right operation (has i ys) retains))

-- an operation whose answer has no id that only the second has is one of these two
pub of_both : (operation : Operation) (p q : Bool) → apply operation false true ≡ false → apply operation true false ≡ false → (p && q) ≡ apply operation p q
of_both And p q right left = refl
of_both Or p q right left = absurd (true≢false right)
of_both AndNot p q right left = absurd (true≢false left)
of_both Xor p q right left = absurd (true≢false right)

pub of_first : (operation : Operation) (p q : Bool) → apply operation false true ≡ false → apply operation true false ≡ true → (p && not q) ≡ apply operation p q
of_first And p q right left = absurd (true≢false (sym left))
of_first Or p q right left = absurd (true≢false right)
of_first AndNot p q right left = refl
of_first Xor p q right left = absurd (true≢false right)

pub no_numbers : (slices : List ℕ) (start count : ℕ) → count ≡ 0 → slice_numbers count (take (slice_len count) (drop start slices)) ≡ []
no_numbers slices start count e = ap (λ (n : ℕ). slice_numbers n (take (slice_len n) (drop start slices))) e

-- ---- two bodies of blocks

-- whether an operation on two bodies gives a number
abbrev pub passes : Operation → Blocks → Blocks → ℕ → Bool
passes operation a b x = apply operation (has x (parts_numbers a)) (has x (parts_numbers b))

-- a number whose high byte is left out
pub out_of : (operation : Operation) (p q x y : Bool) → (p ≡ false → x ≡ false) → (q ≡ false → y ≡ false) → IsLeftOut operation p q → apply operation x y ≡ false
out_of operation p q false false f g h = apply_none operation false false refl refl
out_of operation false q true y f g h = absurd (true≢false (f refl))
out_of operation p false x true f g h = absurd (true≢false (g refl))
out_of operation true q true false f g h = h.1
out_of operation p true false true f g h = h.2
out_of operation true true true true f g h = h.0

-- the numbers of one high byte
pub lows_combined : (operation : Operation) (high : ℕ) (xs ys zs ws : List ℕ) → ((i : ℕ) → i < 256 → has i xs ≡ has (256 * high + i) zs)
    → ((i : ℕ) → i < 256 → has i ys ≡ has (256 * high + i) ws)
    → combined 256 operation xs ys ≡ lows (λ x. apply operation (has x zs) (has x ws)) high
unfolding those
lows_combined operation high xs ys zs ws left right =
    filtered_same (λ x. apply operation (has x xs) (has x ys)) (λ i. apply operation (has (256 * high + i) zs) (has (256 * high + i) ws)) 0 256 (λ i low small.
    ap (λ (b : Bool). apply operation b (has i ys)) (left i small) ∙ ap (apply operation (has (256 * high + i) zs)) (right i small))

pub map_zero : (xs : List ℕ) → map (λ i. 0 + i) xs ≡ xs
map_zero [] = refl
map_zero (x ∷ xs) = let e : 0 + x ≡ x = omega arith in ap (λ (n : ℕ). n ∷ map (λ i. 0 + i) xs) e ∙ ap (λ (l : List ℕ). x ∷ l) (map_zero xs)

pub no_part : (parts : Blocks) (x : ℕ) → x < 65536 → has_bit parts.highs (x / 256) ≡ false → has x (parts_numbers parts) ≡ false
no_part parts x small none =
    let whole : 256 * (x / 256) + x % 256 ≡ x = omega arith in
    sym (ap (λ (n : ℕ). has n (parts_numbers parts)) whole)
    ∙ none_there (has_bit parts.highs) (x / 256) (x % 256) parts.counts.now parts.slices.now (omega arith) (omega arith) none parts.are

pub both_or_none : (b c : Bool) → (b ≡ false → c ≡ false) → c ≡ (b && c)
both_or_none true c f = refl
both_or_none false c f = f refl

-- the numbers of the high bytes that the answer can have are all of it
pub listed : (operation : Operation) (a b : Blocks) (bits : List ℕ)
    → ((h : ℕ) → h < 256 → has_bit bits h ≡ false → apply operation (has_bit a.highs h) (has_bit b.highs h) ≡ false)
    → ((h : ℕ) → h < 256 → has_bit bits h ≡ false → apply operation (has_bit a.highs h) false ≡ false)
    → ((h : ℕ) → h < 256 → has_bit bits h ≡ false → apply operation false (has_bit b.highs h) ≡ false)
    → those 65536 (passes operation a b) ≡ by_high (passes operation a b) (those 256 (has_bit bits))
unfolding those
listed operation a b bits both left right =
    let highs : List ℕ = those 256 (has_bit bits) in
    let P : ℕ → Bool = passes operation a b in
    filtered_same P (λ x. has (x / 256) highs && P x) 0 65536 (λ x low small.
    let h : ℕ = x / 256 in
    let few : x / 256 < 256 = omega arith in
    both_or_none (has h highs) (P x) (λ none.
    let out : has_bit bits h ≡ false = sym (has_those (has_bit bits) h 256 few) ∙ none in
    out_of operation (has_bit a.highs h) (has_bit b.highs h) (has x (parts_numbers a)) (has x (parts_numbers b)) (no_part a x small) (no_part b x small)
    (both h few out, left h few out, right h few out)))
    ∙ those_by_high P highs (those_rise (has_bit bits) 256)

-- ---- the bytes of a slice, and others after them

matched_same : (matches : ℕ) (bytes own : List ℕ) → length own < 32 → matches < 2 ^ length own
    → ((i : ℕ) → i < length own → get_or bytes i 0 ≡ get_or own i 0) → matched matches bytes ≡ matched matches own
matched_same matches bytes own few small same =
    let n : ℕ = length own in
    let all : ones_from matches 0 32 ≡ ones_from matches 0 n = ones_longer matches n 32 small (omega arith) in
    ap (map (λ i. get_or bytes i 0)) all
    ∙ rising_agree n (ones_from matches 0 n) (λ i. get_or bytes i 0) (λ i. get_or own i 0) (rise_all matches n) same
    ∙ ap (map (λ i. get_or own i 0)) (sym all)

pub first_bytes : (slices : List ℕ) (start count : ℕ) (bytes : List ℕ) → HasSlice slices start count → count < 32
    → ((i : ℕ) → i < 32 → start + i < length slices → get_or bytes i 0 ≡ get_or slices (start + i) 0)
    → (i : ℕ) → i < length (take (slice_len count) (drop start slices)) → get_or bytes i 0 ≡ get_or (take (slice_len count) (drop start slices)) i 0
first_bytes slices start count bytes there few loaded i lt =
    let own = few_there slices start count (take (slice_len count) (drop start slices)) there few refl in
    let size : slice_len count ≡ count = sym (cond_below count 32 count _ few) in
    loaded i (omega (arith, lt, own.few)) (omega (arith, lt, own.size, there.room, size))
    ∙ sym (get_or-take (slice_len count) (drop start slices) i 0 (omega (arith, lt, own.size, size)) ∙ get_or-drop start slices i 0)

pub matched_first : (slices : List ℕ) (start count matches : ℕ) (bytes : List ℕ) → HasSlice slices start count → count < 32
    → matches < 2 ^ length (take (slice_len count) (drop start slices))
    → ((i : ℕ) → i < 32 → start + i < length slices → get_or bytes i 0 ≡ get_or slices (start + i) 0)
    → matched matches bytes ≡ matched matches (take (slice_len count) (drop start slices))
matched_first slices start count matches bytes there few small loaded =
    let own : List ℕ = take (slice_len count) (drop start slices) in
    let is = few_there slices start count own there few refl in
    matched_same matches bytes own is.few small (first_bytes slices start count bytes there few loaded)

pub bytes_same : (slices bytes : List ℕ) (start n : ℕ) → n ≤ 32 → length bytes ≡ 32 → start + n ≤ length slices
    → ((i : ℕ) → i < 32 → start + i < length slices → get_or bytes i 0 ≡ get_or slices (start + i) 0) → take n bytes ≡ take n (drop start slices)
bytes_same slices bytes start n few size room loaded =
    let long : length (take n bytes) ≡ n = length-take-le n bytes (omega arith) in
    let left = length-drop start slices in
    let own : length (take n (drop start slices)) ≡ n = length-take-le n (drop start slices) (omega arith) in
    ext_get_or 0 _ _ (long ∙ sym own) (λ k lt.
    let less : k < n = omega (arith, lt, long) in
    get_or-take n bytes k 0 less ∙ loaded k (omega (arith, less, few)) (omega (arith, less, room))
    ∙ sym (get_or-take n (drop start slices) k 0 less ∙ get_or-drop start slices k 0))

pub matched_few : (matches : ℕ) (bytes : List ℕ) → length bytes < 32 → matches < 2 ^ length bytes → length (matched matches bytes) < 32
matched_few matches bytes few small =
    let size = length-map (ones_from matches 0 32) (λ i. get_or bytes i 0) in
    let own = ap length (ones_longer matches (length bytes) 32 small (omega arith)) in
    let most = ones_few matches 0 (length bytes) in
    omega arith

-- ---- what is written of one high byte

pub record IsUnpacked (base : ℕ) (numbers old new : List ℕ) (at end : ℕ) : Type 0 where
  pub end_is : end ≡ at + length numbers
  pub room : end ≤ length old
  pub written : take end new ≡ take at old ++ map (λ i. base + i) numbers

pub unpacked_as : (base : ℕ) (xs ys old new : List ℕ) (at end : ℕ) → xs ≡ ys → end ≡ at + length xs → end ≤ length old
    → take end new ≡ take at old ++ map (λ i. base + i) xs → IsUnpacked base ys old new at end
unpacked_as base xs ys old new at end e size room values =
    record { end_is = size ∙ ap (λ (l : List ℕ). at + length l) e; room = room; written = values ∙ ap (λ (l : List ℕ). take at old ++ map (λ i. base + i) l) e }

-- where it is, under other names
pub unpacked_at : (base : ℕ) (numbers old new out : List ℕ) (at end next : ℕ) → out ≡ new → next ≡ end → IsUnpacked base numbers old new at end → IsUnpacked base numbers old out at next
unpacked_at base numbers old new out at end next e f is =
    subst (λ (l : List ℕ). IsUnpacked base numbers old l at next) (sym e) (subst (λ (n : ℕ). IsUnpacked base numbers old new at n) (sym f) is)
