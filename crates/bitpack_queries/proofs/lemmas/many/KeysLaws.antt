-- The ids of several keys, key by key and before those of higher keys.
use Rattle.std.proofs.Common.{◌≡◌, ◌≢◌, ℕ, zero, suc, ◌+◌, ◌*◌, ◌/◌, ◌%◌, ◌^◌, ◌<◌, ◌≤◌, ◌==◌, leb, Bool, true, false, ◌&&◌, ◌||◌, ◌⊎◌, ◌-◌, List, [], ◌∷◌, ◌++◌, length, length-append, map, get_or, set, take, eq-eqb, refl, sym, ap, ◌∙◌, arith, inl, inr, append_assoc}
use Rattle.std.specs.List.{All, filter, range_with_len}
use Rattle.std.proofs.Math.Bool.{or-false, or-true}
use Rattle.std.proofs.lemmas.Bool.{cases_eq, cases_lt, false≢true, le-leb, lt-leb, ne_eqb}
use Rattle.std.proofs.lemmas.List.{get_or-set_other, get_or-set_same, length-map, map-append}
use Rattle.std.proofs.lemmas.List.Elements.{All-head, All-tail}
use Rattle.bitpack_slices.proofs.ForCallers.{has_below, has_more, map_raised, those_part, those_raised, those_same, those_split}
use Rattle.bitpack_queries.proofs.lemmas.two.AnswerLaws.{Counted, Written}
use Rattle.bitpack_queries.proofs.lemmas.many.FoldLaws.{swapped_answer}
use Rattle.bitpack_slices.specs.Bitmaps.{bitmap_numbers, has_bit}
use Rattle.bitpack_queries.specs.Folds.{found, has_number, ids_of_keys, joined, swapped}
use Rattle.bitpack_slices.specs.Operations.{those}
use Rattle.bitpack_queries.specs.Operations.{answer_all, folded}
use Rattle.bitpack_queries.specs.Pairs.{IsPart}
use Rattle.bitpack_slices.specs.Reads.{has}
use Rattle.bitpack_slices.specs.Bodies.{IsRising}
use Rattle.bitpack_slices.specs.declared.operation.Operation.{Operation}
use Rattle.bitpack_slices.specs.declared.operation.Operation.TheVariants.{And}

-- ---- key by key

those_more_part : (p : ℕ → Bool) (n m : ℕ) → those (n + m) p ≡ those n p ++ map (λ i. n + i) (those m (λ i. p (n + i)))
unfolding those
those_more_part p n m =
    let low : 0 + n ≡ n + 0 = omega arith in
    those_split p 0 n m ∙ ap (λ (xs : List ℕ). filter p (range_with_len 0 n) ++ xs) (ap (λ (a : ℕ). filter p (range_with_len a m)) low ∙ those_raised p n 0 m)

pub found_at : (highs words : List (List ℕ)) (k i : ℕ) → i < 65536 → found highs words (65536 * k + i) ≡ has_number (get_or highs k []) (get_or words k []) i
unfolding found
found_at highs words k i h =
    let q : (65536 * k + i) / 65536 ≡ k = omega arith in
    let r : (65536 * k + i) % 65536 ≡ i = omega arith in
    ap (λ (n : ℕ). has_number (get_or highs n []) (get_or words n []) ((65536 * k + i) % 65536)) q ∙ ap (has_number (get_or highs k []) (get_or words k [])) r

pub found_key : (highs words : List (List ℕ)) (k i : ℕ) → i / 65536 ≡ k → found highs words i ≡ has_number (get_or highs k []) (get_or words k []) (i % 65536)
unfolding found
found_key highs words k i e = ap (λ (n : ℕ). has_number (get_or highs n []) (get_or words n []) (i % 65536)) e

found_set : (highs words : List (List ℕ)) (k i : ℕ) (hs ws : List ℕ) → k < length highs → k < length words → i / 65536 ≡ k → found (set highs k hs) (set words k ws) i ≡ has_number hs ws (i % 65536)
found_set highs words k i hs ws h w e =
    found_key (set highs k hs) (set words k ws) k i e
    ∙ ap (λ (a : List ℕ). has_number a (get_or (set words k ws) k []) (i % 65536)) (get_or-set_same highs k hs [] h)
    ∙ ap (λ (b : List ℕ). has_number hs b (i % 65536)) (get_or-set_same words k ws [] w)

found_other : (highs words : List (List ℕ)) (k i : ℕ) (hs ws : List ℕ) → i / 65536 ≢ k → found (set highs k hs) (set words k ws) i ≡ found highs words i
found_other highs words k i hs ws apart =
    found_key (set highs k hs) (set words k ws) (i / 65536) i refl
    ∙ ap (λ (a : List ℕ). has_number a (get_or (set words k ws) (i / 65536) []) (i % 65536)) (get_or-set_other highs k (i / 65536) hs [] (λ e. apart (omega arith)))
    ∙ ap (λ (b : List ℕ). has_number (get_or highs (i / 65536) []) b (i % 65536)) (get_or-set_other words k (i / 65536) ws [] (λ e. apart (omega arith)))
    ∙ sym (found_key highs words (i / 65536) i refl)

-- one key more is combined
pub done_more : (takes : Bool) (operation : Operation) (highs words highs' words' : List (List ℕ)) (hs ws xs lows : List ℕ) (base k : ℕ) → k < length highs → k < length words
    → ((i : ℕ) → i < 65536 * k → found highs words i ≡ joined takes operation (found highs' words' i) (has (base * 65536 + i) xs))
    → get_or highs k [] ≡ get_or highs' k [] → get_or words k [] ≡ get_or words' k []
    → ((x : ℕ) → x < 65536 → has_number hs ws x ≡ joined takes operation (has_number (get_or highs k []) (get_or words k []) x) (has x lows))
    → ((x : ℕ) → x / 65536 ≡ base + k → has x xs ≡ has (x % 65536) lows)
    → (i : ℕ) → i < 65536 * (k + 1) → found (set highs k hs) (set words k ws) i ≡ joined takes operation (found highs' words' i) (has (base * 65536 + i) xs)
done_more takes operation highs words highs' words' hs ws xs lows base k h w before same same' new own i small = elim (cases_lt i (65536 * k)) [
  | inl lt ↦ found_other highs words k i hs ws (λ e. omega arith) ∙ before i lt
  | inr ge ↦ (
      let e : i / 65536 ≡ k = omega arith in
      let key : (base * 65536 + i) / 65536 ≡ base + k = omega arith in
      let low : (base * 65536 + i) % 65536 ≡ i % 65536 = omega arith in
      found_set highs words k i hs ws h w e ∙ new (i % 65536) (omega arith)
      ∙ ap (λ (a : List ℕ). joined takes operation (has_number a (get_or words k []) (i % 65536)) (has (i % 65536) lows)) same
      ∙ ap (λ (b : List ℕ). joined takes operation (has_number (get_or highs' k []) b (i % 65536)) (has (i % 65536) lows)) same'
      ∙ ap (λ (f : Bool). joined takes operation f (has (i % 65536) lows)) (sym (found_key highs' words' k i e))
      ∙ ap (joined takes operation (found highs' words' i)) (sym (own (base * 65536 + i) key ∙ ap (λ (n : ℕ). has n lows) low)))
]

-- one id more is set
pub few_inserted : (highs words : List (List ℕ)) (hs ws : List ℕ) (base id k i : ℕ) → k < length highs → k < length words → id / 65536 ≡ base + k
    → ((x : ℕ) → x < 65536 → has_number hs ws x ≡ (has_number (get_or highs k []) (get_or words k []) x || (x == id % 65536)))
    → found (set highs k hs) (set words k ws) i ≡ (found highs words i || (base * 65536 + i == id))
few_inserted highs words hs ws base id k i h w key new = elim (cases_eq (i / 65536) k) [
  | inl same ↦
      found_set highs words k i hs ws h w same ∙ new (i % 65536) (omega arith)
      ∙ ap (λ (f : Bool). f || (i % 65536 == id % 65536)) (sym (found_key highs words k i same))
      ∙ ap (λ (t : Bool). found highs words i || t) (elim (cases_eq (i % 65536) (id % 65536)) [
        | inl equal ↦ eq-eqb (i % 65536) (id % 65536) equal ∙ sym (eq-eqb (base * 65536 + i) id (omega arith))
        | inr differ ↦ ne_eqb (i % 65536) (id % 65536) differ ∙ sym (ne_eqb (base * 65536 + i) id (λ e. differ (omega arith)))
      ])
  | inr apart ↦
      found_other highs words k i hs ws apart ∙ sym (or-false (found highs words i))
      ∙ ap (λ (t : Bool). found highs words i || t) (sym (ne_eqb (base * 65536 + i) id (λ e. apart (omega arith))))
]

-- an id of a lower key is none of theirs
pub not_matched : (highs words : List (List ℕ)) (base id i : ℕ) → id / 65536 < base → found highs words i ≡ (found highs words i || (base * 65536 + i == id))
not_matched highs words base id i h =
    sym (or-false (found highs words i)) ∙ ap (λ (t : Bool). found highs words i || t) (sym (ne_eqb (base * 65536 + i) id (λ e. absurd (omega arith))))

or_moved : (a b e : Bool) → ((a || b) || e) ≡ (a || (e || b))
or_moved true b e = refl
or_moved false true true = refl
or_moved false true false = refl
or_moved false false true = refl
or_moved false false false = refl

pub few_more : (before old : Bool) (x i : ℕ) (xs : List ℕ) (new : Bool) → before ≡ (old || has x (take i xs)) → i < length xs → new ≡ (before || (x == get_or xs i 0)) → new ≡ (old || has x (take (i + 1) xs))
few_more before old x i xs new so h e =
    e ∙ ap (λ (b : Bool). b || (x == get_or xs i 0)) so ∙ or_moved old (has x (take i xs)) (x == get_or xs i 0) ∙ ap (λ (b : Bool). old || b) (has_more x xs i h)

-- increasing ids below one are before it
pub before_it : (x low high i : ℕ) (xs : List ℕ) → IsRising low high xs → i < length xs → x < get_or xs i 0 → has x xs ≡ has x (take i xs)
before_it x low high i [] r h l = absurd (omega arith)
before_it x low high zero (y ∷ ys) r h l = has_below x y high (y ∷ ys) (omega arith, r.1) l
before_it x low high (suc i) (y ∷ ys) r h l = ap (λ (b : Bool). (y == x) || b) (before_it x (y + 1) high i ys r.1 (omega arith) l)

pub none_of_lower : (x bound : ℕ) (xs : List ℕ) → All (λ y. y / 65536 < bound) xs → bound ≤ x / 65536 → has x xs ≡ false
none_of_lower x bound [] h m = refl
none_of_lower x bound (y ∷ ys) h m =
    let first = All-head (λ z. z / 65536 < bound) y ys h in
    ap (λ (b : Bool). b || has x ys) (ne_eqb y x (λ e. omega arith)) ∙ none_of_lower x bound ys (All-tail (λ z. z / 65536 < bound) y ys h) m

-- a number is set: the bits of its high byte are cleared before, if it does not occur
pub insert_new : (low x : ℕ) (highs highs' words middle words' : List ℕ) → has_bit highs (low / 256) ≡ false → ((k : ℕ) → has_bit highs' k ≡ ((k == low / 256) || has_bit highs k))
    → (x / 256 ≡ low / 256 → has_bit middle x ≡ false) → (x / 256 ≢ low / 256 → has_bit middle x ≡ has_bit words x) → has_bit words' x ≡ ((x == low) || has_bit middle x)
    → has_number highs' words' x ≡ (has_number highs words x || (x == low))
unfolding has_number
insert_new low x highs highs' words middle words' none more cleared retained new = elim (cases_eq (x / 256) (low / 256)) [
  | inl same ↦
      ap (λ (b : Bool). b && has_bit words' x) (more (x / 256) ∙ ap (λ (b : Bool). b || has_bit highs (x / 256)) (eq-eqb (x / 256) (low / 256) same))
      ∙ new ∙ ap (λ (b : Bool). (x == low) || b) (cleared same) ∙ or-false (x == low)
      ∙ sym (ap (λ (b : Bool). (b && has_bit words x) || (x == low)) (ap (has_bit highs) same ∙ none))
  | inr apart ↦ (
      let differ : (x == low) ≡ false = ne_eqb x low (λ e. apart (ap (λ (n : ℕ). n / 256) e)) in
      ap (λ (b : Bool). b && has_bit words' x) (more (x / 256) ∙ ap (λ (b : Bool). b || has_bit highs (x / 256)) (ne_eqb (x / 256) (low / 256) apart))
      ∙ ap (λ (b : Bool). has_bit highs (x / 256) && b) (new ∙ ap (λ (b : Bool). b || has_bit middle x) differ ∙ retained apart)
      ∙ sym (ap (λ (b : Bool). (has_bit highs (x / 256) && has_bit words x) || b) differ ∙ or-false (has_bit highs (x / 256) && has_bit words x)))
]

and_or : (h w e : Bool) → (e ≡ true → h ≡ true) → (h && (e || w)) ≡ ((h && w) || e)
and_or true w true f = sym (or-true w)
and_or true w false f = sym (or-false w)
and_or false w true f = f refl
and_or false w false f = refl

pub insert_old : (low x : ℕ) (highs words words' : List ℕ) → has_bit highs (low / 256) ≡ true → has_bit words' x ≡ ((x == low) || has_bit words x)
    → has_number highs words' x ≡ (has_number highs words x || (x == low))
unfolding has_number
insert_old low x highs words words' there new =
    ap (λ (b : Bool). has_bit highs (x / 256) && b) new
    ∙ and_or (has_bit highs (x / 256)) (has_bit words x) (x == low) (λ e. elim (cases_eq x low) [
      | inl same ↦ ap (λ (n : ℕ). has_bit highs (n / 256)) same ∙ there
      | inr apart ↦ absurd (false≢true (sym (ne_eqb x low apart) ∙ e))
    ])

key_numbers : (highs words : List (List ℕ)) (k : ℕ) (own : List ℕ) → ((h : ℕ) → h < 256 → has h own ≡ has_bit (get_or highs k []) h)
    → those 65536 (λ i. found highs words (65536 * k + i)) ≡ bitmap_numbers own (get_or words k [])
unfolding has_number
key_numbers highs words k own are =
    those_same 65536 _ _ (λ i small. found_at highs words k i small ∙ ap (λ (b : Bool). b && has_bit (get_or words k []) i) (sym (are (i / 256) (omega arith))))

next_key : (highs words : List (List ℕ)) (k : ℕ) (own : List ℕ) → ((h : ℕ) → h < 256 → has h own ≡ has_bit (get_or highs k []) h)
    → those (65536 * (k + 1)) (found highs words) ≡ those (65536 * k) (found highs words) ++ map (λ i. 65536 * k + i) (bitmap_numbers own (get_or words k []))
next_key highs words k own are =
    let e : 65536 * (k + 1) ≡ 65536 * k + 65536 = omega arith in
    ap (λ (n : ℕ). those n (found highs words)) e ∙ those_more_part (found highs words) (65536 * k) 65536
    ∙ ap (λ (xs : List ℕ). those (65536 * k) (found highs words) ++ map (λ i. 65536 * k + i) xs) (key_numbers highs words k own are)

pub key_counted : (highs words : List (List ℕ)) (k : ℕ) (own : List ℕ) → ((h : ℕ) → h < 256 → has h own ≡ has_bit (get_or highs k []) h)
    → length (those (65536 * (k + 1)) (found highs words)) ≡ length (those (65536 * k) (found highs words)) + length (bitmap_numbers own (get_or words k []))
key_counted highs words k own are =
    ap length (next_key highs words k own are) ∙ length-append (those (65536 * k) (found highs words)) (map (λ i. 65536 * k + i) (bitmap_numbers own (get_or words k [])))
    ∙ ap (λ (n : ℕ). length (those (65536 * k) (found highs words)) + n) (length-map (bitmap_numbers own (get_or words k [])) (λ i. 65536 * k + i))

pub key_written : (highs words : List (List ℕ)) (base k : ℕ) (own : List ℕ) → ((h : ℕ) → h < 256 → has h own ≡ has_bit (get_or highs k []) h)
    → map (λ i. base * 65536 + i) (those (65536 * (k + 1)) (found highs words))
    ≡ map (λ i. base * 65536 + i) (those (65536 * k) (found highs words)) ++ map (λ i. (base + k) * 65536 + i) (bitmap_numbers own (get_or words k []))
key_written highs words base k own are =
    let e : base * 65536 + 65536 * k ≡ (base + k) * 65536 = omega arith in
    ap (map (λ i. base * 65536 + i)) (next_key highs words k own are)
    ∙ map-append (λ i. base * 65536 + i) (those (65536 * k) (found highs words)) (map (λ i. 65536 * k + i) (bitmap_numbers own (get_or words k [])))
    ∙ ap (λ (xs : List ℕ). map (λ i. base * 65536 + i) (those (65536 * k) (found highs words)) ++ xs)
    (map_raised (base * 65536) (65536 * k) (bitmap_numbers own (get_or words k [])) ∙ ap (λ (n : ℕ). map (λ i. n + i) (bitmap_numbers own (get_or words k []))) e)

pub no_keys : (p : ℕ → Bool) → those 0 p ≡ []
unfolding those
no_keys p = refl

pub more_keys : (p : ℕ → Bool) (n m : ℕ) → n ≤ m → length (those n p) ≤ length (those m p)
more_keys p n m h =
    let e : n + (m - n) ≡ m = omega arith in
    let all = ap (λ (k : ℕ). length (those k p)) (sym e) ∙ ap length (those_more_part p n (m - n)) ∙ length-append (those n p) (map (λ i. n + i) (those (m - n) (λ i. p (n + i)))) in
    omega arith

-- ---- what is left from a key on

abbrev pub left_from : Operation → ℕ → List (List ℕ) → ℕ → ℕ → Bool
left_from operation first sets base x = leb base (x / 65536) && folded operation (map (has x) (swapped first sets))

below : (operation : Operation) (first base x : ℕ) (sets : List (List ℕ)) → x / 65536 < base → left_from operation first sets base x ≡ false
below operation first base x sets h = ap (λ (b : Bool). b && folded operation (map (has x) (swapped first sets))) (lt-leb base (x / 65536) h)

above : (operation : Operation) (first base x : ℕ) (sets : List (List ℕ)) → base ≤ x / 65536 → left_from operation first sets base x ≡ folded operation (map (has x) (swapped first sets))
above operation first base x sets h = ap (λ (b : Bool). b && folded operation (map (has x) (swapped first sets))) (le-leb base (x / 65536) h)

-- from the first key on all is left
pub all_left : (operation : Operation) (first : ℕ) (sets : List (List ℕ)) → first < length sets → (first ≡ 0) ⊎ (operation ≡ And)
    → those (2 ^ 32) (left_from operation first sets 0) ≡ answer_all operation sets
all_left operation first sets h may = those_same (2 ^ 32) _ _ (λ x small. above operation first 0 x sets (omega arith) ∙ swapped_answer operation x first sets h may)

-- the ids of the keys come before those from the next on
pub keys_first : (operation : Operation) (first base later next : ℕ) (sets highs words : List (List ℕ)) → base + 8 ≤ 65536 → base + 8 ≤ later → later ≤ next
    → ((i : ℕ) → i < 524288 → found highs words i ≡ folded operation (map (has (base * 65536 + i)) (swapped first sets)))
    → ((x : ℕ) → base + 8 ≤ x / 65536 → x / 65536 < next → folded operation (map (has x) (swapped first sets)) ≡ false)
    → those (2 ^ 32) (left_from operation first sets base) ≡ ids_of_keys highs words base ++ those (2 ^ 32) (left_from operation first sets later)
keys_first operation first base later next sets highs words room after within own none =
    those_part (2 ^ 32) (base * 65536) 524288 (left_from operation first sets base) (found highs words) (left_from operation first sets later) (omega arith)
    (λ x h. below operation first base x sets (omega arith))
    (λ i h. above operation first base (base * 65536 + i) sets (omega arith) ∙ sym (own i h))
    (λ x h. below operation first later x sets (omega arith))
    (λ x h k. elim (cases_lt (x / 65536) later) [
      | inl lt ↦ above operation first base x sets (omega arith) ∙ none x (omega arith) (omega arith) ∙ sym (below operation first later x sets lt)
      | inr ge ↦ above operation first base x sets (omega arith) ∙ sym (above operation first later x sets ge)
    ])

pub none_from : (operation : Operation) (first base : ℕ) (sets : List (List ℕ)) → 65536 ≤ base → (x : ℕ) → x < 2 ^ 32 → left_from operation first sets base x ≡ false
none_from operation first base sets h x small = below operation first base x sets (omega arith)

pub keys_written : (out out' : List ℕ) (at at' base : ℕ) (highs words : List (List ℕ)) (answer : List ℕ) (before after : ℕ → Bool) → Written out at answer before
    → those (2 ^ 32) before ≡ ids_of_keys highs words base ++ those (2 ^ 32) after → at' ≤ length out' → take at' out' ≡ take at out ++ ids_of_keys highs words base → Written out' at' answer after
keys_written out out' at at' base highs words answer before after so split within values = record {
  within = within;
  parts = so.parts ∙ ap (λ (xs : List ℕ). take at out ++ xs) split ∙ sym (append_assoc (take at out) (ids_of_keys highs words base) (those (2 ^ 32) after))
      ∙ ap (λ (xs : List ℕ). xs ++ those (2 ^ 32) after) (sym values);
}

pub keys_counted : (count count' base : ℕ) (highs words : List (List ℕ)) (answer : List ℕ) (before after : ℕ → Bool) → Counted count answer before
    → those (2 ^ 32) before ≡ ids_of_keys highs words base ++ those (2 ^ 32) after → count' ≡ count + length (those 524288 (found highs words)) → Counted count' answer after
keys_counted count count' base highs words answer before after so split e =
    let rest = so.rest in
    let cut = ap length split ∙ length-append (ids_of_keys highs words base) (those (2 ^ 32) after)
    ∙ ap (λ (n : ℕ). n + length (those (2 ^ 32) after)) (length-map (those 524288 (found highs words)) (λ i. base * 65536 + i)) in
    record { rest = omega arith }

-- ---- one key after the other

-- the bitmaps tell what is left from a key on of eight keys, and there is nothing after these up to the next multiple of 8
pub record AreKeys (operation : Operation) (first : ℕ) (sets highs words : List (List ℕ)) (key next : ℕ) : Type 0 where
  pub later : key / 8 * 8 + 8 ≤ next
  pub most : next ≤ 65536
  pub whole : next / 8 * 8 ≡ next
  pub own : (x : ℕ) → key ≤ x / 65536 → x / 65536 < key / 8 * 8 + 8
      → folded operation (map (has x) (swapped first sets)) ≡ has_number (get_or highs (x / 65536 % 8) []) (get_or words (x / 65536 % 8) []) (x % 65536)
  pub none : (x : ℕ) → key / 8 * 8 + 8 ≤ x / 65536 → x / 65536 < next → folded operation (map (has x) (swapped first sets)) ≡ false

pub keys_combined : (operation : Operation) (first base next : ℕ) (sets highs words : List (List ℕ)) → base / 8 * 8 ≡ base → base + 8 ≤ next → next ≤ 65536
    → ((i : ℕ) → i < 524288 → found highs words i ≡ folded operation (map (has (base * 65536 + i)) (swapped first sets)))
    → ((x : ℕ) → base + 8 ≤ x / 65536 → x / 65536 < next → folded operation (map (has x) (swapped first sets)) ≡ false)
    → AreKeys operation first sets highs words base (next / 8 * 8)
keys_combined operation first base next sets highs words whole later most own none = record {
  later = omega arith;
  most = omega arith;
  whole = omega arith;
  own = λ x up down.
      let i : ℕ = x - base * 65536 in
      let is : base * 65536 + i ≡ x = omega arith in
      let key : i / 65536 ≡ x / 65536 % 8 = omega arith in
      let low : i % 65536 ≡ x % 65536 = omega arith in
      sym (ap (λ (n : ℕ). folded operation (map (has n) (swapped first sets))) is) ∙ sym (own i (omega arith)) ∙ found_key highs words (x / 65536 % 8) i key
      ∙ ap (has_number (get_or highs (x / 65536 % 8) []) (get_or words (x / 65536 % 8) [])) low;
  none = λ x up down. none x (omega arith) (omega arith);
}

-- the key is the first that is left
pub key_part : (operation : Operation) (first key next : ℕ) (sets highs words : List (List ℕ)) → AreKeys operation first sets highs words key next → key < 65536
    → IsPart key (has_number (get_or highs (key % 8) []) (get_or words (key % 8) [])) (left_from operation first sets key) (left_from operation first sets (key + 1))
key_part operation first key next sets highs words are small = record {
  small = small;
  lower = λ x h. below operation first key x sets h;
  own = λ x e.
      let k : x / 65536 % 8 ≡ key % 8 = omega arith in
      above operation first key x sets (omega arith) ∙ are.own x (omega arith) (omega arith)
      ∙ ap (λ (n : ℕ). has_number (get_or highs n []) (get_or words n []) (x % 65536)) k;
  passed = λ x h. below operation first (key + 1) x sets (omega arith);
  higher = λ x h. above operation first key x sets (omega arith) ∙ sym (above operation first (key + 1) x sets (omega arith));
}

-- nothing is left between the last of eight keys and the next one
pub keys_end : (operation : Operation) (first key next : ℕ) (sets highs words : List (List ℕ)) → AreKeys operation first sets highs words key next → key % 8 ≡ 7
    → those (2 ^ 32) (left_from operation first sets (key + 1)) ≡ those (2 ^ 32) (left_from operation first sets next)
keys_end operation first key next sets highs words are last =
    let after = are.later in
    those_same (2 ^ 32) _ _ (λ x small. elim (cases_lt (x / 65536) (key + 1)) [
      | inl lt ↦ below operation first (key + 1) x sets lt ∙ sym (below operation first next x sets (omega arith))
      | inr ge ↦ elim (cases_lt (x / 65536) next) [
        | inl less ↦ above operation first (key + 1) x sets ge ∙ are.none x (omega arith) less ∙ sym (below operation first next x sets less)
        | inr more ↦ above operation first (key + 1) x sets ge ∙ sym (above operation first next x sets more)
      ]
    ])

-- the bitmap of a key that was passed may change
pub keys_passed : (operation : Operation) (first key next : ℕ) (sets highs words : List (List ℕ)) (ws : List ℕ) → AreKeys operation first sets highs words key next → key % 8 ≢ 7
    → AreKeys operation first sets highs (set words (key % 8) ws) (key + 1) next
keys_passed operation first key next sets highs words ws are inner =
    let after = are.later in
    record {
      later = omega arith;
      most = are.most;
      whole = are.whole;
      own = λ x up down.
          are.own x (omega arith) (omega arith)
          ∙ ap (λ (l : List ℕ). has_number (get_or highs (x / 65536 % 8) []) l (x % 65536)) (sym (get_or-set_other words (key % 8) (x / 65536 % 8) ws [] (λ e. absurd (omega arith))));
      none = λ x up down. are.none x (omega arith) (omega arith);
    }
