-- Ids that are spread out are looked up: among equal high words by their low words.
use Rattle.std.proofs.Common.{◌≡◌, ◌≢◌, ℕ, zero, suc, ◌+◌, ◌-◌, ◌*◌, ◌/◌, ◌^◌, ◌<◌, ◌≤◌, Bool, false, cond, eqb, List, [], ◌∷◌, None, Option, Some, drop, get_or, length, take, sym, ap, ◌∙◌, arith, eq-eqb, inl, inr, subst, length-drop, length-take-le}
use Rattle.std.specs.List.{slice_get}
use Rattle.std.specs.Option.{is_some}
use Rattle.std.proofs.lemmas.Option.{slice_get-get_or}
use Rattle.std.proofs.lemmas.Bool.{cases_lt, le-ltb, lt-ltb, ne_eqb, true≢false}
use Rattle.std.proofs.lemmas.Bool.Decides.{eqb_tells}
use Rattle.std.proofs.lemmas.List.{get_or-drop, get_or-take}
use Rattle.bitpack_slices.proofs.ForCallers.{Below, bytes_are, has_at_rank, quads_len, rank_above, rank_le, rank_under, rising_drop}
use Rattle.bitpack_slices.specs.Slices.{quads_of}
use Rattle.bitpack_slices.specs.Bodies.{IsRising}
use Rattle.bitpack_slices.specs.Reads.{has, rank}
use Rattle.bitpack_sets.proofs.ForCallers.{quads_back, rising_taken}
use Rattle.bitpack_columns.proofs.ForCallers.{values_are_read}
use Rattle.bitpack_columns.specs.Columns.{IsColumn}
use Rattle.bitpack_columns.specs.Opened.{encoding_of, values}
use Rattle.bitpack_columns.specs.Stated.{kind_in}
use Rattle.bitpack_wide.specs.Forms.{spread_ids}
use Rattle.bitpack_wide.specs.declared.spread.Spread.{Spread}
use Rattle.bitpack_columns.specs.Ranges.{first_from}
use Rattle.bitpack_wide.proofs.PairLaws.{below_get, paired_drop, paired_get, paired_len, paired_take}
use Rattle.bitpack_wide.proofs.SpreadLaws.{rising_order}
use Rattle.bitpack_wide.specs.Reads.{paired}

-- ---- what a search of a column finds

-- the first value that is at least the target, and its index
record IsFirst (target start : ℕ) (xs : List ℕ) (position value : ℕ) : Type 0 where
  index : ℕ
  at : position ≡ start + index
  within : index < length xs
  value_is : value ≡ get_or xs index 0
  least : target ≤ value
  before : (k : ℕ) → k < index → get_or xs k 0 < target

abbrev pair_of : Option (ℕ × ℕ) → ℕ × ℕ
pair_of None = (0, 0)
pair_of (Some pair) = pair

first_at : (target start : ℕ) (xs : List ℕ) (position value : ℕ) → first_from target start xs ≡ Some (position, value) → IsFirst target start xs position value
unfolding first_from
first_at target start [] position value e = absurd (true≢false (sym (ap is_some e)))
first_at target start (x ∷ xs) position value e = elim (cases_lt x target) [
  | inl less ↦
      let later = sym (ap (λ (b : Bool). cond b (first_from target (start + 1) xs) (Some (start, x))) (lt-ltb x target less)) ∙ e in
      let is = first_at target (start + 1) xs position value later in
      let at = is.at in
      let within = is.within in
      record {
        index = suc is.index;
        at = omega arith;
        within = omega arith;
        value_is = is.value_is;
        least = is.least;
        before = earlier x target xs is.index less is.before;
      }
  | inr more ↦
      let here : Some (start, x) ≡ Some (position, value) = sym (ap (λ (b : Bool). cond b (first_from target (start + 1) xs) (Some (start, x))) (le-ltb x target more)) ∙ e in
      let p : start ≡ position = ap (λ (o : Option (ℕ × ℕ)). (pair_of o).0) here in
      let v : x ≡ value = ap (λ (o : Option (ℕ × ℕ)). (pair_of o).1) here in
      record { index = 0; at = omega arith; within = omega arith; value_is = sym v; least = omega arith; before = λ k lt. absurd (omega arith) }
]
  where
    earlier : (x target : ℕ) (xs : List ℕ) (index : ℕ) → x < target → ((k : ℕ) → k < index → get_or xs k 0 < target) → (k : ℕ) → k < suc index → get_or (x ∷ xs) k 0 < target
    earlier x target xs index less before zero lt = less
    earlier x target xs index less before (suc k) lt = before k (omega arith)

pub none_at : (target start : ℕ) (xs : List ℕ) → first_from target start xs ≡ None → (k : ℕ) → k < length xs → get_or xs k 0 < target
unfolding first_from
none_at target start [] e k lt = absurd (omega arith)
none_at target start (x ∷ xs) e zero lt = elim (cases_lt x target) [
  | inl less ↦ less
  | inr more ↦ absurd (true≢false (ap is_some (sym (ap (λ (b : Bool). cond b (first_from target (start + 1) xs) (Some (start, x))) (le-ltb x target more)) ∙ e)))
]
none_at target start (x ∷ xs) e (suc k) lt = elim (cases_lt x target) [
  | inl less ↦ none_at target (start + 1) xs (sym (ap (λ (b : Bool). cond b (first_from target (start + 1) xs) (Some (start, x))) (lt-ltb x target less)) ∙ e) k (omega arith)
  | inr more ↦ absurd (true≢false (ap is_some (sym (ap (λ (b : Bool). cond b (first_from target (start + 1) xs) (Some (start, x))) (le-ltb x target more)) ∙ e)))
]

-- of all values
pub found_at : (target : ℕ) (xs : List ℕ) (position value : ℕ) → first_from target 0 xs ≡ Some (position, value)
    → (position < length xs) × (value ≡ get_or xs position 0) × (target ≤ value) × ((k : ℕ) → k < position → get_or xs k 0 < target)
found_at target xs position value e =
    let is = first_at target 0 xs position value e in
    let at : is.index ≡ position = (let a = is.at in omega arith) in
    (subst (λ (n : ℕ). n < length xs) at is.within, is.value_is ∙ ap (λ (n : ℕ). get_or xs n 0) at, is.least, λ k lt. is.before k (omega arith))

-- ---- ranks by what is on both sides

pub rank_at : (x low high position : ℕ) (xs : List ℕ) → IsRising low high xs → position ≤ length xs → (0 < position → get_or xs (position - 1) 0 < x)
    → (position < length xs → x ≤ get_or xs position 0) → position ≡ rank x xs
rank_at x low high position xs r most below above =
    let few = rank_le x xs in
    let least : position ≤ rank x xs = elim (cases_lt 0 position) [
      | inl some ↦ (let more = rank_above x low high (position - 1) xs r (omega arith) (below some) in omega arith)
      | inr none ↦ omega arith
    ] in
    let greatest : rank x xs ≤ position = elim (cases_lt position (length xs)) [
      | inl less ↦ rank_under x low high position xs r less (above less)
      | inr all ↦ omega arith
    ] in
    omega arith

below_rank : (x low high i : ℕ) (xs : List ℕ) → IsRising low high xs → i < length xs → i < rank x xs → get_or xs i 0 < x
below_rank x low high i xs r lt less = elim (cases_lt (get_or xs i 0) x) [
  | inl below ↦ below
  | inr above ↦ (let under = rank_under x low high i xs r lt above in absurd (omega arith))
]

above_rank : (x low high i : ℕ) (xs : List ℕ) → IsRising low high xs → i < length xs → rank x xs ≤ i → x ≤ get_or xs i 0
above_rank x low high i xs r lt more = elim (cases_lt (get_or xs i 0) x) [
  | inl below ↦ (let above = rank_above x low high i xs r lt below in absurd (omega arith))
  | inr above ↦ above
]

-- ---- equal high words

-- each of these is the high word
abbrev AreAll : ℕ → List ℕ → Type 0
AreAll high [] = Unit {0}
AreAll high (h ∷ hs) = (h ≡ high) × AreAll high hs

are_all : (high : ℕ) (hs : List ℕ) → ((k : ℕ) → k < length hs → get_or hs k 0 ≡ high) → AreAll high hs
are_all high [] h = tt
are_all high (x ∷ hs) h = (h 0 (omega arith), are_all high hs (λ k lt. h (suc k) (omega arith)))

lows_from : (high from top : ℕ) (hs ls : List ℕ) → AreAll high hs → length hs ≡ length ls → Below (2 ^ 32) ls → from ≤ 2 ^ 32 → IsRising (high * 2 ^ 32 + from) top (paired hs ls) → IsRising from (2 ^ 32) ls
unfolding paired
lows_from high from top [] [] all e small few r = few
lows_from high from top [] (l ∷ ls) all e small few r = absurd (omega arith)
lows_from high from top (h ∷ hs) [] all e small few r = absurd (omega arith)
lows_from high from top (h ∷ hs) (l ∷ ls) (is, all) e (a, small) few (up, r) =
    let same : h * 2 ^ 32 + l + 1 ≡ high * 2 ^ 32 + (l + 1) = omega arith in
    (omega arith, lows_from high (l + 1) top hs ls all (omega arith) small (omega arith) (subst (λ (n : ℕ). IsRising n top (paired hs ls)) same r))

-- the low words of equal high words increase
lows_rise : (high low top : ℕ) (hs ls : List ℕ) → AreAll high hs → length hs ≡ length ls → Below (2 ^ 32) ls → IsRising low top (paired hs ls) → IsRising 0 (2 ^ 32) ls
unfolding paired
lows_rise high low top [] [] all e small r = omega arith
lows_rise high low top [] (l ∷ ls) all e small r = absurd (omega arith)
lows_rise high low top (h ∷ hs) [] all e small r = absurd (omega arith)
lows_rise high low top (h ∷ hs) (l ∷ ls) (is, all) e (a, small) (up, r) =
    lows_from high 0 top (h ∷ hs) (l ∷ ls) (is, all) e (a, small) (omega arith) (omega arith, r)

below_drop : (top n : ℕ) (xs : List ℕ) → Below top xs → Below top (drop n xs)
below_drop top zero xs b = b
below_drop top (suc n) [] b = tt
below_drop top (suc n) (x ∷ xs) (a, b) = below_drop top n xs b

below_take : (top n : ℕ) (xs : List ℕ) → Below top xs → Below top (take n xs)
below_take top zero xs b = tt
below_take top (suc n) [] b = tt
below_take top (suc n) (x ∷ xs) (a, b) = (a, below_take top n xs b)

same_part : (a b c : ℕ) → eqb (a + b) (a + c) ≡ eqb b c
same_part a b c = elim (eqb_tells b c) [
  | inl (is, e) ↦ eq-eqb (a + b) (a + c) (omega arith) ∙ sym is
  | inr (isnt, e) ↦ ne_eqb (a + b) (a + c) (λ f. e (omega arith)) ∙ sym isnt
]

-- ---- the ids

module _ (hs ls : List ℕ) (size : length hs ≡ length ls) (small : Below (2 ^ 32) ls) (rising : IsRising 0 (2 ^ 64) (paired hs ls)) where
  abbrev ids : List ℕ
  ids = paired hs ls

  pub many : length ids ≡ length hs
  many = paired_len hs ls size

  id_at : (k : ℕ) → k < length hs → (get_or ids k 0 ≡ get_or hs k 0 * 2 ^ 32 + get_or ls k 0) × (get_or ls k 0 < 2 ^ 32)
  id_at k lt = (paired_get k hs ls size lt, below_get (2 ^ 32) k ls small (omega arith))

  -- all high words are below
  pub rank_all : (x position : ℕ) → position ≡ length hs → ((k : ℕ) → k < length hs → get_or hs k 0 < x / 2 ^ 32) → position ≡ rank x ids
  rank_all x position e below =
      let long = many in
      rank_at x 0 (2 ^ 64) position ids rising (omega arith)
      (λ some. let (is, few) = id_at (position - 1) (omega arith) in let less = below (position - 1) (omega arith) in omega arith)
      (λ lt. absurd (omega arith))

  -- the first high word that is not below is another
  pub rank_other : (x position : ℕ) → position < length hs → ((k : ℕ) → k < position → get_or hs k 0 < x / 2 ^ 32) → x / 2 ^ 32 < get_or hs position 0 → position ≡ rank x ids
  rank_other x position lt below above =
      let long = many in
      rank_at x 0 (2 ^ 64) position ids rising (omega arith)
      (λ some. let (is, few) = id_at (position - 1) (omega arith) in let less = below (position - 1) (omega arith) in omega arith)
      (λ lt'. let (is, few) = id_at position lt in omega arith)

  -- whether the id is at its rank: by the high word, and by the low word
  pub has_other : (x position : ℕ) → position ≡ rank x ids → position < length hs → get_or hs position 0 ≢ x / 2 ^ 32 → has x ids ≡ false
  has_other x position e lt ne =
      let long = many in
      let (is, few) = id_at position lt in
      has_at_rank x 0 (2 ^ 64) position ids rising e (omega arith) ∙ ne_eqb (get_or ids position 0) x (λ f. ne (omega arith))

  pub has_low : (high low position : ℕ) → low < 2 ^ 32 → position ≡ rank (high * 2 ^ 32 + low) ids → position < length hs → get_or hs position 0 ≡ high
      → has (high * 2 ^ 32 + low) ids ≡ eqb (get_or ls position 0) low
  has_low high low position few e lt same =
      let long = many in
      let (is, few') = id_at position lt in
      has_at_rank (high * 2 ^ 32 + low) 0 (2 ^ 64) position ids rising e (omega arith)
      ∙ ap (λ (n : ℕ). eqb n (high * 2 ^ 32 + low)) (is ∙ ap (λ (n : ℕ). n * 2 ^ 32 + get_or ls position 0) same)
      ∙ same_part (high * 2 ^ 32) (get_or ls position 0) low

  -- the first id with the high word is not below
  pub rank_first : (high low begin : ℕ) → low < 2 ^ 32 → begin < length hs → get_or hs begin 0 ≡ high → ((k : ℕ) → k < begin → get_or hs k 0 < high) → low ≤ get_or ls begin 0
      → begin ≡ rank (high * 2 ^ 32 + low) ids
  rank_first high low begin few lt same before up =
      let long = many in
      rank_at (high * 2 ^ 32 + low) 0 (2 ^ 64) begin ids rising (omega arith)
      (λ some. let (is, few') = id_at (begin - 1) (omega arith) in let less = before (begin - 1) (omega arith) in omega arith)
      (λ lt'. let (is, few') = id_at begin lt in omega arith)

  -- where the ids with a high word end
  pub run_of : (high begin end : ℕ) → begin < length hs → high ≡ get_or hs begin 0 → ((k : ℕ) → k < begin → get_or hs k 0 < high) → end ≤ length hs
      → ((k : ℕ) → k < end → get_or hs k 0 ≤ high) → (end < length hs → high < get_or hs end 0)
      → (begin < end) × ((k : ℕ) → begin ≤ k → k < begin + (end - begin) → get_or hs k 0 ≡ high) × (begin + (end - begin) < length hs → high < get_or hs (begin + (end - begin)) 0)
  run_of high begin end lt same before within below above =
      let some : begin < end = elim (cases_lt begin end) [
        | inl less ↦ less
        | inr more ↦ elim (cases_lt end begin) [
          | inl under ↦ (let a = before end under in let b = above (omega arith) in absurd (omega arith))
          | inr over ↦ (let e : end ≡ begin = omega arith in let b = above (omega arith) in let d = ap (λ (m : ℕ). get_or hs m 0) e in absurd (omega arith))
        ]
      ] in
      let e : begin + (end - begin) ≡ end = omega arith in (
        some,
        λ k from to.
            let long = many in
            let (is, few) = id_at begin lt in
            let (is', few') = id_at k (omega arith) in
            let order = rising_order 0 (2 ^ 64) ids begin k rising from (omega arith) in
            let most = below k (omega arith) in
            omega arith,
        λ less. (let a = above (omega arith) in subst (λ (m : ℕ). high < get_or hs m 0) (sym e) a),
      )

  -- ---- the ids with a high word have the positions from begin on, n of them
  module _ (high low begin n : ℕ) (few : low < 2 ^ 32) (some : 0 < n) (within : begin + n ≤ length hs)
      (all : (k : ℕ) → begin ≤ k → k < begin + n → get_or hs k 0 ≡ high) (after : begin + n < length hs → high < get_or hs (begin + n) 0) where
    abbrev part : List ℕ
    part = take n (drop begin ls)

    part_len : length part ≡ n
    part_len = length-take-le n (drop begin ls) (omega (arith, length-drop begin ls))

    part_get : (k : ℕ) → k < n → get_or part k 0 ≡ get_or ls (begin + k) 0
    part_get k lt = get_or-take n (drop begin ls) k 0 lt ∙ get_or-drop begin ls k 0

    high_len : length (take n (drop begin hs)) ≡ n
    high_len = length-take-le n (drop begin hs) (omega (arith, length-drop begin hs))

    pub part_rises : IsRising 0 (2 ^ 32) part
    part_rises =
        let a = part_len in
        let b = high_len in
        let same : take n (drop begin ids) ≡ paired (take n (drop begin hs)) part = ap (take n) (paired_drop begin hs ls size) ∙ paired_take n (drop begin hs) (drop begin ls) in
        lows_rise high 0 (2 ^ 64) (take n (drop begin hs)) part
        (are_all high (take n (drop begin hs)) (λ k lt. get_or-take n (drop begin hs) k 0 (omega arith) ∙ get_or-drop begin hs k 0 ∙ all (begin + k) (omega arith) (omega arith)))
        (omega arith) (below_take (2 ^ 32) n (drop begin ls) (below_drop (2 ^ 32) begin ls small))
        (subst (IsRising 0 (2 ^ 64)) same (rising_taken 0 (2 ^ 64) n (drop begin ids) (rising_drop 0 (2 ^ 64) begin ids rising)))

    -- the first is below: so many more are
    pub rank_part : (r : ℕ) → r ≡ rank low part → get_or ls begin 0 < low → begin + r ≡ rank (high * 2 ^ 32 + low) ids
    rank_part r e first =
        let long = many in
        let size' = part_len in
        let most = rank_le low part in
        let zero_at : begin + 0 ≡ begin = omega arith in
        let head = part_get 0 some ∙ ap (λ (m : ℕ). get_or ls m 0) zero_at in
        let one = rank_above low 0 (2 ^ 32) 0 part part_rises (omega arith) (omega arith) in
        rank_at (high * 2 ^ 32 + low) 0 (2 ^ 64) (begin + r) ids rising (omega arith)
        (λ positive.
        let (is, few') = id_at (begin + r - 1) (omega arith) in
        let same = all (begin + r - 1) (omega arith) (omega arith) in
        let there : begin + (r - 1) ≡ begin + r - 1 = omega arith in
        let low_at = part_get (r - 1) (omega arith) ∙ ap (λ (m : ℕ). get_or ls m 0) there in
        let less = below_rank low 0 (2 ^ 32) (r - 1) part part_rises (omega arith) (omega arith) in
        omega arith)
        (λ lt. elim (cases_lt r n) [
          | inl inside ↦
              let (is, few') = id_at (begin + r) (omega arith) in
              let same = all (begin + r) (omega arith) (omega arith) in
              let low_at = part_get r inside in
              let more = above_rank low 0 (2 ^ 32) r part part_rises (omega arith) (omega arith) in
              omega arith
          | inr past ↦
              let here : begin + n ≡ begin + r = omega arith in
              let (is, few') = id_at (begin + r) (omega arith) in
              let above : high < get_or hs (begin + r) 0 = subst (λ (m : ℕ). high < get_or hs m 0) here (after (omega arith)) in
              omega arith
        ])

-- ---- what a set that is spread out has

pub size_of : (spread : Spread) → length (values spread.column) ≡ length (quads_of spread.lows.now)
size_of spread = let size = quads_len spread.lows.now in let long = spread.long in omega arith

pub small_of : (spread : Spread) → Below (2 ^ 32) (quads_of spread.lows.now)
small_of spread = (quads_back (length (values spread.column)) spread.lows.now (bytes_are spread.lows.now spread.are_bytes) spread.long).2

pub column_of : (spread : Spread) → IsColumn (kind_in (encoding_of spread.column)) (values spread.column)
column_of spread = (values_are_read (encoding_of spread.column) spread.column.are_bytes spread.column.states.none).0

pub high_small : (spread : Spread) (k : ℕ) → k < length (values spread.column) → get_or (values spread.column) k 0 < 2 ^ 32
high_small spread k lt = (column_of spread).words k 0 lt

pub id_there : (spread : Spread) (k high low id : ℕ) → k < length (values spread.column) → high ≡ get_or (values spread.column) k 0 → low ≡ get_or (quads_of spread.lows.now) k 0
    → id ≡ high * 2 ^ 32 + low → slice_get (spread_ids spread) k ≡ Some id
id_there spread k high low id lt h l e =
    let hs : List ℕ = values spread.column in
    let ls : List ℕ = quads_of spread.lows.now in
    let long = paired_len hs ls (size_of spread) in
    slice_get-get_or (spread_ids spread) k 0 (omega arith) ∙ ap (λ (n : ℕ). Some n)
    (paired_get k hs ls (size_of spread) lt ∙ ap (λ (n : ℕ). n * 2 ^ 32 + get_or ls k 0) (sym h) ∙ ap (λ (n : ℕ). high * 2 ^ 32 + n) (sym l) ∙ sym e)
