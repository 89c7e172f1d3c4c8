-- Parts are got back from their numbers, and the parts of the numbers that pass a test.
use Rattle.std.proofs.Common.{◌≡◌, ℕ, zero, suc, ◌+◌, ◌-◌, ◌*◌, ◌/◌, ◌%◌, ◌<◌, ◌≤◌, Bool, true, false, ◌||◌, ◌&&◌, ltb, eqb, List, [], ◌∷◌, ◌++◌, map, length, get_or, refl, sym, ap, ◌∙◌, arith, subst, drop, take, set, append-nil, append_assoc, eq-eqb}
use Rattle.std.specs.List.{flat_map}
use Rattle.std.proofs.lemmas.Bool.{lt-ltb, true≢false}
use Rattle.std.proofs.lemmas.List.{drop_all, drop_more, length-map}
use Rattle.bitpack_groups.proofs.ForCallers.{IsFilled, fill_done, fill_one}
use Rattle.bitpack_slices.proofs.lemmas.bits.FourLaws.{take_past}
use Rattle.bitpack_slices.proofs.lemmas.bits.UnpackLaws.{by_high, lows, those_by_high}
use Rattle.bitpack_slices.proofs.lemmas.bodies.CutLaws.{len_few}
use Rattle.bitpack_slices.proofs.lemmas.bodies.JoinLaws.{AreParts, join}
use Rattle.bitpack_slices.proofs.lemmas.bodies.LoadLaws.{filtered_same, has_those, those_rise}
use Rattle.bitpack_slices.proofs.lemmas.bodies.TestLaws.{slice_size}
use Rattle.bitpack_slices.proofs.lemmas.bytes.DecodeLaws.{rising_top}
use Rattle.bitpack_slices.proofs.lemmas.bodies.PartsJoin.{parts_join}
use Rattle.bitpack_slices.specs.Bodies.{IsRising, blocks, blocks_of, parts, slice}
use Rattle.bitpack_slices.specs.Operations.{those}
use Rattle.bitpack_slices.specs.Reads.{has}
use Rattle.bitpack_slices.specs.Slices.{slice_len}

-- ---- the parts of the numbers that pass a test

-- the parts of these high bytes
abbrev pub parts_by : (ℕ → Bool) → List ℕ → List (ℕ × List ℕ)
parts_by p [] = []
parts_by p (high ∷ highs) = (high, lows p high) ∷ parts_by p highs

-- each of these high bytes has some numbers
abbrev pub HaveSome : (ℕ → Bool) → List ℕ → Type 0
HaveSome p highs = (i : ℕ) → i < length highs → 0 < length (lows p (get_or highs i 0))

parts_are : (p : ℕ → Bool) (low : ℕ) (highs : List ℕ) → IsRising low 256 highs → HaveSome p highs → AreParts 256 low 256 (parts_by p highs)
parts_are p low [] r some = r
parts_are p low (high ∷ highs) (a, r) some = (
  a,
  some 0 (omega arith),
  those_rise (λ i. p (256 * high + i)) 256,
  parts_are p (high + 1) highs r (λ i h. some (suc i) (omega arith)),
)

join_high : (p : ℕ → Bool) (highs : List ℕ) → join 256 (parts_by p highs) ≡ by_high p highs
join_high p [] = refl
join_high p (high ∷ highs) =
    let e : high * 256 ≡ 256 * high = omega arith in
    ap (λ (n : ℕ). map (λ low. n + low) (lows p high) ++ join 256 (parts_by p highs)) e
    ∙ ap (λ (l : List ℕ). map (λ low. 256 * high + low) (lows p high) ++ l) (join_high p highs)

parts_highs : (p : ℕ → Bool) (highs : List ℕ) → map (λ part. part.0) (parts_by p highs) ≡ highs
parts_highs p [] = refl
parts_highs p (high ∷ highs) = ap (λ (l : List ℕ). high ∷ l) (parts_highs p highs)

parts_counts : (p : ℕ → Bool) (highs : List ℕ) → map (λ part. length part.1 - 1) (parts_by p highs) ≡ map (λ high. length (lows p high) - 1) highs
parts_counts p [] = refl
parts_counts p (high ∷ highs) = ap (λ (l : List ℕ). (length (lows p high) - 1) ∷ l) (parts_counts p highs)

parts_slices : (p : ℕ → Bool) (highs : List ℕ) → flat_map (λ part. slice part.1) (parts_by p highs) ≡ flat_map (λ high. slice (lows p high)) highs
parts_slices p [] = refl
parts_slices p (high ∷ highs) = ap (λ (l : List ℕ). slice (lows p high) ++ l) (parts_slices p highs)

-- ---- the high bytes that occur are all that the numbers have

-- a bit for each high byte that has some numbers
abbrev pub AreOccurring : (ℕ → Bool) → (ℕ → Bool) → Type 0
AreOccurring p q = (h : ℕ) → h < 256 → q h ≡ ltb 0 (length (lows p h))

pub some_of : (x : ℕ) (xs : List ℕ) → has x xs ≡ true → 0 < length xs
some_of x [] h = absurd (true≢false (sym h))
some_of x (y ∷ ys) h = omega arith

occurs : (p : ℕ → Bool) (x : ℕ) → p x ≡ true → ltb 0 (length (lows p (x / 256))) ≡ true
occurs p x is =
    let split : 256 * (x / 256) + x % 256 ≡ x = omega arith in
    let there : has (x % 256) (lows p (x / 256)) ≡ true =
    has_those (λ i. p (256 * (x / 256) + i)) (x % 256) 256 (omega arith) ∙ ap p split ∙ is in
    lt-ltb 0 (length (lows p (x / 256))) (some_of (x % 256) (lows p (x / 256)) there)

and_self : (b c : Bool) → (c ≡ true → b ≡ true) → (b && c) ≡ c
and_self true c h = refl
and_self false true h = h refl
and_self false false h = refl

each_high : (p : ℕ → Bool) (highs : List ℕ) → ((x : ℕ) → x < 65536 → p x ≡ true → has (x / 256) highs ≡ true)
    → those 65536 p ≡ those 65536 (λ x. has (x / 256) highs && p x)
unfolding those
each_high p highs h =
    filtered_same p (λ x. has (x / 256) highs && p x) 0 65536
    (λ x a b. sym (and_self (has (x / 256) highs) (p x) (h x (omega arith))))

numbers_by_high : (p q : ℕ → Bool) → AreOccurring p q
    → those 65536 p ≡ by_high p (those 256 q)
numbers_by_high p q are =
    let highs : List ℕ = those 256 q in
    each_high p highs (λ x small is. has_those q (x / 256) 256 (omega arith) ∙ are (x / 256) (omega arith) ∙ occurs p x is)
    ∙ those_by_high p highs (those_rise q 256)

or_more : (b : Bool) → (b || true) ≡ true
or_more true = refl
or_more false = refl

pub has_own : (xs : List ℕ) (i : ℕ) → i < length xs → has (get_or xs i 0) xs ≡ true
has_own [] i h = absurd (omega arith)
has_own (x ∷ xs) zero h = ap (λ (b : Bool). b || has x xs) (eq-eqb x x refl)
has_own (x ∷ xs) (suc i) h = ap (λ (b : Bool). eqb x (get_or xs i 0) || b) (has_own xs i (omega arith)) ∙ or_more (eqb x (get_or xs i 0))

some_more : (n : ℕ) → ltb 0 n ≡ true → 0 < n
some_more zero e = absurd (true≢false (sym e))
some_more (suc n) e = omega arith

pub highs_some : (p q : ℕ → Bool) → AreOccurring p q → HaveSome p (those 256 q)
highs_some p q are i h =
    let highs : List ℕ = those 256 q in
    let x : ℕ = get_or highs i 0 in
    let small : x < 256 = rising_top 0 256 i highs (those_rise q 256) h in
    some_more (length (lows p x)) (sym (are x small) ∙ sym (has_those q x 256 small) ∙ has_own highs i h)

-- some numbers have some high bytes
pub some_highs : (p q : ℕ → Bool) → AreOccurring p q → 0 < length (those 65536 p) → 0 < length (those 256 q)
some_highs p q are some = not_none (those 256 q) (ap length (numbers_by_high p q are))
  where
    not_none : (highs : List ℕ) → length (those 65536 p) ≡ length (by_high p highs) → 0 < length highs
    not_none [] e = absurd (omega arith)
    not_none (high ∷ highs) e = omega arith

-- the blocks of the numbers that pass
pub blocks_by : (p q : ℕ → Bool) → AreOccurring p q → blocks (those 65536 p)
    ≡ (length (those 256 q) - 1) ∷ (slice (those 256 q) ++ (map (λ high. length (lows p high) - 1) (those 256 q)
    ++ flat_map (λ high. slice (lows p high)) (those 256 q)))
unfolding blocks_of
blocks_by p q are =
    let highs : List ℕ = those 256 q in
    let ps : List (ℕ × List ℕ) = parts_by p highs in
    let same : parts 256 (those 65536 p) ≡ ps =
    ap (parts 256) (numbers_by_high p q are ∙ sym (join_high p highs))
    ∙ parts_join 256 0 256 ps (parts_are p 0 highs (those_rise q 256) (highs_some p q are)) in
    let cs : List ℕ = map (λ part. length part.1 - 1) ps in
    let ss : List ℕ = flat_map (λ part. slice part.1) ps in
    let long : length ps ≡ length highs = sym (length-map ps (λ part. part.0)) ∙ ap length (parts_highs p highs) in
    ap blocks_of same ∙ ap (λ (n : ℕ). (n - 1) ∷ ((slice (map (λ part. part.0) ps) ++ cs) ++ ss)) long
    ∙ ap (λ (l : List ℕ). (length highs - 1) ∷ ((slice l ++ cs) ++ ss)) (parts_highs p highs)
    ∙ ap (λ (l : List ℕ). (length highs - 1) ∷ l) (append_assoc (slice highs) cs ss)
    ∙ ap (λ (l : List ℕ). (length highs - 1) ∷ (slice highs ++ (l ++ ss))) (parts_counts p highs)
    ∙ ap (λ (l : List ℕ). (length highs - 1) ∷ (slice highs ++ (map (λ high. length (lows p high) - 1) highs ++ l))) (parts_slices p highs)

one_set : (head : List ℕ) (x : ℕ) → length head ≡ 1 → set head 0 x ≡ x ∷ []
one_set [] x h = absurd (omega arith)
one_set (y ∷ []) x h = refl
one_set (y ∷ z ∷ ys) x h = absurd (omega arith)

-- what is written one after the other
pub parts_written : (head first counts slices : List ℕ) (count size len : ℕ) → length head ≡ 1 → length first ≡ size → length counts ≡ count
    → take (1 + size + count + len) (set head 0 (count - 1) ++ (first ++ (counts ++ slices))) ≡ (count - 1) ∷ (first ++ (counts ++ take len slices))
parts_written head first counts slices count size len one first_len counts_len =
    let all : 1 + size + count + len ≡ 1 + (size + (count + len)) = omega arith in
    ap (λ (n : ℕ). take n (set head 0 (count - 1) ++ (first ++ (counts ++ slices)))) all
    ∙ ap (λ (l : List ℕ). take (1 + (size + (count + len))) (l ++ (first ++ (counts ++ slices)))) (one_set head (count - 1) one)
    ∙ take_past 1 (size + (count + len)) ((count - 1) ∷ []) (first ++ (counts ++ slices)) refl
    ∙ ap (λ (l : List ℕ). (count - 1) ∷ l) (take_past size (count + len) first (counts ++ slices) first_len)
    ∙ ap (λ (l : List ℕ). (count - 1) ∷ (first ++ l)) (take_past count len counts slices counts_len)

-- they are the blocks
pub blocks_written : (p q : ℕ → Bool) (head first counts slices : List ℕ) (count size len : ℕ) → AreOccurring p q
    → count ≡ length (those 256 q) → size ≡ slice_len count → length head ≡ 1
    → first ≡ slice (those 256 q) → counts ≡ map (λ high. length (lows p high) - 1) (those 256 q)
    → take len slices ≡ flat_map (λ high. slice (lows p high)) (those 256 q)
    → take (1 + size + count + len) (set head 0 (count - 1) ++ (first ++ (counts ++ slices))) ≡ blocks (those 65536 p)
blocks_written p q head first counts slices count size len are many room one a b d =
    let highs : List ℕ = those 256 q in
    let first_len : length first ≡ size = ap length a ∙ slice_size highs ∙ sym (ap slice_len many) ∙ sym room in
    let counts_len : length counts ≡ count = ap length b ∙ length-map highs (λ high. length (lows p high) - 1) ∙ sym many in
    parts_written head first counts slices count size len one first_len counts_len
    ∙ ap (λ (l : List ℕ). (count - 1) ∷ (first ++ (counts ++ l))) d
    ∙ ap (λ (n : ℕ). (n - 1) ∷ (first ++ (counts ++ flat_map (λ high. slice (lows p high)) highs))) many
    ∙ ap (λ (l : List ℕ). (length highs - 1) ∷ (l ++ (counts ++ flat_map (λ high. slice (lows p high)) highs))) a
    ∙ ap (λ (l : List ℕ). (length highs - 1) ∷ (slice highs ++ (l ++ flat_map (λ high. slice (lows p high)) highs))) b
    ∙ sym (blocks_by p q are)

-- ---- one high byte more

-- the counts and slices of the high bytes that are left are still to be written
pub record PartsLeft (p : ℕ → Bool) (highs old counts slices : List ℕ) (index end : ℕ) : Type 0 where
  pub few : end ≤ 32 * index
  pub room : length slices ≡ length old
  pub counted : IsFilled counts index (map (λ high. length (lows p high) - 1) (drop index highs)) (map (λ high. length (lows p high) - 1) highs)
  pub written : take end slices ++ flat_map (λ high. slice (lows p high)) (drop index highs) ≡ flat_map (λ high. slice (lows p high)) highs

pub part_more : (p : ℕ → Bool) (highs old counts slices new : List ℕ) (index end count next : ℕ) → index < length highs → 32 * length highs ≤ length old
    → PartsLeft p highs old counts slices index end → count ≡ length (lows p (get_or highs index 0))
    → next ≡ end + slice_len count → length new ≡ length slices → take next new ≡ take end slices ++ slice (lows p (get_or highs index 0))
    → PartsLeft p highs old (set counts index (count - 1)) new (index + 1) next
part_more p highs old counts slices new index end count next h room left many next_is long is =
    let own : List ℕ = lows p (get_or highs index 0) in
    let f : ℕ → ℕ = λ high. length (lows p high) - 1 in
    let rest : List ℕ = flat_map (λ high. slice (lows p high)) (drop (index + 1) highs) in
    let short = len_few count in
    let few = left.few in
    let more : IsFilled counts index ((length own - 1) ∷ map f (drop (index + 1) highs)) (map f highs) =
    subst (λ (l : List ℕ). IsFilled counts index l (map f highs)) (ap (map f) (drop_more highs index 0 h)) left.counted in
    record {
      few = omega arith;
      room = long ∙ left.room;
      counted = subst (λ (n : ℕ). IsFilled (set counts index (n - 1)) (index + 1) (map f (drop (index + 1) highs)) (map f highs)) (sym many)
          (fill_one counts index (length own - 1) (map f (drop (index + 1) highs)) (map f highs) more);
      written = ap (λ (l : List ℕ). l ++ rest) is ∙ append_assoc (take end slices) (slice own) rest
          ∙ ap (λ (l : List ℕ). take end slices ++ flat_map (λ high. slice (lows p high)) l) (sym (drop_more highs index 0 h)) ∙ left.written;
    }

pub parts_done : (p : ℕ → Bool) (highs old counts slices : List ℕ) (index end : ℕ) → index ≡ length highs → PartsLeft p highs old counts slices index end
    → (end ≤ 32 * length highs) × (counts ≡ map (λ high. length (lows p high) - 1) highs) × (take end slices ≡ flat_map (λ high. slice (lows p high)) highs)
parts_done p highs old counts slices index end done left =
    let f : ℕ → ℕ = λ high. length (lows p high) - 1 in
    let none : drop index highs ≡ [] = drop_all index highs (omega arith) in
    let few = left.few in (
      omega arith,
      fill_done counts index (map f highs) (subst (λ (l : List ℕ). IsFilled counts index (map f l) (map f highs)) none left.counted),
      sym (append-nil (take end slices)) ∙ ap (λ (l : List ℕ). take end slices ++ flat_map (λ high. slice (lows p high)) l) (sym none) ∙ left.written,
    )
