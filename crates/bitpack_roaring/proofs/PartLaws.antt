-- The chunks of a set, one after the other: the ids from a position on are those of a chunk, and those from its end on.
use Rattle.std.proofs.Common.{◌≡◌, ◌≢◌, ℕ, zero, suc, ◌+◌, ◌-◌, ◌*◌, ◌/◌, ◌%◌, ◌^◌, ◌<◌, ◌≤◌, List, [], ◌∷◌, ◌++◌, map, take, drop, length, min, get_or, refl, sym, ap, subst, ◌∙◌, arith, inl, inr, length-append, length-drop, take-append-drop}
use Rattle.std.specs.List.{range_with_len}
use Rattle.std.proofs.lemmas.Bool.{cases_lt}
use Rattle.std.proofs.lemmas.List.{drop-drop, drop_all, get_or-drop, get_or-take, length-map, length-take-le, take-append-le, take_all}
use Rattle.bitpack_slices.proofs.ForCallers.{AreParts, bounds_rise, join_parts, parts_are, parts_join, quads_len, rising_drop, rising_room}
use Rattle.bitpack_slices.specs.Bodies.{IsRising, parts}
use Rattle.bitpack_slices.specs.Runs.{boundaries}
use Rattle.bitpack_slices.specs.Slices.{quads_of}
use Rattle.bitpack_sets.specs.Chunks.{first_key, ids_from, lows_between, positions}
use Rattle.bitpack_sets.specs.Directory.{chunk_at, ids_of_chunks, key_at}
use Rattle.bitpack_roaring.proofs.HeadLaws.{two_small}
use Rattle.bitpack_sets.proofs.ForCallers.{between_array, between_chunk, from_array, from_chunks, ids_are_read, lows_raised, positions_array, positions_chunks, raised_chunk}
use Rattle.bitpack_sets.specs.Opened.{ids}
use Rattle.bitpack_sets.specs.Written.{IsChunk, lows}
use Rattle.bitpack_sets.specs.declared.chunks.Chunks.{Chunks}
use Rattle.bitpack_sets.specs.declared.id_set.IdSet.{IdSet}
use Rattle.bitpack_roaring.specs.inner.Walks.{IsAt, IsPart, numbers_of_part}
use Rattle.bitpack_roaring.specs.declared.parts.Part.{Part}

-- ---- lists that rise

rising_key : (key : ℕ) (ys : List ℕ) → IsRising 0 (2 ^ 32) ys → key < first_key ys → key < 65536 → IsRising ((key + 1) * 65536) (2 ^ 32) ys
rising_key key [] r up small = omega arith
rising_key key (y ∷ ys) (a, r) up small = (omega arith, r)

lows_on : (key from low top : ℕ) (ys : List ℕ) → IsRising from top ys → ((k : ℕ) → k < length ys → get_or ys k 0 / 65536 ≡ key) → key * 65536 + low ≤ from → low ≤ 65536
    → IsRising low 65536 (map (λ x. x % 65536) ys)
lows_on key from low top [] r shared h most = most
lows_on key from low top (y ∷ ys) (a, r) shared h most =
    let own = shared 0 (omega arith) in
    (omega arith, lows_on key (y + 1) (y % 65536 + 1) top ys r (λ k lt. shared (suc k) (omega arith)) (omega arith) (omega arith))

lows_rise : (key top : ℕ) (ys : List ℕ) → IsRising 0 top ys → ((k : ℕ) → k < length ys → get_or ys k 0 / 65536 ≡ key) → IsRising 0 65536 (map (λ x. x % 65536) ys)
lows_rise key top [] r shared = omega arith
lows_rise key top (y ∷ ys) (a, r) shared =
    let own = shared 0 (omega arith) in
    (omega arith, lows_on key (y + 1) (y % 65536 + 1) top ys r (λ k lt. shared (suc k) (omega arith)) (omega arith) (omega arith))

rising_taken : (n low high : ℕ) (xs : List ℕ) → IsRising low high xs → IsRising low high (take n xs)
rising_taken zero low high xs r = let room = rising_room low high xs r in omega arith
rising_taken (suc n) low high [] r = r
rising_taken (suc n) low high (x ∷ xs) (a, r) = (a, rising_taken n (x + 1) high xs r)

drop_front : (xs ys : List ℕ) → drop (length xs) (xs ++ ys) ≡ ys
drop_front [] ys = refl
drop_front (x ∷ xs) ys = drop_front xs ys

rising_tail : (high : ℕ) (xs ys : List ℕ) → IsRising 0 high (xs ++ ys) → IsRising 0 high ys
rising_tail high xs ys r = subst (IsRising 0 high) (drop_front xs ys) (rising_drop 0 high (length xs) (xs ++ ys) r)

pub take_front : (n : ℕ) (xs ys : List ℕ) → n ≡ length xs → take n (xs ++ ys) ≡ xs
take_front n xs ys e = take-append-le n xs ys (omega arith) ∙ take_all n xs (omega arith)

-- ---- the ids of a chunk, and those after it

of_shared : (key : ℕ) (ids : List ℕ) → ((k : ℕ) → k < length ids → get_or ids k 0 / 65536 ≡ key) → ids ≡ map (λ x. key * 65536 + x) (map (λ x. x % 65536) ids)
of_shared key [] h = refl
of_shared key (y ∷ ys) h =
    let first = h 0 (omega arith) in
    let e : y ≡ key * 65536 + y % 65536 = omega arith in
    ap (λ (n : ℕ). n ∷ ys) e ∙ ap (λ (l : List ℕ). (key * 65536 + y % 65536) ∷ l) (of_shared key ys (λ k lt. h (suc k) (omega arith)))

key_of : (key : ℕ) (xs rest : List ℕ) → 0 < length xs → IsRising 0 65536 xs → first_key (map (λ x. key * 65536 + x) xs ++ rest) ≡ key
key_of key [] rest h r = absurd (omega arith)
key_of key (x ∷ xs) rest h (a, r) = let top = rising_room (x + 1) 65536 xs r in omega arith

pub record IsSplit (set : Chunks) (position end key : ℕ) : Type 0 where
  pub split : ids_from set position ≡ map (λ x. key * 65536 + x) (lows_between set position end) ++ ids_from set end
  pub rising : IsRising 0 65536 (lows_between set position end)
  pub some : 0 < length (lows_between set position end)

chunk_split : (set : Chunks) (p : ℕ) → set.count ≢ 0 → p < set.count → IsSplit set p (p + 1) (key_at set.rest.now p)
chunk_split set p some lt =
    let count : ℕ = set.count in
    let rest : List ℕ = set.rest.now in
    let e : count - p ≡ suc (count - (p + 1)) = omega arith in
    let own = between_chunk set p (p + 1) some (λ same. omega arith) in
    let is = (set.sound some).bodies p lt in
    let entry = ((set.sound some).entries p lt).some in
    let counted = is.count_is in
    let long = ap length own in
    record {
      split = from_chunks set p some ∙ ap (λ (k : ℕ). ids_of_chunks (map (chunk_at count rest) (range_with_len p k))) e
          ∙ (λ i. map (λ x. key_at rest p * 65536 + x) (sym own i) ++ sym (from_chunks set (p + 1) some) i);
      rising = subst (IsRising 0 65536) (sym own) is.rising;
      some = omega arith;
    }

array_split : (set : Chunks) (p end key : ℕ) → set.count ≡ 0 → p < end → end ≤ positions set → IsRising 0 (2 ^ 32) (ids_from set p)
    → ((k : ℕ) → p ≤ k → k < end → get_or (quads_of set.rest.now) k 0 / 65536 ≡ key) → IsSplit set p end key
array_split set p end key none less within r shared =
    let xs : List ℕ = quads_of set.rest.now in
    let from : List ℕ = drop p xs in
    let n : ℕ = end - p in
    let ys : List ℕ = take n from in
    let size = quads_len set.rest.now in
    let all = positions_array set none in
    let left = length-drop p xs in
    let long : length ys ≡ n = length-take-le n from (omega arith) in
    let last : p + n ≡ end = omega arith in
    let own = between_array set p end none in
    let shared' : (k : ℕ) → k < length ys → get_or ys k 0 / 65536 ≡ key =
    λ k lt. ap (λ (x : ℕ). x / 65536) (get_or-take n from k 0 (omega arith) ∙ get_or-drop p xs k 0) ∙ shared (p + k) (omega arith) (omega arith) in
    let rises : IsRising 0 (2 ^ 32) ys = rising_taken n 0 (2 ^ 32) from (subst (IsRising 0 (2 ^ 32)) (from_array set p none) r) in
    record {
      split = from_array set p none ∙ sym (take-append-drop n from)
          ∙ (λ i. of_shared key ys shared' i ++ (drop-drop n p xs ∙ ap (λ (k : ℕ). drop k xs) last ∙ sym (from_array set end none)) i)
          ∙ ap (λ (l : List ℕ). map (λ x. key * 65536 + x) l ++ ids_from set end) (sym own);
      rising = subst (IsRising 0 65536) (sym own) (lows_rise key (2 ^ 32) ys rises shared');
      some = omega (arith, ap length own, length-map ys (λ x. x % 65536));
    }

-- the key of a chunk
chunk_key : (set : Chunks) (p : ℕ) → set.count ≢ 0 → p < set.count → first_key (ids_from set p) ≡ key_at set.rest.now p
chunk_key set p some lt =
    let is = chunk_split set p some lt in
    ap first_key is.split ∙ key_of (key_at set.rest.now p) (lows_between set p (p + 1)) (ids_from set (p + 1)) is.some is.rising

-- the chunk is between these positions
pub split_at : (set : Chunks) (p end key : ℕ) → p < end → p < positions set → end ≤ positions set → (set.count ≢ 0 → end ≤ p + 1) → IsRising 0 (2 ^ 32) (ids_from set p)
    → key ≡ first_key (ids_from set p) → (set.count ≡ 0 → (k : ℕ) → p ≤ k → k < end → get_or (quads_of set.rest.now) k 0 / 65536 ≡ key) → IsSplit set p end key
split_at set p end key less there within one r first shared = elim (cases_lt 0 set.count) [
  | inl some ↦ (
      let many : set.count ≢ 0 = λ e. omega arith in
      let all = positions_chunks set many in
      let lt : p < set.count = omega arith in
      let last : p + 1 ≡ end = omega (arith, one many) in
      let same : key_at set.rest.now p ≡ key = sym (first ∙ chunk_key set p many lt) in
      subst (IsSplit set p end) same (subst (λ (n : ℕ). IsSplit set p n (key_at set.rest.now p)) last (chunk_split set p many lt)))
  | inr none ↦ (let zero' : set.count ≡ 0 = omega arith in array_split set p end key zero' less within r (shared zero'))
]

pub parts_split : (set : Chunks) (p end key : ℕ) → IsSplit set p end key → IsRising 0 (2 ^ 32) (ids_from set p) → key < first_key (ids_from set end) → key < 65536
    → (IsRising 0 (2 ^ 32) (ids_from set end)) × (parts 65536 (ids_from set p) ≡ (key, lows_between set p end) ∷ parts 65536 (ids_from set end))
parts_split set p end key is r up small =
    let xs : List ℕ = lows_between set p end in
    let front : List ℕ = map (λ x. key * 65536 + x) xs in
    let ys : List ℕ = ids_from set end in
    let later : IsRising 0 (2 ^ 32) ys = rising_tail (2 ^ 32) front ys (subst (IsRising 0 (2 ^ 32)) is.split r) in
    let ps : List (ℕ × List ℕ) = (key, xs) ∷ parts 65536 ys in
    let least : key + 1 ≤ 65536 = omega arith in
    let are : AreParts 65536 (key + 1) 65536 (parts 65536 ys) = parts_are 65536 (key + 1) 65536 ((key + 1) * 65536) ys (omega arith) (omega arith) (rising_key key ys later up small) in
    let all : AreParts 65536 0 65536 ps = (omega arith, is.some, is.rising, are) in
    (later, ap (parts 65536) (is.split ∙ ap (λ (l : List ℕ). front ++ l) (sym (join_parts 65536 ys))) ∙ parts_join 65536 0 65536 ps all)

-- ---- its key

first_small : (ys : List ℕ) → 0 < length ys → IsRising 0 (2 ^ 32) ys → first_key ys < 65536
first_small [] h r = absurd (omega arith)
first_small (y ∷ ys) h (a, r) = let top = rising_room (y + 1) (2 ^ 32) ys r in omega arith

pub key_below : (set : Chunks) (p : ℕ) → p < positions set → IsRising 0 (2 ^ 32) (ids_from set p) → first_key (ids_from set p) < 65536
key_below set p there r = elim (cases_lt 0 set.count) [
  | inl some ↦ (
      let many : set.count ≢ 0 = λ e. omega arith in
      let all = positions_chunks set many in
      let own = chunk_key set p many (omega arith) in
      let small : key_at set.rest.now p < 65536 = two_small 1 p set.rest.now set.are_bytes in
      omega arith)
  | inr none ↦ (
      let zero' : set.count ≡ 0 = omega arith in
      let all = positions_array set zero' in
      let size = quads_len set.rest.now in
      let left = length-drop p (quads_of set.rest.now) in
      let same = ap length (from_array set p zero') in
      first_small (ids_from set p) (omega arith) r)
]

-- after the last position there is none
pub none_left : (set : Chunks) (p : ℕ) → positions set ≤ p → ids_from set p ≡ []
none_left set p past = elim (cases_lt 0 set.count) [
  | inl some ↦ (
      let many : set.count ≢ 0 = λ e. omega arith in
      let all = positions_chunks set many in
      let none : set.count - p ≡ 0 = omega arith in
      from_chunks set p many ∙ ap (λ (k : ℕ). ids_of_chunks (map (chunk_at set.count set.rest.now) (range_with_len p k))) none)
  | inr none ↦ (
      let zero' : set.count ≡ 0 = omega arith in
      let all = positions_array set zero' in
      let size = quads_len set.rest.now in
      from_array set p zero' ∙ drop_all p (quads_of set.rest.now) (omega arith))
]

-- ---- what comes next

pub first_at : (set : Chunks) (ids : List ℕ) → ids_from set 0 ≡ ids → IsRising 0 (2 ^ 32) ids → IsAt ids set 0 0
first_at set ids is r = record {
  within = omega arith;
  few = omega arith;
  rising = subst (IsRising 0 (2 ^ 32)) (sym is) r;
  ids_are = is;
}

pub part_is : (ids : List ℕ) (set : Chunks) (part : Part) → IsAt ids set part.begin part.from → part.begin < positions set → part.end ≤ positions set → part.begin < part.end
    → (set.count ≢ 0 → part.end ≤ part.begin + 1) → part.key < 65536 → part.key < first_key (ids_from set part.end) → IsSplit set part.begin part.end part.key
    → part.count ≡ length (lows_between set part.begin part.end) → IsPart ids set part
part_is ids set part at there within less one small up is count =
    let xs : List ℕ = lows_between set part.begin part.end in
    let front : List ℕ = map (λ x. part.key * 65536 + x) xs in
    let ys : List ℕ = ids_from set part.end in
    let (later, parts_are) = parts_split set part.begin part.end part.key is at.rising up small in
    let long = length-map xs (λ x. part.key * 65536 + x) in
    let own : drop part.from ids ≡ front ++ ys = sym at.ids_are ∙ is.split in
    let both = ap length own ∙ length-append front ys in
    let left = length-drop part.from ids in
    let from_few = at.few in
    let some = is.some in
    let room = rising_room 0 65536 xs is.rising in
    record {
      next = record {
        within = within;
        few = omega arith;
        rising = later;
        ids_are = sym (sym (drop-drop part.count part.from ids) ∙ ap (drop part.count) own ∙ ap (λ (n : ℕ). drop n (front ++ ys)) (count ∙ sym long) ∙ drop_front front ys);
      };
      later = less;
      one = one;
      some = omega arith;
      few = omega arith;
      key = small;
      rising = is.rising;
      count_is = count;
      parts_are = parts_are;
      ids_are = ap (take part.count) own ∙ take_front part.count front ys (count ∙ sym long);
    }

few_parts : (base low high : ℕ) (ps : List (ℕ × List ℕ)) → AreParts base low high ps → low + length ps ≤ high
few_parts base low high [] are = omega arith
few_parts base low high (p ∷ ps) (a, some, r, later) = let ih = few_parts base (p.0 + 1) high ps later in omega arith

pub most_parts : (ids : List ℕ) → IsRising 0 (2 ^ 32) ids → length (parts 65536 ids) ≤ 65536
most_parts ids r = let few = few_parts 65536 0 65536 (parts 65536 ids) (parts_are 65536 0 65536 0 ids (omega arith) (omega arith) r) in omega arith

pub ids_rise : (set : IdSet) → IsRising 0 (2 ^ 32) (ids set)
ids_rise set = (ids_are_read set.bytes.now set.are_bytes set.states.none).0.rising

-- a chunk has an id
pub goes_on : (set : Chunks) (p end key : ℕ) → p ≤ end → key ≡ first_key (ids_from set p) → key < first_key (ids_from set end) → p < end
goes_on set p end key h first up = elim (cases_lt p end) [
  | inl less ↦ less
  | inr more ↦ (
      let same : p ≡ end = omega arith in
      let e = ap (λ (n : ℕ). first_key (ids_from set n)) same in
      absurd (omega arith))
]

pub ids_few : (set : IdSet) → length (ids set) ≤ 2 ^ 28
ids_few set = (ids_are_read set.bytes.now set.are_bytes set.states.none).0.few

pub no_parts : (set : Chunks) (p : ℕ) → positions set ≤ p → parts 65536 (ids_from set p) ≡ []
unfolding parts
no_parts set p past = ap (parts 65536) (none_left set p past)

-- as many ids are copied as there is room for
pub copied : (all new old : List ℕ) (from count result : ℕ) → length old ≡ count → result ≡ min (length old) (length all - from) → take result new ≡ take result (drop from all)
    → drop result new ≡ drop result old → from + count ≤ length all → new ≡ take count (drop from all)
copied all new old from count result long is front rest room =
    let same : result ≡ count = omega arith in
    let a = length-drop result new in
    let b = length-drop result old in
    let e = ap length rest in
    sym (take_all result new (omega arith)) ∙ front ∙ ap (λ (n : ℕ). take n (drop from all)) same

-- their low 16 bits are the numbers of the chunk, and they share a key
pub own_lows : (ids own : List ℕ) (set : Chunks) (part : Part) → IsPart ids set part → own ≡ take part.count (drop part.from ids) → lows own ≡ numbers_of_part set part
own_lows ids own set part is same = ap lows (same ∙ is.ids_are) ∙ lows_raised part.key 0 _ is.rising

pub own_chunk : (ids own : List ℕ) (set : Chunks) (part : Part) → IsPart ids set part → own ≡ take part.count (drop part.from ids) → IsChunk own
own_chunk ids own set part is same = subst IsChunk (sym (same ∙ is.ids_are)) (raised_chunk part.key _ is.key is.rising)

pub bounds_few : (xs : List ℕ) → IsRising 0 65536 xs → length (boundaries xs) ≤ 65536
bounds_few xs r = let room = rising_room 0 65536 (boundaries xs) (bounds_rise xs r) in omega arith
