-- Ids of one chunk or slice one after the other.
use Rattle.std.proofs.Common.{◌≡◌, ◌≢◌, ℕ, zero, suc, ◌+◌, ◌-◌, ◌*◌, ◌/◌, ◌%◌, ◌^◌, ◌<◌, ◌≤◌, Bool, true, false, eqb, List, [], ◌∷◌, ◌++◌, map, length, get_or, take, drop, refl, sym, ap, ◌∙◌, arith, cond, inl, inr, subst, lit<, eqb-true, length-append}
use Rattle.std.proofs.lemmas.Bool.Decides.{eqb_tells}
use Rattle.std.specs.List.{concat}
use Rattle.std.proofs.lemmas.List.{get_or-map, length-map, length-take-le, take_all}
use Rattle.std.proofs.lemmas.Nat.{field_of}
use Rattle.bitpack_slices.proofs.ForCallers.{AreParts, get_take, rising_drop, rising_room, slice_size}
use Rattle.bitpack_slices.proofs.ForCallers.{parts_are}
use Rattle.bitpack_slices.specs.Bodies.{IsRising, blocks, blocks_of, parts, slice, with_number}
use Rattle.bitpack_sets.specs.Sets.{body}
use Rattle.bitpack_slices.specs.Slices.{slice_len}
use Rattle.bitpack_sets.specs.Written.{IsChunk, IsRun, bodies, counts, highs, lows, slices}

-- ---- the parts of numbers begin with that of their first run

put_same : (b : Bool) (base x : ℕ) (part : ℕ × List ℕ) (ps : List (ℕ × List ℕ)) → (part.0 ≡ x / base) → b ≡ true
    → cond b ((part.0, x % base ∷ part.1) ∷ ps) ((x / base, x % base ∷ []) ∷ part ∷ ps) ≡ (x / base, x % base ∷ part.1) ∷ ps
put_same true base x part ps e h = ap (λ (n : ℕ). (n, x % base ∷ part.1) ∷ ps) e
put_same false base x part ps e h = cc

put_apart : (b : Bool) (base x : ℕ) (part : ℕ × List ℕ) (ps : List (ℕ × List ℕ)) → b ≡ false
    → cond b ((part.0, x % base ∷ part.1) ∷ ps) ((x / base, x % base ∷ []) ∷ part ∷ ps) ≡ (x / base, x % base ∷ []) ∷ part ∷ ps
put_apart true base x part ps h = cc
put_apart false base x part ps h = refl

is_same : (m n : ℕ) → m ≡ n → eqb m n ≡ true
is_same m n e = elim (eqb_tells m n) [ inl (is, fact) ↦ is | inr (is, fails) ↦ absurd (fails e) ]

is_apart : (m n : ℕ) → m ≢ n → eqb m n ≡ false
is_apart m n e = elim (eqb_tells m n) [ inl (is, fact) ↦ absurd (e fact) | inr (is, fails) ↦ is ]

joins : (base x : ℕ) (part : ℕ × List ℕ) (ps : List (ℕ × List ℕ)) → part.0 ≡ x / base → with_number base x (part ∷ ps) ≡ (x / base, x % base ∷ part.1) ∷ ps
unfolding with_number
joins base x part ps e = put_same (eqb part.0 (x / base)) base x part ps e (is_same part.0 (x / base) e)

begins : (base x : ℕ) (part : ℕ × List ℕ) (ps : List (ℕ × List ℕ)) → part.0 ≢ x / base → with_number base x (part ∷ ps) ≡ (x / base, x % base ∷ []) ∷ part ∷ ps
unfolding with_number
begins base x part ps e = put_apart (eqb part.0 (x / base)) base x part ps (is_apart part.0 (x / base) e)

-- the first part is that of the first number
put_first : (b : Bool) (base x : ℕ) (part : ℕ × List ℕ) (ps : List (ℕ × List ℕ)) → (b ≡ true → part.0 ≡ x / base)
    → (ls : List ℕ) × (qs : List (ℕ × List ℕ)) × (cond b ((part.0, x % base ∷ part.1) ∷ ps) ((x / base, x % base ∷ []) ∷ part ∷ ps) ≡ (x / base, ls) ∷ qs)
put_first true base x part ps e = (x % base ∷ part.1, ps, ap (λ (n : ℕ). (n, x % base ∷ part.1) ∷ ps) (e refl))
put_first false base x part ps e = (x % base ∷ [], part ∷ ps, refl)

first_put : (base x : ℕ) (ps : List (ℕ × List ℕ)) → (ls : List ℕ) × (qs : List (ℕ × List ℕ)) × (with_number base x ps ≡ (x / base, ls) ∷ qs)
unfolding with_number
first_put base x [] = (x % base ∷ [], [], refl)
first_put base x (part ∷ ps) = put_first (eqb part.0 (x / base)) base x part ps (λ e. eqb-true part.0 (x / base) e)

first_part : (base x : ℕ) (xs : List ℕ) → (ls : List ℕ) × (qs : List (ℕ × List ℕ)) × (parts base (x ∷ xs) ≡ (x / base, ls) ∷ qs)
unfolding parts
first_part base x xs = first_put base x (parts base xs)

pub parts_some : (base : ℕ) (xs : List ℕ) → 0 < length xs → 0 < length (parts base xs)
parts_some base [] some = absurd (omega arith)
parts_some base (x ∷ xs) some = let (ls, qs, e) = first_part base x xs in let f = ap length e in omega arith

ends_run : (base x y : ℕ) (ys : List ℕ) → y / base ≢ x / base → parts base (x ∷ y ∷ ys) ≡ (x / base, x % base ∷ []) ∷ parts base (y ∷ ys)
unfolding parts
ends_run base x y ys apart =
    let (ls, qs, e) = first_part base y ys in
    ap (with_number base x) e ∙ begins base x (y / base, ls) qs apart ∙ ap (λ (ps : List (ℕ × List ℕ)). (x / base, x % base ∷ []) ∷ ps) (sym e)

joins_run : (base x : ℕ) (ys ls : List ℕ) (h : ℕ) (ps : List (ℕ × List ℕ)) → parts base ys ≡ (h, ls) ∷ ps → h ≡ x / base → parts base (x ∷ ys) ≡ (x / base, x % base ∷ ls) ∷ ps
unfolding parts
joins_run base x ys ls h ps e same = ap (with_number base x) e ∙ joins base x (h, ls) ps same

one_run : (base x : ℕ) → parts base (x ∷ []) ≡ (x / base, x % base ∷ []) ∷ parts base []
unfolding parts with_number
one_run base x = refl

run_from : (base count x : ℕ) (xs : List ℕ) → count ≤ length xs → ((k : ℕ) → k < count → get_or xs k 0 / base ≡ x / base)
    → (count < length xs → get_or xs count 0 / base ≢ x / base)
    → parts base (x ∷ xs) ≡ (x / base, x % base ∷ map (λ y. y % base) (take count xs)) ∷ parts base (drop count xs)
run_from base zero x [] within shared apart = one_run base x
run_from base zero x (y ∷ xs) within shared apart = ends_run base x y xs (apart (omega arith))
run_from base (suc count) x [] within shared apart = absurd (omega arith)
run_from base (suc count) x (y ∷ xs) within shared apart =
    let same : y / base ≡ x / base = shared 0 (omega arith) in
    joins_run base x (y ∷ xs) (y % base ∷ map (λ y. y % base) (take count xs)) (y / base) (parts base (drop count xs))
    (run_from base count y xs (omega arith) (λ k lt. shared (suc k) (omega arith) ∙ sym same) (λ lt e. apart (omega arith) (e ∙ same))) same

pub run_part : (base count : ℕ) (xs : List ℕ) → IsRun base xs count → parts base xs ≡ (get_or xs 0 0 / base, map (λ y. y % base) (take count xs)) ∷ parts base (drop count xs)
run_part base zero xs run = absurd (omega (arith, run.some))
run_part base (suc count) [] run = absurd (omega (arith, run.within))
run_part base (suc count) (x ∷ xs) run =
    let within = run.within in
    run_from base count x xs (omega arith) (λ k lt. run.shared (suc k) (omega arith)) (λ lt e. run.apart (omega arith) e)

-- ---- chunks, and the slices of chunks

pub get_drop : (n i : ℕ) (xs : List ℕ) → get_or (drop n xs) i 0 ≡ get_or xs (n + i) 0
get_drop zero i xs = let e : zero + i ≡ i = omega arith in sym (ap (λ k. get_or xs k 0) e)
get_drop (suc n) i [] = refl
get_drop (suc n) i (x ∷ xs) = let e : suc n + i ≡ suc (n + i) = omega arith in get_drop n i xs ∙ sym (ap (λ k. get_or (x ∷ xs) k 0) e)

take_few : (n : ℕ) (xs : List ℕ) → length (take n xs) ≤ n
take_few zero xs = omega arith
take_few (suc n) [] = omega arith
take_few (suc n) (x ∷ xs) = let h = take_few n xs in omega arith

within_drop : (n i : ℕ) (xs : List ℕ) → i < length (drop n xs) → n + i < length xs
within_drop zero i xs h = omega arith
within_drop (suc n) i [] h = absurd (omega arith)
within_drop (suc n) i (x ∷ xs) h = let ih = within_drop n i xs h in omega arith

pub rising_front : (low high n : ℕ) (xs : List ℕ) → IsRising low high xs → IsRising low high (take n xs)
rising_front low high zero xs r = let room = rising_room low high xs r in omega arith
rising_front low high (suc n) [] r = r
rising_front low high (suc n) (x ∷ xs) (a, r) = (a, rising_front (x + 1) high n xs r)

-- a run of ids is a chunk
pub run_chunk : (count : ℕ) (ids : List ℕ) → IsRising 0 (2 ^ 32) ids → IsRun 65536 ids count → IsChunk (take count ids)
run_chunk count ids r run = record {
  rising = rising_front 0 (2 ^ 32) count ids r;
  shared = λ k lt.
      let few = take_few count ids in
      let first : 0 < length (take count ids) = omega arith in
      ap (λ x. x / 65536) (get_take count k ids lt) ∙ run.shared k (omega arith) ∙ sym (ap (λ x. x / 65536) (get_take count 0 ids first));
}

-- and so is what is left of a chunk
pub chunk_rest : (n : ℕ) (ids : List ℕ) → IsChunk ids → IsChunk (drop n ids)
chunk_rest n ids chunk = record {
  rising = rising_drop 0 (2 ^ 32) n ids chunk.rising;
  shared = λ k lt.
      let one = within_drop n k ids lt in
      let two = within_drop n 0 ids (omega arith) in
      ap (λ x. x / 65536) (get_drop n k ids) ∙ chunk.shared (n + k) one ∙ sym (chunk.shared (n + 0) two) ∙ sym (ap (λ x. x / 65536) (get_drop n 0 ids));
}

-- the low numbers of a chunk increase
pub lows_rise : (ids : List ℕ) → IsChunk ids → IsRising 0 65536 (lows ids)
lows_rise [] chunk = omega arith
lows_rise (x ∷ xs) chunk =
    let ids : List ℕ = x ∷ xs in
    let run : IsRun 65536 ids (length ids) = record { some = omega arith; within = omega arith; shared = chunk.shared; apart = λ lt. absurd (omega arith) } in
    let zero' : 0 * 65536 ≤ 0 = omega arith in
    let are : AreParts 65536 0 65536 (parts 65536 ids) = parts_are 65536 0 65536 0 ids (lit< tt) zero' chunk.rising in
    let (low, some, rises, later) = subst (AreParts 65536 0 65536) (run_part 65536 (length ids) ids run) are in
    subst (λ (l : List ℕ). IsRising 0 65536 (lows l)) (take_all (length ids) ids (omega arith)) rises

high_split : (x : ℕ) → x / 256 ≡ x / 65536 * 256 + x % 65536 / 256
high_split x = omega arith

low_split : (x : ℕ) → x % 65536 % 256 ≡ x % 256
low_split x = omega arith

low_get : (i : ℕ) (ids : List ℕ) → i < length ids → get_or (lows ids) i 0 ≡ get_or ids i 0 % 65536
low_get i ids h = get_or-map (λ id. id % 65536) ids i 0 0 h

-- a slice of a chunk is one of its low numbers
low_run : (count : ℕ) (ids : List ℕ) → IsChunk ids → IsRun 256 ids count → IsRun 256 (lows ids) count
low_run count ids chunk run =
    let size : length (lows ids) ≡ length ids = length-map ids (λ id. id % 65536) in
    let within = run.within in
    let some = run.some in
    let first : get_or (lows ids) 0 0 ≡ get_or ids 0 0 % 65536 = low_get 0 ids (omega arith) in
    let split = high_split (get_or ids 0 0) in
    record {
      some = some;
      within = omega arith;
      shared = λ k lt.
          let own : get_or (lows ids) k 0 ≡ get_or ids k 0 % 65536 = low_get k ids (omega arith) in
          let key = chunk.shared k (omega arith) in
          let same = run.shared k lt in
          let halves = high_split (get_or ids k 0) in
          let e : get_or ids k 0 % 65536 / 256 ≡ get_or ids 0 0 % 65536 / 256 = omega arith in
          ap (λ x. x / 256) own ∙ e ∙ sym (ap (λ x. x / 256) first);
      apart = λ lt e.
          let own : get_or (lows ids) count 0 ≡ get_or ids count 0 % 65536 = low_get count ids (omega arith) in
          let key = chunk.shared count (omega arith) in
          let halves = high_split (get_or ids count 0) in
          let f : get_or ids count 0 % 65536 / 256 ≡ get_or ids 0 0 % 65536 / 256 = sym (ap (λ x. x / 256) own) ∙ e ∙ ap (λ x. x / 256) first in
          run.apart (omega arith) (omega arith);
    }

low_bytes : (n : ℕ) (ids : List ℕ) → map (λ y. y % 256) (take n (lows ids)) ≡ map (λ y. y % 256) (take n ids)
low_bytes zero ids = refl
low_bytes (suc n) [] = refl
low_bytes (suc n) (x ∷ ids) = ap (λ m. m ∷ map (λ y. y % 256) (take n (lows ids))) (low_split x) ∙ ap (λ (l : List ℕ). x % 256 ∷ l) (low_bytes n ids)

lows_rest : (n : ℕ) (ids : List ℕ) → drop n (lows ids) ≡ lows (drop n ids)
lows_rest zero ids = refl
lows_rest (suc n) [] = refl
lows_rest (suc n) (x ∷ ids) = lows_rest n ids

-- the parts of a chunk begin with that of its first slice
pub slice_part : (count : ℕ) (ids : List ℕ) → IsChunk ids → IsRun 256 ids count
    → parts 256 (lows ids) ≡ (get_or ids 0 0 / 256 % 256, map (λ id. id % 256) (take count ids)) ∷ parts 256 (lows (drop count ids))
slice_part count ids chunk run =
    let some = run.some in
    let within = run.within in
    let first : get_or (lows ids) 0 0 ≡ get_or ids 0 0 % 65536 = low_get 0 ids (omega arith) in
    let high : get_or (lows ids) 0 0 / 256 ≡ get_or ids 0 0 / 256 % 256 = ap (λ x. x / 256) first ∙ field_of (get_or ids 0 0) 8 8 in
    run_part 256 count (lows ids) (low_run count ids chunk run)
    ∙ ap (λ (n : ℕ). (n, map (λ y. y % 256) (take count (lows ids))) ∷ parts 256 (drop count (lows ids))) high
    ∙ ap (λ (l : List ℕ). (get_or ids 0 0 / 256 % 256, l) ∷ parts 256 (drop count (lows ids))) (low_bytes count ids)
    ∙ ap (λ (l : List ℕ). (get_or ids 0 0 / 256 % 256, map (λ y. y % 256) (take count ids)) ∷ parts 256 l) (lows_rest count ids)

pub slices_are : (ids : List ℕ) → IsChunk ids → AreParts 256 0 256 (parts 256 (lows ids))
slices_are ids chunk = let zero' : 0 * 256 ≤ 0 = omega arith in parts_are 256 0 256 0 (lows ids) (lit< tt) zero' (lows_rise ids chunk)

-- the low bytes of a slice increase
pub slice_rises : (count : ℕ) (ids : List ℕ) → IsChunk ids → IsRun 256 ids count → IsRising 0 256 (map (λ id. id % 256) (take count ids))
slice_rises count ids chunk run =
    let (low, some, rises, later) = subst (AreParts 256 0 256) (slice_part count ids chunk run) (slices_are ids chunk) in
    rises

pub slice_few : (count : ℕ) (ids : List ℕ) → IsChunk ids → IsRun 256 ids count → count ≤ 256
slice_few count ids chunk run =
    let rises = slice_rises count ids chunk run in
    let room = rising_room 0 256 (map (λ id. id % 256) (take count ids)) rises in
    let size = length-map (take count ids) (λ id. id % 256) in
    let long : length (take count ids) ≡ count = length-take-le count ids run.within in
    omega arith

-- ---- what is measured

pub chunk_few : (ids : List ℕ) → IsChunk ids → length ids ≤ 65536
chunk_few ids chunk =
    let room = rising_room 0 65536 (lows ids) (lows_rise ids chunk) in
    let size = length-map ids (λ id. id % 65536) in
    omega arith

run_bytes : (count : ℕ) (ids : List ℕ) → count ≤ length ids → length (map (λ id. id % 256) (take count ids)) ≡ count
run_bytes count ids h = length-map (take count ids) (λ id. id % 256) ∙ length-take-le count ids h

pub slice_bytes : (count : ℕ) (ids : List ℕ) → IsRun 256 ids count → length (slice (map (λ id. id % 256) (take count ids))) ≡ slice_len count
slice_bytes count ids run = slice_size (map (λ id. id % 256) (take count ids)) ∙ ap slice_len (run_bytes count ids run.within)

pub blocks_len : (numbers : List ℕ) → length (blocks numbers) ≡ 1 + slice_len (length (parts 256 numbers)) + length (parts 256 numbers) + length (slices (parts 256 numbers))
unfolding blocks_of
blocks_len numbers =
    let ps : List (ℕ × List ℕ) = parts 256 numbers in
    let one = length-append (slice (highs ps) ++ counts ps) (slices ps) in
    let two = length-append (slice (highs ps)) (counts ps) in
    let first = slice_size (highs ps) ∙ ap slice_len (length-map ps (λ part. part.0)) in
    let second : length (counts ps) ≡ length ps = length-map ps (λ part. length part.1 - 1) in
    omega arith
