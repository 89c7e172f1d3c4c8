-- Slices are measured by ids that are as far apart as slices are long.
use Rattle.std.proofs.Common.{◌≡◌, ◌≢◌, ℕ, zero, suc, ◌+◌, ◌-◌, ◌*◌, ◌/◌, ◌%◌, ◌^◌, ◌<◌, ◌≤◌, Bool, true, false, not, eqb, ltb, List, [], ◌∷◌, map, length, get_or, take, drop, min, refl, sym, ap, ◌∙◌, arith, cond, inl, inr, subst, le_trans, length-drop, length-append}
use mir.Val.{bool_byte}
use Rattle.std.proofs.lemmas.Bool.{cases_eq, cases_lt, cond_above, cond_below}
use Rattle.std.proofs.lemmas.Bool.Decides.{eqb_tells}
use Rattle.std.proofs.lemmas.List.{drop_more, length-map, length-take-le}
use Rattle.std.proofs.Math.Nat.{div-mul-le_self}
use Rattle.std.proofs.lemmas.Nat.{le-div}
use Rattle.bitpack_sets.proofs.lemmas.written.FallLaws.{Counted, counted_other, counted_same}
use Rattle.bitpack_slices.proofs.ForCallers.{AreParts, rising_at, rising_room, slice_size}
use Rattle.bitpack_sets.proofs.lemmas.written.RunLaws.{chunk_few, chunk_rest, get_drop, slice_part, slices_are}
use Rattle.bitpack_slices.specs.Bodies.{IsRising, parts, slice}
use Rattle.bitpack_slices.specs.Slices.{slice_len}
use Rattle.bitpack_sets.specs.Written.{IsChunk, IsRun, capped, lows, slices}

-- ---- runs

pub rising_le : (low high i j : ℕ) (xs : List ℕ) → IsRising low high xs → i ≤ j → j < length xs → get_or xs i 0 ≤ get_or xs j 0
rising_le low high i j [] r le lt = absurd (omega arith)
rising_le low high zero zero (x ∷ xs) r le lt = omega arith
rising_le low high zero (suc j) (x ∷ xs) (a, r) le lt = let up = rising_at (x + 1) high j xs r (omega arith) in omega arith
rising_le low high (suc i) zero (x ∷ xs) r le lt = absurd (omega arith)
rising_le low high (suc i) (suc j) (x ∷ xs) (a, r) le lt = rising_le (x + 1) high i j xs r (omega arith) (omega arith)

div_le : (m n base : ℕ) → 0 < base → m ≤ n → m / base ≤ n / base
div_le m n base pos le = le-div (m / base) n base pos (le_trans (div-mul-le_self m base) le)

-- the last number known to be of the first run is at `low`, and none is from `high` on
pub record RunEnds (base : ℕ) (xs : List ℕ) (low high : ℕ) : Type 0 where
  pub below : low < high
  pub within : high ≤ length xs
  pub shared : get_or xs low 0 / base ≡ get_or xs 0 0 / base
  pub apart : high < length xs → get_or xs high 0 / base ≢ get_or xs 0 0 / base

pub run_found : (top base low high : ℕ) (xs : List ℕ) → 0 < base → IsRising 0 top xs → RunEnds base xs low high → high ≤ low + 1 → IsRun base xs high
run_found top base low high xs pos r ends near =
    let below = ends.below in
    let within = ends.within in
    record {
      some = omega arith;
      within = ends.within;
      shared = λ k lt.
          let a = div_le (get_or xs 0 0) (get_or xs k 0) base pos (rising_le 0 top 0 k xs r (omega arith) (omega arith)) in
          let b = div_le (get_or xs k 0) (get_or xs low 0) base pos (rising_le 0 top k low xs r (omega arith) (omega arith)) in
          let c = ends.shared in
          omega arith;
      apart = ends.apart;
    }

one_same : (base x : ℕ) (xs : List ℕ) (k : ℕ) → k < 1 → get_or (x ∷ xs) k 0 / base ≡ x / base
one_same base x xs zero lt = refl
one_same base x xs (suc k) lt = absurd (omega arith)

one_more : (base x : ℕ) (xs : List ℕ) (n : ℕ) → get_or xs 0 0 / base ≡ x / base → IsRun base xs n → (k : ℕ) → k < suc n → get_or (x ∷ xs) k 0 / base ≡ x / base
one_more base x xs n same run zero lt = refl
one_more base x xs n same run (suc k) lt = run.shared k (omega arith) ∙ same

-- some numbers begin with a run
pub first_run : (base : ℕ) (xs : List ℕ) → 0 < length xs → (count : ℕ) × IsRun base xs count
first_run base [] some = absurd (omega arith)
first_run base (x ∷ []) some = (1, record { some = omega arith; within = omega arith; shared = λ k lt. one_same base x [] k lt; apart = λ lt. absurd (omega arith) })
first_run base (x ∷ y ∷ ys) some = elim (cases_eq (y / base) (x / base)) [
  | inl same ↦
      let (n, run) = first_run base (y ∷ ys) (omega arith) in
      let within = run.within in (
        suc n,
        record {
          some = omega arith;
          within = omega arith;
          shared = λ k lt. one_more base x (y ∷ ys) n same run k lt;
          apart = λ lt e. run.apart (omega arith) (e ∙ sym same);
        },
      )
  | inr other ↦ (1, record { some = omega arith; within = omega arith; shared = λ k lt. one_same base x (y ∷ ys) k lt; apart = λ lt e. other e })
]

-- ---- ids that have not an id of their slice so far after them

abbrev pub last_test : ℕ → ℕ → List ℕ → ℕ
last_test most x xs = cond (ltb (length xs) most) 1 (cond (eqb (get_or xs (most - 1) 0 / 256) (x / 256)) 0 1)

abbrev pub lasts : ℕ → List ℕ → ℕ
lasts most [] = 0
lasts most (x ∷ xs) = last_test most x xs + lasts most xs

test_near : (most x : ℕ) (xs : List ℕ) → length xs < most → last_test most x xs ≡ 1
test_near most x xs few = sym (cond_below (length xs) most 1 _ few)

test_far : (most x : ℕ) (xs : List ℕ) → most ≤ length xs → last_test most x xs ≡ cond (eqb (get_or xs (most - 1) 0 / 256) (x / 256)) 0 1
test_far most x xs many = sym (cond_above (length xs) most 1 _ _ many refl)

pub differ : (m n : ℕ) → m ≢ n → ◌≡◌ {A = ℕ} (cond (eqb m n) 0 1) 1
differ m n h = elim (eqb_tells m n) [ inl (is, fact) ↦ absurd (h fact) | inr (is, fails) ↦ ap (λ b. cond b 0 1) is ]

pub agree : (m n : ℕ) → m ≡ n → ◌≡◌ {A = ℕ} (cond (eqb m n) 0 1) 0
agree m n h = elim (eqb_tells m n) [ inl (is, fact) ↦ ap (λ b. cond b 0 1) is | inr (is, fails) ↦ absurd (fails h) ]

pub lasts_few : (most : ℕ) (xs : List ℕ) → length xs ≤ most → lasts most xs ≡ length xs
lasts_few most [] few = refl
lasts_few most (x ∷ xs) few = let e = test_near most x xs (omega arith) in let ih = lasts_few most xs (omega arith) in omega arith

lasts_next : (most x : ℕ) (xs : List ℕ) → lasts most (x ∷ xs) ≡ last_test most x xs + lasts most xs
lasts_next most x xs = refl

-- an id more is tested
pub lasts_more : (most i : ℕ) (xs : List ℕ) → 0 < most → i + most < length xs
    → lasts most (drop i xs) ≡ cond (eqb (get_or xs (most + i) 0 / 256) (get_or xs i 0 / 256)) 0 1 + lasts most (drop (i + 1) xs)
lasts_more most i xs some lt =
    let later : List ℕ = drop (i + 1) xs in
    let size = length-drop (i + 1) xs in
    let position : i + 1 + (most - 1) ≡ most + i = omega arith in
    let there : get_or later (most - 1) 0 ≡ get_or xs (most + i) 0 = get_drop (i + 1) (most - 1) xs ∙ ap (λ k. get_or xs k 0) position in
    ap (lasts most) (drop_more xs i 0 (omega arith)) ∙ lasts_next most (get_or xs i 0) later
    ∙ ap (λ n. n + lasts most later) (test_far most (get_or xs i 0) later (omega arith) ∙ ap (λ n. cond (eqb (n / 256) (get_or xs i 0 / 256)) 0 1) there)

-- those of a run are its last ones
run_lasts : (most count x : ℕ) (xs : List ℕ) → 0 < most → count ≤ length xs → ((k : ℕ) → k < count → get_or xs k 0 / 256 ≡ x / 256)
    → ((k : ℕ) → count ≤ k → k < length xs → get_or xs k 0 / 256 ≢ x / 256) → lasts most (x ∷ xs) ≡ min most (suc count) + lasts most (drop count xs)
run_lasts most zero x xs some within shared apart = elim (cases_lt (length xs) most) [
  | inl near ↦ (let e = test_near most x xs near in omega arith)
  | inr far ↦
      let e = test_far most x xs far in
      let f = differ (get_or xs (most - 1) 0 / 256) (x / 256) (apart (most - 1) (omega arith) (omega arith)) in
      omega arith
]
run_lasts most (suc count) x [] some within shared apart = absurd (omega arith)
run_lasts most (suc count) x (y ∷ ys) some within shared apart =
    let xs : List ℕ = y ∷ ys in
    let same : y / 256 ≡ x / 256 = shared 0 (omega arith) in
    let ih : lasts most xs ≡ min most (suc count) + lasts most (drop count ys) =
    run_lasts most count y ys some (omega arith) (λ k lt. shared (suc k) (omega arith) ∙ sym same) (λ k le lt e. apart (suc k) (omega arith) (omega arith) (e ∙ same)) in
    elim (cases_lt (length xs) most) [
      | inl near ↦ (let e = test_near most x xs near in omega arith)
      | inr far ↦
          let e = test_far most x xs far in
          elim (cases_lt (most - 1) (suc count)) [
            | inl inside ↦ (let f = agree (get_or xs (most - 1) 0 / 256) (x / 256) (shared (most - 1) inside) in omega arith)
            | inr past ↦ (let f = differ (get_or xs (most - 1) 0 / 256) (x / 256) (apart (most - 1) past (omega arith)) in omega arith)
          ]
    ]

-- what is after a run has other quotients
run_apart : (count k : ℕ) (ids : List ℕ) → IsRising 0 (2 ^ 32) ids → IsRun 256 ids count → count ≤ k → k < length ids → get_or ids k 0 / 256 ≢ get_or ids 0 0 / 256
run_apart count k ids r run le lt e =
    let some = run.some in
    let up = rising_le 0 (2 ^ 32) 0 count ids r (omega arith) (omega arith) in
    let more = rising_le 0 (2 ^ 32) count k ids r le lt in
    run.apart (omega arith) (omega arith)

run_cap : (most count : ℕ) (ids : List ℕ) → 0 < most → IsRising 0 (2 ^ 32) ids → IsRun 256 ids count → lasts most ids ≡ min most count + lasts most (drop count ids)
run_cap most zero ids some r run = absurd (omega (arith, run.some))
run_cap most (suc count) [] some r run = absurd (omega (arith, run.within))
run_cap most (suc count) (x ∷ xs) some r run =
    let within = run.within in
    run_lasts most count x xs some (omega arith) (λ k lt. run.shared (suc k) (omega arith)) (λ k le lt. run_apart (suc count) (suc k) (x ∷ xs) r run (omega arith) (omega arith))

none_capped : (most : ℕ) → lasts most [] ≡ capped most (parts 256 (lows []))
unfolding parts capped
none_capped most = refl

cap_more : (most : ℕ) (part : ℕ × List ℕ) (ps : List (ℕ × List ℕ)) → capped most (part ∷ ps) ≡ min most (length part.1) + capped most ps
unfolding capped
cap_more most part ps = refl

lasts_of : (n most : ℕ) (ids : List ℕ) → length ids ≤ n → 0 < most → IsChunk ids → lasts most ids ≡ capped most (parts 256 (lows ids))
lasts_of n most [] few some chunk = none_capped most
lasts_of zero most (x ∷ xs) few some chunk = absurd (omega arith)
lasts_of (suc n) most (x ∷ xs) few some chunk =
    let ids : List ℕ = x ∷ xs in
    let (count, run) = first_run 256 ids (omega arith) in
    let one = run.some in
    let within = run.within in
    let rest : List ℕ = drop count ids in
    let size = length-drop count ids in
    let ih : lasts most rest ≡ capped most (parts 256 (lows rest)) = lasts_of n most rest (omega arith) some (chunk_rest count ids chunk) in
    let own : List ℕ = map (λ id. id % 256) (take count ids) in
    let long : length own ≡ count = length-map (take count ids) (λ id. id % 256) ∙ length-take-le count ids within in
    run_cap most count ids some chunk.rising run ∙ ap (λ m. min most count + m) ih
    ∙ sym (ap (capped most) (slice_part count ids chunk run) ∙ cap_more most (get_or ids 0 0 / 256 % 256, own) (parts 256 (lows rest)) ∙ ap (λ m. min most m + capped most (parts 256 (lows rest))) long)

-- as the loop counts them
step_of : (b : Bool) → bool_byte (not b) ≡ cond b 0 1
step_of true = refl
step_of false = refl

pub step_is : (m n : ℕ) → bool_byte (not (eqb m n)) ≡ cond (eqb m n) 0 1
step_is m n = step_of (eqb m n)

-- an id more is counted if it has another quotient than the one before
pub counted_next : (base count i : ℕ) (xs : List ℕ) → 1 ≤ i → i < length xs → Counted base count i xs
    → Counted base (count + bool_byte (not (eqb (get_or xs i 0 / base) (get_or xs (i - 1) 0 / base)))) (i + 1) xs
counted_next base count i xs some lt so_far = elim (cases_eq (get_or xs i 0 / base) (get_or xs (i - 1) 0 / base)) [
  | inl same ↦
      let e = step_is (get_or xs i 0 / base) (get_or xs (i - 1) 0 / base) ∙ agree _ _ same in
      let f : count ≡ count + bool_byte (not (eqb (get_or xs i 0 / base) (get_or xs (i - 1) 0 / base))) = omega arith in
      subst (λ n. Counted base n (i + 1) xs) f (counted_same base count i xs some lt same so_far)
  | inr other ↦
      let e = step_is (get_or xs i 0 / base) (get_or xs (i - 1) 0 / base) ∙ differ _ _ other in
      let f : count + 1 ≡ count + bool_byte (not (eqb (get_or xs i 0 / base) (get_or xs (i - 1) 0 / base))) = omega arith in
      subst (λ n. Counted base n (i + 1) xs) f (counted_other base count i xs some lt other so_far)
]

few_of : (b : Bool) → bool_byte (not b) ≤ 1
few_of true = omega arith
few_of false = omega arith

pub step_few : (m n : ℕ) → bool_byte (not (eqb m n)) ≤ 1
step_few m n = few_of (eqb m n)

pub lasts_are : (most : ℕ) (ids : List ℕ) → 0 < most → IsChunk ids → lasts most ids ≡ capped most (parts 256 (lows ids))
lasts_are most ids some chunk = lasts_of (length ids) most ids (omega arith) some chunk

-- ---- slices

one_slice_len : (l : ℕ) → 0 < l → l ≤ 256 → slice_len l + 32 * min 65536 l ≡ min 32 l + 32 * min 255 l
one_slice_len l some few = elim (cases_lt l 32) [
  | inl short ↦ (let e = cond_below l 32 l (cond (ltb l 256) 32 0) short in omega arith)
  | inr more ↦ elim (cases_lt l 256) [
    | inl middle ↦ (let e = cond_above l 32 l (cond (ltb l 256) 32 0) 32 more (cond_below l 256 32 0 middle) in omega arith)
    | inr many ↦ (let e = cond_above l 32 l (cond (ltb l 256) 32 0) 0 more (cond_above l 256 32 0 0 many refl) in omega arith)
  ]
]

pub record AreCapped (ps : List (ℕ × List ℕ)) : Type 0 where
  pub count : capped 1 ps ≡ length ps
  pub size : length (slices ps) + 32 * capped 65536 ps ≡ capped 32 ps + 32 * capped 255 ps
  pub few : capped 1 ps ≤ capped 65536 ps
  pub full : capped 255 ps ≤ capped 65536 ps
  pub small : capped 32 ps ≤ capped 65536 ps

none_of : AreCapped []
unfolding capped
none_of = record { count = refl; size = refl; few = omega arith; full = omega arith; small = omega arith }

caps : (low : ℕ) (ps : List (ℕ × List ℕ)) → AreParts 256 low 256 ps → AreCapped ps
caps low [] are = none_of
caps low (part ∷ ps) (a, some, r, later) =
    let ih = caps (part.0 + 1) ps later in
    let room = rising_room 0 256 part.1 r in
    let one = cap_more 1 part ps in
    let thirty = cap_more 32 part ps in
    let full' = cap_more 255 part ps in
    let all = cap_more 65536 part ps in
    let len = one_slice_len (length part.1) some (omega arith) in
    let size = length-append (slice part.1) (slices ps) in
    let own = slice_size part.1 in
    let b = ih.count in
    let d = ih.size in
    let e = ih.few in
    let f = ih.full in
    let g = ih.small in
    record { count = omega arith; size = omega arith; few = omega arith; full = omega arith; small = omega arith }

pub record AreMeasured (ids : List ℕ) (count short full : ℕ) : Type 0 where
  pub counted : count ≡ length (parts 256 (lows ids))
  pub sized : length (slices (parts 256 (lows ids))) + 32 * (length ids - full) ≡ short
  pub few : count ≤ length ids
  pub within : full ≤ length ids
  pub small : short ≤ length ids

pub are_measured : (ids : List ℕ) (count short full : ℕ) → IsChunk ids → count ≡ capped 1 (parts 256 (lows ids)) → short ≡ capped 32 (parts 256 (lows ids))
    → full ≡ capped 255 (parts 256 (lows ids)) → AreMeasured ids count short full
are_measured ids count short full chunk a b d =
    let are = caps 0 (parts 256 (lows ids)) (slices_are ids chunk) in
    let all : capped 65536 (parts 256 (lows ids)) ≡ length ids = sym (lasts_are 65536 ids (omega arith) chunk) ∙ lasts_few 65536 ids (chunk_few ids chunk) in
    let e = are.count in
    let f = are.size in
    let g = are.few in
    let h = are.full in
    let i = are.small in
    record { counted = omega arith; sized = omega arith; few = omega arith; within = omega arith; small = omega arith }
