-- The ids of a range, chunk by chunk.
use Rattle.std.proofs.Common.{◌≡◌, ◌≢◌, ℕ, zero, suc, ◌+◌, ◌-◌, ◌*◌, ◌/◌, ◌%◌, ◌^◌, ◌<◌, ◌≤◌, true, false, leb, List, [], ◌∷◌, length, get_or, take, drop, refl, sym, ap, ◌∙◌, arith, subst, inl, inr}
use Rattle.std.specs.List.{concat, range_with_len}
use Rattle.std.proofs.lemmas.Bool.{cases_lt, cond_above, cond_below, le-leb, lt-leb}
use Rattle.std.proofs.lemmas.Bool.Decides.{leb_tells}
use Rattle.std.proofs.lemmas.List.{append-nil, length-take-le}
use Rattle.std.proofs.lemmas.List.FromFn.{get_or-range_with_len, length-range_with_len}
use Rattle.bitpack_slices.proofs.ForCallers.{drop_range, few_small, range_bounds, range_rise, rising_lower, runs_len, tail_whole, take_range, true_both}
use Rattle.bitpack_slices.specs.Bodies.{IsRising, parts}
use Rattle.bitpack_slices.specs.Runs.{are_few, boundaries, bounds_after, runs}
use Rattle.bitpack_sets.proofs.lemmas.encodings.BodyLaws.{body_runs, few}
use Rattle.bitpack_sets.proofs.lemmas.encodings.EncodeLaws.{chunks_is, chunks_measured}
use Rattle.bitpack_sets.proofs.lemmas.written.BodyFilled.{few_lows}
use Rattle.bitpack_sets.proofs.lemmas.written.DirectoryFilled.{no_parts}
use Rattle.bitpack_sets.proofs.lemmas.written.MeasureLaws.{ChunksLeft, chunks_end, chunks_more}
use Rattle.bitpack_sets.proofs.lemmas.written.RunLaws.{run_part}
use Rattle.bitpack_sets.specs.Sets.{IsSet, body, encoding, in_chunks}
use Rattle.bitpack_sets.specs.Varints.{byte_count, number}
use Rattle.bitpack_sets.specs.Written.{IsChunk, IsMeasured, IsRun, bodies, lows}

-- ---- ids that follow each other

rising_higher : (low high high' : ℕ) (xs : List ℕ) → high ≤ high' → IsRising low high xs → IsRising low high' xs
rising_higher low high high' [] h r = omega arith
rising_higher low high high' (x ∷ xs) h (a, r) = (a, rising_higher (x + 1) high high' xs h r)

pub ids_rise : (first count : ℕ) → first + count ≤ 2 ^ 32 → IsRising 0 (2 ^ 32) (range_with_len first count)
ids_rise first count fits =
    rising_lower first 0 (2 ^ 32) (range_with_len first count) (omega arith)
    (rising_higher first (first + count) (2 ^ 32) (range_with_len first count) fits (range_rise first count))

pub ids_set : (first count : ℕ) → count ≤ 2 ^ 28 → first + count ≤ 2 ^ 32 → IsSet (range_with_len first count)
ids_set first count few fits = record { few = subst (λ (n : ℕ). n ≤ 2 ^ 28) (sym (length-range_with_len first count)) few; rising = ids_rise first count fits }

-- a room that is filled with them
pub room_filled : (first count : ℕ) (room out : List ℕ) → count ≤ length room → out ≡ range_with_len first (length (take count room)) → out ≡ range_with_len first count
room_filled first count room out fits is = is ∙ ap (range_with_len first) (length-take-le count room fits)

-- ---- those of the first chunk

-- an id of the chunk of the first one
own_chunk : (id k : ℕ) → id % 65536 + k < 65536 → (id + k) / 65536 ≡ id / 65536
own_chunk id k h = omega arith

next_chunk : (id k : ℕ) → id % 65536 + k ≡ 65536 → (id + k) / 65536 ≢ id / 65536
next_chunk id k h e = omega arith

at : (id n k : ℕ) → k < n → get_or (range_with_len id n) k 0 / 65536 ≡ (id + k) / 65536
at id n k lt = ap (λ (x : ℕ). x / 65536) (get_or-range_with_len id n k 0 lt)

pub at_first : (id n : ℕ) → 0 < n → get_or (range_with_len id n) 0 0 / 65536 ≡ id / 65536
at_first id n some = at id n 0 some ∙ own_chunk id 0 (omega arith)

pub run_is : (id left run : ℕ) → 0 < run → run ≤ left → id % 65536 + run ≤ 65536 → (run < left → id % 65536 + run ≡ 65536) → IsRun 65536 (range_with_len id left) run
run_is id left run some within own end =
    let long = length-range_with_len id left in record {
      some = some;
      within = omega arith;
      shared = λ k lt. at id left k (omega arith) ∙ own_chunk id k (omega arith) ∙ sym (at_first id left (omega arith));
      apart = λ lt e.
          let less : run < left = omega arith in
          next_chunk id run (end less) (sym (at id left run less) ∙ e ∙ at_first id left (omega arith));
    }

pub ids_chunk : (id count : ℕ) → id < 2 ^ 32 → 0 < count → id % 65536 + count ≤ 65536 → IsChunk (range_with_len id count)
ids_chunk id count word some own =
    let long = length-range_with_len id count in record {
      rising = ids_rise id count (omega arith);
      shared = λ k lt. at id count k (omega arith) ∙ own_chunk id k (omega arith) ∙ sym (at_first id count some);
    }

-- ---- their low numbers, and the boundaries of these

lows_from : (key low n : ℕ) → low + n ≤ 65536 → lows (range_with_len (65536 * key + low) n) ≡ range_with_len low n
lows_from key low zero h = refl
lows_from key low (suc n) h =
    let here : (65536 * key + low) % 65536 ≡ low = omega arith in
    let next : 65536 * key + low + 1 ≡ 65536 * key + (low + 1) = omega arith in
    ap (λ (x : ℕ). x ∷ lows (range_with_len (65536 * key + low + 1) n)) here
    ∙ ap (λ (l : List ℕ). low ∷ l) (ap (λ (x : ℕ). lows (range_with_len x n)) next ∙ lows_from key (low + 1) n (omega arith))

pub lows_are : (id n : ℕ) → id % 65536 + n ≤ 65536 → lows (range_with_len id n) ≡ range_with_len (id % 65536) n
lows_are id n own =
    let cut : id ≡ 65536 * (id / 65536) + id % 65536 = omega arith in
    ap (λ (x : ℕ). lows (range_with_len x n)) cut ∙ lows_from (id / 65536) (id % 65536) n own

no_more : (x : ℕ) → x < 65535 → bounds_after x [] ≡ (x + 1) ∷ []
unfolding bounds_after
no_more x h = sym (cond_below x 65535 ((x + 1) ∷ []) [] h)

at_end : (x : ℕ) → 65535 ≤ x → bounds_after x [] ≡ []
unfolding bounds_after
at_end x h = sym (cond_above x 65535 ((x + 1) ∷ []) [] [] h refl)

bounds_are : (id n : ℕ) → 0 < n → id % 65536 + n ≤ 65536 → boundaries (lows (range_with_len id n)) ≡ id % 65536 ∷ bounds_after (id % 65536 + n - 1) []
bounds_are id n some own =
    ap boundaries (lows_are id n own ∙ sym (append-nil (range_with_len (id % 65536) n))) ∙ range_bounds (id % 65536) n [] some

pub two_bounds : (id n : ℕ) → 0 < n → id % 65536 + n < 65536 → boundaries (lows (range_with_len id n)) ≡ id % 65536 ∷ (id % 65536 + n) ∷ []
two_bounds id n some h =
    let last : id % 65536 + n - 1 + 1 ≡ id % 65536 + n = omega arith in
    bounds_are id n some (omega arith) ∙ ap (λ (l : List ℕ). id % 65536 ∷ l) (no_more (id % 65536 + n - 1) (omega arith))
    ∙ ap (λ (x : ℕ). id % 65536 ∷ x ∷ []) last

pub one_bound : (id n : ℕ) → 0 < n → id % 65536 + n ≡ 65536 → boundaries (lows (range_with_len id n)) ≡ id % 65536 ∷ []
one_bound id n some h =
    bounds_are id n some (omega arith) ∙ ap (λ (l : List ℕ). id % 65536 ∷ l) (at_end (id % 65536 + n - 1) (omega arith))

-- ids with few boundaries
few_told : (id count bounds most : ℕ) → bounds ≡ length (boundaries (lows (range_with_len id count))) → ((n : ℕ) → are_few n count ≡ leb n most) → bounds ≤ most
    → few (lows (range_with_len id count)) ≡ true
few_told id count bounds most e is within =
    few_lows (range_with_len id count)
    ∙ ap (are_few (length (boundaries (lows (range_with_len id count))))) (length-range_with_len id count)
    ∙ ap (λ (n : ℕ). are_few n count) (sym e) ∙ is bounds ∙ le-leb bounds most within

pub run_body : (id count bounds most : ℕ) → bounds ≡ length (boundaries (lows (range_with_len id count))) → ((n : ℕ) → are_few n count ≡ leb n most) → bounds ≤ most
    → body (lows (range_with_len id count)) ≡ runs (boundaries (lows (range_with_len id count)))
run_body id count bounds most e is within = body_runs (lows (range_with_len id count)) (few_told id count bounds most e is within)

pub run_sized : (id count bounds most : ℕ) → bounds ≡ length (boundaries (lows (range_with_len id count))) → ((n : ℕ) → are_few n count ≡ leb n most) → bounds ≤ most
    → 2 + 2 * bounds ≡ length (body (lows (range_with_len id count)))
run_sized id count bounds most e is within =
    ap (λ (n : ℕ). 2 + 2 * n) e ∙ sym (runs_len (boundaries (lows (range_with_len id count)))) ∙ sym (ap length (run_body id count bounds most e is within))

-- the first boundary, or both
pub bounds_taken : (id count bounds : ℕ) → 0 < count → id % 65536 + count ≤ 65536 → bounds ≡ length (boundaries (lows (range_with_len id count)))
    → take bounds (id % 65536 ∷ (id % 65536 + count) ∷ []) ≡ boundaries (lows (range_with_len id count))
bounds_taken id count bounds some own is = elim (cases_lt (id % 65536 + count) 65536) [
  | inl less ↦ (
      let e = two_bounds id count some less in
      ap (λ (n : ℕ). take n (id % 65536 ∷ (id % 65536 + count) ∷ [])) (is ∙ ap length e) ∙ sym e)
  | inr more ↦ (
      let e = one_bound id count some (omega arith) in
      ap (λ (n : ℕ). take n (id % 65536 ∷ (id % 65536 + count) ∷ [])) (is ∙ ap length e) ∙ sym e)
]

pub run_small : (count bounds most : ℕ) → 1 ≤ bounds → ((n : ℕ) → are_few n count ≡ leb n most) → bounds ≤ most → 2 + 2 * bounds ≤ 2 * count
run_small count bounds most some is within = let (few', many) = few_small bounds count (is bounds ∙ le-leb bounds most within) in omega arith

-- ids are listed only if they are few
pub listed_few : (bounds most count : ℕ) → bounds ≤ 2 → ((n : ℕ) → are_few n count ≡ leb n most) → most < bounds → count ≤ 15
listed_few bounds most count small is more = elim (leb_tells (8 * bounds) count) [
  | inl (e, le) ↦
      let yes : are_few bounds count ≡ true = true_both (leb bounds 64) (leb (8 * bounds) count) (le-leb bounds 64 (omega arith)) e in
      let no : are_few bounds count ≡ false = is bounds ∙ lt-leb bounds most more in
      let both : true ≡ false = sym yes ∙ no in
      absurd cc
  | inr (e, less) ↦ omega arith
]

-- the room for ids that are listed
pub ids_listed : (id count bounds most : ℕ) (room out : List ℕ) → bounds ≤ 2 → ((n : ℕ) → are_few n count ≡ leb n most) → most < bounds → 15 ≤ length room
    → out ≡ range_with_len id (length (take count room)) → out ≡ range_with_len id count
ids_listed id count bounds most room out small is more long e = let few' = listed_few bounds most count small is more in room_filled id count room out (omega arith) e

-- ---- one chunk after the other

-- the ids behind a chunk
pub ids_next : (first count done run : ℕ) → run ≤ count - done
    → take (length (range_with_len (first + done) (count - done)) - run) (drop run (range_with_len (first + done) (count - done)))
    ≡ range_with_len (first + (done + run)) (count - (done + run))
ids_next first count done run within =
    let start : first + done + run ≡ first + (done + run) = omega arith in
    let size : count - done - run ≡ count - (done + run) = omega arith in
    tail_whole run (range_with_len (first + done) (count - done)) ∙ drop_range (first + done) (count - done) run within
    ∙ ap (λ (n : ℕ). range_with_len n (count - done - run)) start ∙ ap (range_with_len (first + (done + run))) size

pub own_body : (id left run : ℕ) → run ≤ left → body (lows (range_with_len id run)) ≡ body (lows (take run (range_with_len id left)))
own_body id left run within = ap (λ (l : List ℕ). body (lows l)) (sym (take_range id left run within))

-- `done` ids of a range are measured
pub record IdsLeft (first count done chunks bytes : ℕ) : Type 0 where
  pub within : done ≤ count
  pub measured : ChunksLeft (range_with_len first count) (range_with_len (first + done) (count - done)) bytes
  pub counted : chunks + length (parts (2 ^ 16) (range_with_len (first + done) (count - done))) ≡ length (parts (2 ^ 16) (range_with_len first count))
  pub key : done < count → chunks + first / 65536 ≡ (first + done) / 65536
  pub last : chunks + first / 65536 ≤ (first + done + 65535) / 65536

-- all of them are left
pub all_left : (first count : ℕ) → range_with_len first count ≡ range_with_len (first + 0) (count - 0)
all_left first count =
    let start : first ≡ first + 0 = omega arith in
    let all : count ≡ count - 0 = omega arith in
    ap (λ (n : ℕ). range_with_len n count) start ∙ ap (range_with_len (first + 0)) all

pub ids_start : (first count : ℕ) → first + count ≤ 2 ^ 32 → IdsLeft first count 0 0 0
ids_start first count fits =
    let ids : List ℕ = range_with_len first count in record {
      within = omega arith;
      measured = subst (λ (left : List ℕ). ChunksLeft ids left 0) (all_left first count) record { rising = ids_rise first count fits; sized = omega arith; small = omega arith };
      counted = (let same = ap (λ (left : List ℕ). length (parts 65536 left)) (sym (all_left first count)) in omega arith);
      key = λ some. omega arith;
      last = omega arith;
    }

key_more : (first count done chunks run : ℕ) → chunks + first / 65536 ≡ (first + done) / 65536 → done + run < count
    → (run < count - done → (first + done) % 65536 + run ≡ 65536) → chunks + 1 + first / 65536 ≡ (first + (done + run)) / 65536
key_more first count done chunks run key less end = let whole = end (omega arith) in omega arith

pub ids_more : (first count done chunks bytes run added : ℕ) → IdsLeft first count done chunks bytes → done < count → IsRun 65536 (range_with_len (first + done) (count - done)) run
    → run ≤ count - done → (run < count - done → (first + done) % 65536 + run ≡ 65536) → added ≡ length (body (lows (range_with_len (first + done) run)))
    → added ≤ 2 * run → IdsLeft first count (done + run) (chunks + 1) (bytes + added)
ids_more first count done chunks bytes run added before some is within end long small =
    let ids : List ℕ = range_with_len first count in
    let left : List ℕ = range_with_len (first + done) (count - done) in
    let next : take (length left - run) (drop run left) ≡ range_with_len (first + (done + run)) (count - (done + run)) = ids_next first count done run within in
    let more = ap length (run_part 65536 run left is) in
    let rest : length (parts 65536 (drop run left)) ≡ length (parts 65536 (range_with_len (first + (done + run)) (count - (done + run)))) =
    ap (λ (l : List ℕ). length (parts 65536 l)) (sym (tail_whole run left) ∙ next) in
    let counted = before.counted in
    let key = before.key some in
    let some' = is.some in
    record {
      within = omega arith;
      measured = subst (λ (l : List ℕ). ChunksLeft ids l (bytes + added)) next
          (chunks_more ids left bytes run added before.measured is (long ∙ ap length (own_body (first + done) (count - done) run within)) small);
      counted = omega arith;
      key = λ less. key_more first count done chunks run key less end;
      last = omega arith;
    }

pub no_ids : (first count done : ℕ) → count ≤ done → length (range_with_len (first + done) (count - done)) ≡ 0
no_ids first count done all = length-range_with_len (first + done) (count - done) ∙ (omega arith)

-- all chunks are measured
pub ids_counted : (first count done chunks bytes : ℕ) → IdsLeft first count done chunks bytes → count ≤ done → chunks ≡ length (parts (2 ^ 16) (range_with_len first count))
ids_counted first count done chunks bytes left all =
    let none = ap length (no_parts 65536 (range_with_len (first + done) (count - done)) (no_ids first count done all)) in
    let counted = left.counted in
    omega arith

pub ids_sized : (first count done chunks bytes : ℕ) → IdsLeft first count done chunks bytes → count ≤ done → bytes ≡ length (concat (bodies (range_with_len first count)))
ids_sized first count done chunks bytes left all = chunks_end _ _ bytes left.measured (no_ids first count done all)

pub ids_small : (first count done chunks bytes : ℕ) → IdsLeft first count done chunks bytes → bytes ≤ 2 * count
ids_small first count done chunks bytes left = let small = left.measured.small in let long = length-range_with_len first count in omega arith

-- a range of at least 128 ids has at least 4 for each chunk
pub ids_dense : (first count done chunks bytes : ℕ) → IdsLeft first count done chunks bytes → count ≤ done → 127 < count → 4 * chunks ≤ count
ids_dense first count done chunks bytes left all many = let last = left.last in let within = left.within in omega arith

-- the set is measured by its chunks
pub range_measured : (first count len chunks size : ℕ) → 127 < count → chunks ≡ length (parts (2 ^ 16) (range_with_len first count)) → size ≡ length (concat (bodies (range_with_len first count)))
    → 4 * chunks ≤ count → size ≤ 2 * count
    → len ≡ 2 + length (number count) + length (number chunks) + (2 + byte_count size + byte_count count) * chunks + size → IsMeasured (range_with_len first count) len chunks size
range_measured first count len chunks size many a b dense small e =
    let long = length-range_with_len first count in
    chunks_measured (range_with_len first count) len chunks size (omega arith) a b (omega arith) (omega arith) (omega arith)
    (e ∙ ap (λ (n : ℕ). 2 + length (number n) + length (number chunks) + (2 + byte_count size + byte_count n) * chunks + size) (sym long))

-- what was measured of a range of at least 128 ids
module _ (first count len chunks size : ℕ) (many : 127 < count) where
  many_ids : 128 ≤ length (range_with_len first count)
  many_ids = let long = length-range_with_len first count in omega arith

  pub range_told : IsMeasured (range_with_len first count) len chunks size → chunks ≡ length (parts (2 ^ 16) (range_with_len first count))
  range_told measured = measured.chunks_is many_ids

  module _ (dense : 4 * chunks ≤ count) (measured : IsMeasured (range_with_len first count) len chunks size) where
    few_chunks : 4 * chunks ≤ length (range_with_len first count)
    few_chunks = let long = length-range_with_len first count in omega arith

    pub range_sized : size ≡ length (concat (bodies (range_with_len first count)))
    range_sized = measured.bytes_is many_ids few_chunks

    pub range_chunks : encoding (range_with_len first count) ≡ in_chunks (range_with_len first count)
    range_chunks = let more = many_ids in chunks_is (range_with_len first count) chunks (omega arith) (range_told measured) few_chunks
