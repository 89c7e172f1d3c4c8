-- The chunks of a set as they are read, one after the other.
use Rattle.std.proofs.Common.{◌≡◌, ℕ, zero, suc, ◌+◌, ◌-◌, ◌*◌, ◌/◌, ◌<◌, ◌≤◌, Bool, true, false, get_or, ◌%◌, List, ◌++◌, map, take, drop, length, refl, sym, ap, ◌∙◌, arith, subst, eq-eqb, append_assoc, inl, inr}
use Rattle.std.specs.List.{range_with_len}
use Rattle.std.proofs.lemmas.Bool.{cases_lt, ne_eqb, true≢false}
use Rattle.std.proofs.lemmas.List.{append-nil}
use Rattle.std.proofs.lemmas.List.FromFn.{get_or-map-range_with_len, take-map-range_with_len}
use Rattle.bitpack_sets.proofs.lemmas.encodings.BodyLaws.{body_blocks, body_numbers, body_runs, by_head, by_size, cases_few, numbers_len}
use Rattle.bitpack_sets.proofs.lemmas.faults.EntryLaws.{ends_grow, grown_to, sums_grow}
use Rattle.bitpack_sets.proofs.lemmas.faults.ChunkLaws.{are_parts, counts_in, keys_encoding}
use Rattle.bitpack_slices.proofs.ForCallers.{EachByte, blocks_begin, bounds_rise, counts, runs_begun, runs_read, keys, keys_rise, none, rank_join, rank_join_not, has_not, rank_le, total}
use Rattle.bitpack_sets.proofs.lemmas.reads.HalfLaws.{keys_len}
use Rattle.bitpack_sets.proofs.lemmas.reads.JoinReads.{has_join, has_join_not}
use Rattle.bitpack_sets.proofs.lemmas.encodings.ShortLaws.{Grows, before_next, step_of, steps_total}
use Rattle.bitpack_slices.proofs.ForCallers.{blocks_are_blocks}
use Rattle.bitpack_slices.proofs.ForCallers.{numbers_back}
use Rattle.bitpack_sets.specs.Directory.{before, bodies_start, body_at, body_numbers_of, chunk_at, chunk_ids, count_at, end_at, ids_of_chunks, key_at, size_at, sum_at}
use Rattle.bitpack_slices.specs.Reads.{has, rank}
use Rattle.bitpack_slices.specs.Bodies.{IsRising, blocks, numbers}
use Rattle.bitpack_slices.specs.Runs.{begins_runs, boundaries, runs, runs_from}
use Rattle.bitpack_slices.specs.Slices.{IsBlocks, block_numbers, pairs_of}
use Rattle.bitpack_sets.specs.Sound.{IsBody, IsRest}

-- ---- a body

-- a body as the code tells it from others
pub record HasBlocks (count : ℕ) (bytes body : List ℕ) : Type 0 where
  pub are : IsBlocks (length (block_numbers body)) body
  pub size : length (block_numbers body) ≡ count
  pub read : block_numbers body ≡ body_numbers_of count bytes

pub record HasRuns (count : ℕ) (bytes body : List ℕ) : Type 0 where
  pub rising : IsRising 0 65536 (pairs_of (drop 2 body))
  pub size : length (runs_from 0 (drop 2 body)) ≡ count
  pub read : runs_from 0 (drop 2 body) ≡ body_numbers_of count bytes

-- a body of another size than two bytes a number that does not begin as runs do is blocks
pub blocks_read : (count : ℕ) (bytes : List ℕ) → 0 < count → IsBody count bytes (body_numbers_of count bytes) → (length bytes ≡ 2 * count → ⊥) → begins_runs bytes ≡ false
    → HasBlocks count bytes bytes
blocks_read count bytes some is ne plain =
    let xs : List ℕ = body_numbers_of count bytes in
    let read : xs ≡ block_numbers bytes = ap (λ (b : Bool). by_size b bytes) (ne_eqb (length bytes) (2 * count) ne) ∙ ap (λ (b : Bool). by_head b bytes) plain in
    let size : length xs ≡ count = is.count_is in
    let encoding : blocks xs ≡ bytes = elim (cases_few xs) [
      | inl fits ↦ absurd (true≢false (sym (runs_begun (boundaries xs)) ∙ ap begins_runs (sym (body_runs xs fits) ∙ is.encoding) ∙ plain))
      | inr other ↦ elim (cases_lt (length (blocks xs)) (2 * length xs)) [
        | inl less ↦ sym (body_blocks xs other less) ∙ is.encoding
        | inr more ↦ absurd (ne (sym (ap length (sym (body_numbers xs other more) ∙ is.encoding)) ∙ numbers_len xs ∙ ap (λ (n : ℕ). 2 * n) size))
      ]
    ] in
    let here : IsBlocks (length xs) bytes = subst (IsBlocks (length xs)) encoding (blocks_are_blocks xs is.rising (omega arith)) in
    record { are = subst (λ (l : List ℕ). IsBlocks (length l) bytes) read here; size = ap length (sym read) ∙ size; read = sym read }

-- and one that begins so is runs
pub runs_known : (count : ℕ) (bytes : List ℕ) → 0 < count → IsBody count bytes (body_numbers_of count bytes) → (length bytes ≡ 2 * count → ⊥) → begins_runs bytes ≡ true
    → HasRuns count bytes bytes
runs_known count bytes some is ne begun =
    let xs : List ℕ = body_numbers_of count bytes in
    let read : xs ≡ runs_from 0 (drop 2 bytes) = ap (λ (b : Bool). by_size b bytes) (ne_eqb (length bytes) (2 * count) ne) ∙ ap (λ (b : Bool). by_head b bytes) begun in
    let size : length xs ≡ count = is.count_is in
    let same : runs (boundaries xs) ≡ bytes = elim (cases_few xs) [
      | inl fits ↦ sym (body_runs xs fits) ∙ is.encoding
      | inr other ↦ elim (cases_lt (length (blocks xs)) (2 * length xs)) [
        | inl less ↦ (
            let encoding : blocks xs ≡ bytes = sym (body_blocks xs other less) ∙ is.encoding in
            absurd (true≢false (sym begun ∙ ap begins_runs (sym encoding) ∙ blocks_begin (length xs) (blocks xs) (blocks_are_blocks xs is.rising (omega arith)))))
        | inr more ↦ absurd (ne (sym (ap length (sym (body_numbers xs other more) ∙ is.encoding)) ∙ numbers_len xs ∙ ap (λ (n : ℕ). 2 * n) size))
      ]
    ] in
    let bounds : pairs_of (drop 2 bytes) ≡ boundaries xs = ap (λ (l : List ℕ). pairs_of (drop 2 l)) (sym same) ∙ runs_read (boundaries xs) (bounds_rise xs is.rising) in
    record { rising = subst (IsRising 0 65536) (sym bounds) (bounds_rise xs is.rising); size = ap length (sym read) ∙ size; read = sym read }

pub numbers_read : (count : ℕ) (bytes : List ℕ) → length bytes ≡ 2 * count → body_numbers_of count bytes ≡ pairs_of bytes
numbers_read count bytes e = ap (λ (b : Bool). by_size b bytes) (eq-eqb (length bytes) (2 * count) e)

-- the body of a chunk
pub record IsOf (ids chunks m own : ℕ) (rest body : List ℕ) : Type 0 where
  pub is : IsRest ids chunks rest
  pub within : m < chunks
  pub count_is : own ≡ count_at chunks rest m
  pub body_is : body ≡ body_at chunks rest m

apart_of : (chunks m own : ℕ) (rest body : List ℕ) → own ≡ count_at chunks rest m → body ≡ body_at chunks rest m → (length body ≡ 2 * own → ⊥)
    → length (body_at chunks rest m) ≡ 2 * count_at chunks rest m → ⊥
apart_of chunks m own rest body o e ne h = ne (ap length e ∙ h ∙ ap (λ (n : ℕ). 2 * n) (sym o))

pub blocks_known : (ids chunks m own : ℕ) (rest body : List ℕ) → IsOf ids chunks m own rest body → (length body ≡ 2 * own → ⊥) → begins_runs body ≡ false
    → HasBlocks (count_at chunks rest m) (body_at chunks rest m) body
blocks_known ids chunks m own rest body of ne plain =
    let here = blocks_read (count_at chunks rest m) (body_at chunks rest m) (of.is.entries m of.within).some (of.is.bodies m of.within) (apart_of chunks m own rest body of.count_is of.body_is ne)
    (ap begins_runs (sym of.body_is) ∙ plain) in
    subst (HasBlocks (count_at chunks rest m) (body_at chunks rest m)) (sym of.body_is) here

pub runs_of : (ids chunks m own : ℕ) (rest body : List ℕ) → IsOf ids chunks m own rest body → (length body ≡ 2 * own → ⊥) → begins_runs body ≡ true
    → HasRuns (count_at chunks rest m) (body_at chunks rest m) body
runs_of ids chunks m own rest body of ne begun =
    let here = runs_known (count_at chunks rest m) (body_at chunks rest m) (of.is.entries m of.within).some (of.is.bodies m of.within) (apart_of chunks m own rest body of.count_is of.body_is ne)
    (ap begins_runs (sym of.body_is) ∙ begun) in
    subst (HasRuns (count_at chunks rest m) (body_at chunks rest m)) (sym of.body_is) here

pub numbers_known : (chunks m own : ℕ) (rest body : List ℕ) → own ≡ count_at chunks rest m → body ≡ body_at chunks rest m
    → length body ≡ 2 * own → pairs_of body ≡ body_numbers_of (count_at chunks rest m) (body_at chunks rest m)
numbers_known chunks m own rest body o e same =
    ap pairs_of e ∙ sym (numbers_read (count_at chunks rest m) (body_at chunks rest m) (sym (ap length e) ∙ same ∙ ap (λ (n : ℕ). 2 * n) o))

-- as it is cut from the rest
pub body_cut : (chunks m start begin end : ℕ) (rest : List ℕ) → start ≡ bodies_start chunks rest → begin ≡ before (end_at chunks rest) m → end ≡ end_at chunks rest m
    → take (start + end - (start + begin)) (drop (start + begin) rest) ≡ body_at chunks rest m
body_cut chunks m start begin end rest s b e =
    let size : start + end - (start + begin) ≡ size_at chunks rest m = omega arith in
    let from : start + begin ≡ bodies_start chunks rest + before (end_at chunks rest) m = omega arith in
    ap (λ (n : ℕ). take n (drop (start + begin) rest)) size ∙ ap (λ (n : ℕ). take (size_at chunks rest m) (drop n rest)) from

pub body_end : (ids chunks m : ℕ) (rest : List ℕ) → IsRest ids chunks rest → m < chunks → bodies_start chunks rest + end_at chunks rest m ≤ length rest
body_end ids chunks m rest is lt =
    let top = grown_to (end_at chunks rest) m chunks (ends_grow ids chunks rest is.entries) lt in
    let e = is.end in
    omega arith

pub raised_same : (base key : ℕ) (xs ys : List ℕ) → base ≡ key * 65536 → xs ≡ ys → map (λ i. base + i) xs ≡ map (λ low. key * 65536 + low) ys
raised_same base key xs ys e f = ap (λ (n : ℕ). map (λ i. n + i) xs) e ∙ ap (map (λ low. key * 65536 + low)) f

-- ---- counts

pub count_next : (ids chunks m : ℕ) (rest : List ℕ) → IsRest ids chunks rest → m < chunks → (next : ℕ) → next ≡ before (sum_at chunks rest) m
    → next + count_at chunks rest m ≡ before (sum_at chunks rest) (m + 1)
count_next ids chunks m rest is lt next e =
    let some = (is.entries m lt).some in
    let f = before_next (sum_at chunks rest) m in
    omega arith

pub sum_all : (ids chunks c : ℕ) (rest : List ℕ) → IsRest ids chunks rest → c ≡ chunks → before (sum_at chunks rest) c ≡ ids
sum_all ids chunks zero rest is e = let some = is.some in absurd (omega arith)
sum_all ids chunks (suc c) rest is e = let lt : c < chunks = omega arith in (is.entries c lt).last (omega arith)

pub count_within : (ids chunks m : ℕ) (rest : List ℕ) → IsRest ids chunks rest → m < chunks → before (sum_at chunks rest) m + count_at chunks rest m ≤ ids
count_within ids chunks m rest is lt =
    let some = (is.entries m lt).some in
    let top = grown_to (sum_at chunks rest) m chunks (sums_grow ids chunks rest is.entries) lt in
    let all = sum_all ids chunks chunks rest is refl in
    omega arith

-- ---- chunk by chunk

pub chunks_next : (chunks m : ℕ) (rest done more : List ℕ) → m < chunks
    → more ≡ done ++ map (λ low. key_at rest m * 65536 + low) (body_numbers_of (count_at chunks rest m) (body_at chunks rest m))
    → done ++ ids_of_chunks (map (chunk_at chunks rest) (range_with_len m (chunks - m))) ≡ chunk_ids chunks rest
    → more ++ ids_of_chunks (map (chunk_at chunks rest) (range_with_len (m + 1) (chunks - (m + 1)))) ≡ chunk_ids chunks rest
chunks_next chunks m rest done more lt e so_far =
    let own : List ℕ = map (λ low. key_at rest m * 65536 + low) (body_numbers_of (count_at chunks rest m) (body_at chunks rest m)) in
    let left : List ℕ = ids_of_chunks (map (chunk_at chunks rest) (range_with_len (m + 1) (chunks - (m + 1)))) in
    let next : suc (chunks - (m + 1)) ≡ chunks - m = omega arith in
    ap (λ (l : List ℕ). l ++ left) e ∙ append_assoc done own left
    ∙ ap (λ (n : ℕ). done ++ ids_of_chunks (map (chunk_at chunks rest) (range_with_len m n))) next ∙ so_far

pub chunks_done : (chunks m : ℕ) (rest done : List ℕ) → chunks ≤ m
    → done ++ ids_of_chunks (map (chunk_at chunks rest) (range_with_len m (chunks - m))) ≡ chunk_ids chunks rest → done ≡ chunk_ids chunks rest
chunks_done chunks m rest done h so_far =
    let none : 0 ≡ chunks - m = omega arith in
    sym (append-nil done) ∙ ap (λ (n : ℕ). done ++ ids_of_chunks (map (chunk_at chunks rest) (range_with_len m n))) none ∙ so_far

-- ---- keys

abbrev pub read_chunks : ℕ → List ℕ → List (ℕ × List ℕ)
read_chunks chunks rest = map (chunk_at chunks rest) (range_with_len 0 chunks)

-- the bytes of the keys are numbers, which are the keys
pub keys_read : (ids chunks : ℕ) (rest : List ℕ) → EachByte rest → IsRest ids chunks rest → pairs_of (take (2 * chunks) (drop 1 rest)) ≡ keys (read_chunks chunks rest)
unfolding numbers
keys_read ids chunks rest are is =
    let rises : IsRising 0 65536 (keys (read_chunks chunks rest)) = keys_rise 65536 0 65536 (read_chunks chunks rest) (are_parts ids chunks rest are is) in
    sym (ap pairs_of (keys_encoding ids chunks rest are is)) ∙ numbers_back 0 (keys (read_chunks chunks rest)) rises

pub keys_rise_in : (ids chunks : ℕ) (rest : List ℕ) → EachByte rest → IsRest ids chunks rest → IsRising 0 65536 (pairs_of (take (2 * chunks) (drop 1 rest)))
keys_rise_in ids chunks rest are is = subst (IsRising 0 65536) (sym (keys_read ids chunks rest are is)) (keys_rise 65536 0 65536 (read_chunks chunks rest) (are_parts ids chunks rest are is))

-- chunk m of those that are read
pub chunk_there : (ids chunks m : ℕ) (rest : List ℕ) → m < chunks → get_or (read_chunks chunks rest) m none ≡ chunk_at chunks rest m
chunk_there ids chunks m rest lt = get_or-map-range_with_len (chunk_at chunks rest) 0 chunks m m none lt (zero_plus m)
  where
    zero_plus : (n : ℕ) → 0 + n ≡ n
    zero_plus n = omega arith

-- an id is looked up in the chunk of its key
pub has_not_in : (ids chunks x : ℕ) (rest : List ℕ) → EachByte rest → IsRest ids chunks rest → has (x / 65536) (pairs_of (take (2 * chunks) (drop 1 rest))) ≡ false
    → has x (chunk_ids chunks rest) ≡ false
has_not_in ids chunks x rest are is h =
    has_join_not 65536 x 0 65536 (read_chunks chunks rest) (are_parts ids chunks rest are is) (sym (ap (has (x / 65536)) (keys_read ids chunks rest are is)) ∙ h)

pub has_in : (ids chunks x m : ℕ) (rest : List ℕ) → EachByte rest → IsRest ids chunks rest → m < chunks → m ≡ rank (x / 65536) (pairs_of (take (2 * chunks) (drop 1 rest)))
    → has (x / 65536) (pairs_of (take (2 * chunks) (drop 1 rest))) ≡ true → has x (chunk_ids chunks rest) ≡ has (x % 65536) (body_numbers_of (count_at chunks rest m) (body_at chunks rest m))
has_in ids chunks x m rest are is lt e h =
    let same = keys_read ids chunks rest are is in
    has_join 65536 x 0 65536 m (read_chunks chunks rest) (are_parts ids chunks rest are is) (e ∙ ap (rank (x / 65536)) same) (sym (ap (has (x / 65536)) same) ∙ h)
    ∙ ap (λ (p : ℕ × List ℕ). has (x % 65536) p.1) (chunk_there ids chunks m rest lt)

-- how many ids the chunks before one have
pub counted_before : (ids chunks m : ℕ) (rest : List ℕ) → EachByte rest → IsRest ids chunks rest → m ≤ chunks → total (take m (counts (read_chunks chunks rest))) ≡ before (sum_at chunks rest) m
counted_before ids chunks m rest are is most =
    let up : Grows (sum_at chunks rest) 0 m = λ i low high. sums_grow ids chunks rest is.entries i low (omega arith) in
    let all = steps_total (sum_at chunks rest) 0 m up in
    let e : 0 + m ≡ m = omega arith in
    ap (λ (l : List ℕ). total (take m l)) (counts_in ids chunks rest are is) ∙ ap total (take-map-range_with_len (step_of (sum_at chunks rest)) 0 chunks m most)
    ∙ plus (total (map (step_of (sum_at chunks rest)) (range_with_len 0 m))) ∙ all ∙ ap (before (sum_at chunks rest)) e
  where
    plus : (n : ℕ) → n ≡ 0 + n
    plus n = omega arith

pub rank_not_in : (ids chunks x m : ℕ) (rest : List ℕ) → EachByte rest → IsRest ids chunks rest → m ≤ chunks → m ≡ rank (x / 65536) (pairs_of (take (2 * chunks) (drop 1 rest)))
    → has (x / 65536) (pairs_of (take (2 * chunks) (drop 1 rest))) ≡ false → rank x (chunk_ids chunks rest) ≡ before (sum_at chunks rest) m
rank_not_in ids chunks x m rest are is most e h =
    let same = keys_read ids chunks rest are is in
    rank_join_not 65536 x 0 65536 m (read_chunks chunks rest) (omega arith) (are_parts ids chunks rest are is) (e ∙ ap (rank (x / 65536)) same) (sym (ap (has (x / 65536)) same) ∙ h)
    ∙ counted_before ids chunks m rest are is most

pub rank_in : (ids chunks x m : ℕ) (rest : List ℕ) → EachByte rest → IsRest ids chunks rest → m < chunks → m ≡ rank (x / 65536) (pairs_of (take (2 * chunks) (drop 1 rest)))
    → has (x / 65536) (pairs_of (take (2 * chunks) (drop 1 rest))) ≡ true
    → rank x (chunk_ids chunks rest) ≡ before (sum_at chunks rest) m + rank (x % 65536) (body_numbers_of (count_at chunks rest m) (body_at chunks rest m))
rank_in ids chunks x m rest are is lt e h =
    let same = keys_read ids chunks rest are is in
    rank_join 65536 x 0 65536 m (read_chunks chunks rest) (omega arith) (are_parts ids chunks rest are is) (e ∙ ap (rank (x / 65536)) same) (sym (ap (has (x / 65536)) same) ∙ h)
    ∙ ap (λ (n : ℕ). n + rank (x % 65536) (get_or (read_chunks chunks rest) m none).1) (counted_before ids chunks m rest are is (omega arith))
    ∙ ap (λ (p : ℕ × List ℕ). before (sum_at chunks rest) m + rank (x % 65536) p.1) (chunk_there ids chunks m rest lt)

-- a key that occurs is that of a chunk
pub key_within : (ids chunks x m : ℕ) (rest : List ℕ) → IsRest ids chunks rest → m ≡ rank x (pairs_of (take (2 * chunks) (drop 1 rest))) → has x (pairs_of (take (2 * chunks) (drop 1 rest))) ≡ true → m < chunks
key_within ids chunks x m rest is e h = elim (cases_lt m chunks) [
  | inl less ↦ less
  | inr more ↦ (
      let room = is.directory.room in
      let size = keys_len chunks rest (omega arith) in
      absurd (true≢false (sym h ∙ has_not x m (pairs_of (take (2 * chunks) (drop 1 rest))) e (omega arith))))
]

pub ranked_in : (ids chunks x m below left : ℕ) (rest : List ℕ) → EachByte rest → IsRest ids chunks rest → m ≡ rank (x / 65536) (pairs_of (take (2 * chunks) (drop 1 rest)))
    → has (x / 65536) (pairs_of (take (2 * chunks) (drop 1 rest))) ≡ true → below ≡ before (sum_at chunks rest) m
    → left ≡ rank (x % 65536) (body_numbers_of (count_at chunks rest m) (body_at chunks rest m)) → below + left ≡ rank x (chunk_ids chunks rest)
ranked_in ids chunks x m below left rest are is e h b l =
    let there = rank_in ids chunks x m rest are is (key_within ids chunks (x / 65536) m rest is e h) e h in
    omega arith

pub rank_small : (ids chunks x m left : ℕ) (rest : List ℕ) → IsRest ids chunks rest → m < chunks → left ≡ rank x (body_numbers_of (count_at chunks rest m) (body_at chunks rest m)) → left ≤ 65536
rank_small ids chunks x m left rest is lt l =
    let few = rank_le x (body_numbers_of (count_at chunks rest m) (body_at chunks rest m)) in
    let size = (is.bodies m lt).count_is in
    let most = (is.entries m lt).few in
    omega arith
