-- The first chunks of a set in chunks, and ids that follow them.
use Rattle.std.proofs.Common.{◌≡◌, ℕ, zero, suc, ◌+◌, ◌-◌, ◌*◌, ◌/◌, ◌^◌, ◌<◌, ◌≤◌, Bool, cond, eqb, eq-eqb, List, [], ◌∷◌, ◌++◌, map, take, drop, length, refl, sym, ap, ◌∙◌, arith, subst, get_or, inl, inr, take-append-drop, length-drop, length-append, append_assoc}
use Rattle.std.specs.List.{concat, filter, flat_map, range_with_len}
use Rattle.std.proofs.lemmas.Bool.{cases_lt, ne_eqb}
use Rattle.std.proofs.lemmas.List.{drop-append-le, drop_at, get_or-append_right, length-map, length-take-le, map-append, take_at}
use Rattle.std.proofs.lemmas.List.Elements.{filter-append}
use Rattle.std.proofs.lemmas.List.FromFn.{length-map-range_with_len}
use Rattle.bitpack_slices.proofs.ForCallers.{AreParts, EachByte, bytes_dropped, counts, join, keys, range_cat, rising_at, rising_drop, rising_room, rising_top, total}
use Rattle.bitpack_sets.proofs.lemmas.faults.ChunkLaws.{from_chunk, shorts_all}
use Rattle.bitpack_sets.proofs.lemmas.reads.ChunkReads.{sum_all}
use Rattle.bitpack_sets.proofs.lemmas.encodings.EncodeLaws.{few_is}
use Rattle.bitpack_sets.proofs.lemmas.faults.EntryLaws.{body_len, ends_grow, grown_to, sums_grow}
use Rattle.bitpack_slices.proofs.ForCallers.{join_parts, join_rises, parts_are, parts_join}
use Rattle.bitpack_sets.proofs.lemmas.encodings.LongLaws.{join_len}
use Rattle.bitpack_sets.proofs.lemmas.encodings.LongLaws as encodings
use Rattle.bitpack_sets.proofs.lemmas.encodings.ShortLaws.{Grows, map_map, map_same, before_next, step_of, steps_summed, steps_taken, steps_total}
use Rattle.bitpack_sets.specs.Directory.{before, bodies_end, bodies_start, body_at, body_numbers_of, chunk_at, chunk_ids, count_at, end_at, ids_of_chunks, key_at, sum_at}
use Rattle.bitpack_sets.specs.Fronts.{IsFront, IsNext}
use Rattle.bitpack_slices.specs.Bodies.{IsRising, le_bytes, parts}
use Rattle.bitpack_sets.specs.Sets.{IsSet, body, encoding, short, sums}
use Rattle.bitpack_sets.specs.Sound.{IsRest}
use Rattle.bitpack_sets.specs.Written.{bodies, keys_encoding, last_chunk}

-- ---- parts of lists that follow each other

parts_append : (base low mid high : ℕ) (ps qs : List (ℕ × List ℕ)) → AreParts base low mid ps → AreParts base mid high qs → AreParts base low high (ps ++ qs)
parts_append base low mid high [] [] a b = omega arith
parts_append base low mid high [] (q ∷ qs) a (b, some, r, later) = (omega arith, some, r, later)
parts_append base low mid high (p ∷ ps) qs (a, some, r, later) b = (a, some, r, parts_append base (p.0 + 1) mid high ps qs later b)

join_append : (base : ℕ) (ps qs : List (ℕ × List ℕ)) → join base (ps ++ qs) ≡ join base ps ++ join base qs
join_append base [] qs = refl
join_append base (p ∷ ps) qs =
    ap (λ (l : List ℕ). map (λ low. p.0 * base + low) p.1 ++ l) (join_append base ps qs) ∙ sym (append_assoc (map (λ low. p.0 * base + low) p.1) (join base ps) (join base qs))

pub parts_cut : (first later : List ℕ) → IsNext first later → parts 65536 (first ++ later) ≡ parts 65536 first ++ parts 65536 later
parts_cut first later cut =
    let ps : List (ℕ × List ℕ) = parts 65536 first in
    let qs : List (ℕ × List ℕ) = parts 65536 later in
    let front : AreParts 65536 0 cut.key ps = parts_are 65536 0 cut.key 0 first (omega arith) (omega arith) cut.front in
    let back : AreParts 65536 cut.key 65536 qs = parts_are 65536 cut.key 65536 (cut.key * 65536) later (omega arith) (omega arith) cut.back in
    let all : join 65536 (ps ++ qs) ≡ first ++ later =
    join_append 65536 ps qs ∙ ap (λ (l : List ℕ). l ++ join 65536 qs) (join_parts 65536 first) ∙ ap (λ (l : List ℕ). first ++ l) (join_parts 65536 later) in
    ap (parts 65536) (sym all) ∙ parts_join 65536 0 65536 (ps ++ qs) (parts_append 65536 0 cut.key 65536 ps qs front back)

-- ---- the ids of one chunk

abbrev of_key : ℕ → ℕ → Bool
of_key key x = eqb (x / 65536) key

key_kept : (key low : ℕ) (xs : List ℕ) → key * 65536 ≤ low → IsRising low ((key + 1) * 65536) xs → filter (of_key key) xs ≡ xs
key_kept key low [] h r = refl
key_kept key low (x ∷ xs) h (a, r) =
    let room = rising_room (x + 1) ((key + 1) * 65536) xs r in
    ap (λ (b : Bool). cond b (x ∷ filter (of_key key) xs) (filter (of_key key) xs)) (eq-eqb (x / 65536) key (omega arith)) ∙ ap (λ (l : List ℕ). x ∷ l) (key_kept key (x + 1) xs (omega arith) r)

key_left_out : (key low : ℕ) (xs : List ℕ) → IsRising low (key * 65536) xs → filter (of_key key) xs ≡ []
key_left_out key low [] r = refl
key_left_out key low (x ∷ xs) (a, r) =
    let room = rising_room (x + 1) (key * 65536) xs r in
    ap (λ (b : Bool). cond b (x ∷ filter (of_key key) xs) (filter (of_key key) xs)) (ne_eqb (x / 65536) key (λ e. omega arith)) ∙ key_left_out key (x + 1) xs r

last_is : (first back : List ℕ) (key : ℕ) → 0 < length back → IsRising 0 (key * 65536) first → IsRising (key * 65536) ((key + 1) * 65536) back → last_chunk (first ++ back) ≡ back
unfolding last_chunk
last_is first back key some a b =
    let end : ℕ = length back - 1 in
    let long = length-append first back in
    let at : get_or (first ++ back) (length (first ++ back) - 1) 0 ≡ get_or back end 0 =
    get_or-append_right first back (length first) (length (first ++ back) - 1) 0 refl (omega arith)
    ∙ ap (λ (n : ℕ). get_or back n 0) (omega arith) in
    let low = rising_at (key * 65536) ((key + 1) * 65536) end back b (omega arith) in
    let high = rising_top (key * 65536) ((key + 1) * 65536) end back b (omega arith) in
    let same : get_or (first ++ back) (length (first ++ back) - 1) 0 / 65536 ≡ key = omega arith in
    ap (λ (k : ℕ). filter (of_key k) (first ++ back)) same ∙ filter-append (of_key key) first back
    ∙ ap (λ (l : List ℕ). l ++ filter (of_key key) back) (key_left_out key 0 first a) ∙ key_kept key (key * 65536) back (omega arith) b

-- ---- the first chunks of a set

module _ (ids chunks : ℕ) (rest : List ℕ) (are : EachByte rest) (is : IsRest ids chunks rest) (k : ℕ) (lt : k < chunks) where
  abbrev pub front : List (ℕ × List ℕ)
  front = map (chunk_at chunks rest) (range_with_len 0 k)

  abbrev pub back : List (ℕ × List ℕ)
  back = map (chunk_at chunks rest) (range_with_len k (chunks - k))

  abbrev pub first : List ℕ
  first = ids_of_chunks front

  front_from : (m n low : ℕ) → m + n < chunks → low ≤ key_at rest m → AreParts 65536 low (key_at rest (m + n)) (map (chunk_at chunks rest) (range_with_len m n))
  front_from m zero low h a = let e : m + 0 ≡ m = omega arith in let f = ap (key_at rest) e in omega arith
  front_from m (suc n) low h a =
      let here : m < chunks = omega arith in
      let some = (is.entries m here).some in
      let read = is.bodies m here in
      let many = read.count_is in
      let up = (is.entries (m + 1) (omega arith)).key (omega arith) in
      let next = before_next (key_at rest) m in
      let e : m + 1 + n ≡ m + suc n = omega arith in (
        a,
        omega arith,
        read.rising,
        subst (λ (i : ℕ). AreParts 65536 (key_at rest m + 1) (key_at rest i) (map (chunk_at chunks rest) (range_with_len (m + 1) n))) e
            (front_from (m + 1) n (key_at rest m + 1) (omega arith) (omega arith)),
      )

  front_are : AreParts 65536 0 (key_at rest k) front
  front_are = let e : 0 + k ≡ k = omega arith in subst (λ (i : ℕ). AreParts 65536 0 (key_at rest i) front) e (front_from 0 k 0 (omega arith) (omega arith))

  pub front_parts : parts 65536 first ≡ front
  front_parts = parts_join 65536 0 (key_at rest k) front front_are

  pub front_count : length (parts 65536 first) ≡ k
  front_count = ap length front_parts ∙ length-map-range_with_len (chunk_at chunks rest) 0 k

  ends_up : Grows (end_at chunks rest) 0 k
  ends_up i low high = ends_grow ids chunks rest is.entries i low (omega arith)

  sums_up : Grows (sum_at chunks rest) 0 k
  sums_up i low high = sums_grow ids chunks rest is.entries i low (omega arith)

  pub front_keys : keys_encoding first ≡ take (2 * k) (drop 1 rest)
  front_keys =
      let room = is.directory.room in
      ap (λ (ps : List (ℕ × List ℕ)). flat_map (le_bytes 2) (keys ps)) front_parts
      ∙ ap (flat_map (le_bytes 2)) (map_map (λ (part : ℕ × List ℕ). part.0) (chunk_at chunks rest) 0 k)
      ∙ shorts_all 2 k (drop 1 rest) (bytes_dropped 1 rest are) (omega (arith, length-drop 1 rest))

  front_bodies_in : bodies first ≡ map (body_at chunks rest) (range_with_len 0 k)
  front_bodies_in =
      ap encodings.bodies front_parts ∙ map_map (λ (part : ℕ × List ℕ). body part.1) (chunk_at chunks rest) 0 k
      ∙ map_same (λ m. body (body_numbers_of (count_at chunks rest m) (body_at chunks rest m))) (body_at chunks rest) 0 k (λ i low high. (is.bodies i (omega arith)).encoding)

  front_sizes : map length (bodies first) ≡ map (step_of (end_at chunks rest)) (range_with_len 0 k)
  front_sizes =
      let fits : bodies_end chunks rest ≤ length rest = (let e = is.end in omega arith) in
      ap (map length) front_bodies_in ∙ map_map length (body_at chunks rest) 0 k
      ∙ map_same (λ m. length (body_at chunks rest m)) (step_of (end_at chunks rest)) 0 k (λ i low high. body_len ids chunks rest i is.entries fits (omega arith))

  pub front_ends : sums 0 (map length (bodies first)) ≡ map (end_at chunks rest) (range_with_len 0 k)
  front_ends = ap (sums 0) front_sizes ∙ steps_summed (end_at chunks rest) 0 k ends_up

  front_counts : counts (parts 65536 first) ≡ map (step_of (sum_at chunks rest)) (range_with_len 0 k)
  front_counts =
      ap counts front_parts ∙ map_map (λ (part : ℕ × List ℕ). length part.1) (chunk_at chunks rest) 0 k
      ∙ map_same (λ m. length (body_numbers_of (count_at chunks rest m) (body_at chunks rest m))) (step_of (sum_at chunks rest)) 0 k (λ i low high. (is.bodies i (omega arith)).count_is)

  pub front_sums : sums 0 (map (λ chunk. length chunk.1) (parts 65536 first)) ≡ map (sum_at chunks rest) (range_with_len 0 k)
  front_sums = ap (sums 0) front_counts ∙ steps_summed (sum_at chunks rest) 0 k sums_up

  zero_plus : (n : ℕ) → 0 + n ≡ n
  zero_plus n = omega arith

  pub front_bodies : concat (bodies first) ≡ take (before (end_at chunks rest) k) (drop (bodies_start chunks rest) rest)
  front_bodies =
      let start : ℕ = bodies_start chunks rest in
      let here : start + before (end_at chunks rest) 0 ≡ start = omega arith in
      let size : before (end_at chunks rest) (0 + k) - before (end_at chunks rest) 0 ≡ before (end_at chunks rest) k = (let f = ap (before (end_at chunks rest)) (zero_plus k) in omega arith) in
      ap concat front_bodies_in ∙ steps_taken (end_at chunks rest) start 0 k rest ends_up
      ∙ ap (λ (n : ℕ). take (before (end_at chunks rest) (0 + k) - before (end_at chunks rest) 0) (drop n rest)) here
      ∙ ap (λ (n : ℕ). take n (drop start rest)) size

  -- where the bodies end
  pub front_room : bodies_start chunks rest + before (end_at chunks rest) k ≤ length rest
  front_room = room k refl
    where
      room : (n : ℕ) → n ≡ k → bodies_start chunks rest + before (end_at chunks rest) n ≤ length rest
      room zero e = let r = is.directory.room in omega arith
      room (suc n) e =
          let top = grown_to (end_at chunks rest) n chunks (ends_grow ids chunks rest is.entries) (omega arith) in
          let all = is.end in
          omega arith

  pub front_size : length (concat (bodies first)) ≡ before (end_at chunks rest) k
  front_size =
      let room = front_room in
      ap length front_bodies ∙ length-take-le (before (end_at chunks rest) k) (drop (bodies_start chunks rest) rest) (omega (arith, length-drop (bodies_start chunks rest) rest))

  pub front_len : length first ≡ before (sum_at chunks rest) k
  front_len =
      let all = steps_total (sum_at chunks rest) 0 k sums_up in
      let e = ap (before (sum_at chunks rest)) (zero_plus k) in
      let long = join_len front in
      let f = ap (λ (ps : List (ℕ × List ℕ)). total (counts ps)) (sym front_parts) in
      let g = ap total front_counts in
      omega arith

  pub front_few : length first ≤ ids
  front_few =
      let own = (is.entries k lt).some in
      let top = grown_to (sum_at chunks rest) k chunks (sums_grow ids chunks rest is.entries) lt in
      let all = sum_all ids chunks chunks rest is refl in
      let long = front_len in
      omega arith

  -- ---- all ids

  pub all_is : chunk_ids chunks rest ≡ first ++ ids_of_chunks back
  all_is =
      let whole : chunks ≡ k + (chunks - k) = omega arith in
      ap (λ (n : ℕ). ids_of_chunks (map (chunk_at chunks rest) (range_with_len 0 n))) whole
      ∙ ap (λ (l : List ℕ). ids_of_chunks (map (chunk_at chunks rest) l)) (range_cat 0 k (chunks - k))
      ∙ ap ids_of_chunks (map-append (chunk_at chunks rest) (range_with_len 0 k) (range_with_len (0 + k) (chunks - k)))
      ∙ join_append 65536 front (map (chunk_at chunks rest) (range_with_len (0 + k) (chunks - k)))
      ∙ ap (λ (n : ℕ). first ++ ids_of_chunks (map (chunk_at chunks rest) (range_with_len n (chunks - k)))) (zero_plus k)

  pub front_is : take (before (sum_at chunks rest) k) (chunk_ids chunks rest) ≡ first
  front_is = ap (take (before (sum_at chunks rest) k)) all_is ∙ take_at first (ids_of_chunks back) (before (sum_at chunks rest) k) front_len

  pub back_is : drop (before (sum_at chunks rest) k) (chunk_ids chunks rest) ≡ ids_of_chunks back
  back_is = ap (drop (before (sum_at chunks rest) k)) all_is ∙ drop_at first (ids_of_chunks back) (before (sum_at chunks rest) k) front_len

  front_rises : IsRising 0 (key_at rest k * 65536) first
  front_rises = join_rises 65536 0 (key_at rest k) front front_are

  back_are : AreParts 65536 (key_at rest k) 65536 back
  back_are = from_chunk ids chunks rest are is k (chunks - k) (key_at rest k) (omega arith) (let small = key_small in omega arith) (λ some. omega arith)
    where
      key_small : key_at rest k < 65536
      key_small = Rattle.bitpack_sets.proofs.lemmas.faults.ChunkLaws.key_small ids chunks rest are is k lt

  back_rises : IsRising (key_at rest k * 65536) (2 ^ 32) (ids_of_chunks back)
  back_rises = join_rises 65536 (key_at rest k) 65536 back back_are

  back_some : 0 < length (ids_of_chunks back)
  back_some =
      let whole : chunks - k ≡ suc (chunks - k - 1) = omega arith in
      let some = (is.entries k lt).some in
      let read = (is.bodies k lt).count_is in
      let own : List ℕ = map (λ low. key_at rest k * 65536 + low) (body_numbers_of (count_at chunks rest k) (body_at chunks rest k)) in
      let others : List ℕ = ids_of_chunks (map (chunk_at chunks rest) (range_with_len (k + 1) (chunks - k - 1))) in
      let split = ap (λ (n : ℕ). length (ids_of_chunks (map (chunk_at chunks rest) (range_with_len k n)))) whole in
      let long = length-append own others in
      let size = length-map (body_numbers_of (count_at chunks rest k) (body_at chunks rest k)) (λ low. key_at rest k * 65536 + low) in
      omega arith

  pub cut_is : (more : List ℕ) → IsSet (chunk_ids chunks rest ++ more) → IsNext first (ids_of_chunks back ++ more)
  cut_is more set = record {
    key = key_at rest k;
    front = front_rises;
    back = later (key_at rest k * 65536) (ids_of_chunks back) more back_some back_rises
        (after 0 first (ids_of_chunks back ++ more) (subst (IsRising 0 (2 ^ 32)) (ap (λ (l : List ℕ). l ++ more) all_is ∙ append_assoc first (ids_of_chunks back) more) set.rising));
  }
    where
      after : (low : ℕ) (xs ys : List ℕ) → IsRising low (2 ^ 32) (xs ++ ys) → (from : ℕ) × IsRising from (2 ^ 32) ys
      after low [] ys r = (low, r)
      after low (x ∷ xs) ys (a, r) = after (x + 1) xs ys r

      later : (low : ℕ) (xs ys : List ℕ) → 0 < length xs → IsRising low (2 ^ 32) xs → (from : ℕ) × IsRising from (2 ^ 32) (xs ++ ys) → IsRising low (2 ^ 32) (xs ++ ys)
      later low [] ys some r all = absurd (omega arith)
      later low (x ∷ xs) ys some (a, r) (from, (b, all)) = (a, all)

  one_back : k + 1 ≡ chunks → IsRising (key_at rest k * 65536) ((key_at rest k + 1) * 65536) (ids_of_chunks back)
  one_back e =
      let one : chunks - k ≡ suc zero = omega arith in
      let some = (is.entries k lt).some in
      let read = is.bodies k lt in
      let many = read.count_is in
      subst (λ (n : ℕ). IsRising (key_at rest k * 65536) ((key_at rest k + 1) * 65536) (ids_of_chunks (map (chunk_at chunks rest) (range_with_len k n)))) (sym one)
      (join_rises 65536 (key_at rest k) (key_at rest k + 1) (map (chunk_at chunks rest) (range_with_len k (suc zero))) (omega arith, omega arith, read.rising, omega arith))

  last_len : k + 1 ≡ chunks → length (chunk_ids chunks rest) ≡ length first + length (last_chunk (chunk_ids chunks rest))
  last_len e =
      let is_last : last_chunk (chunk_ids chunks rest) ≡ ids_of_chunks back = ap last_chunk all_is ∙ last_is first (ids_of_chunks back) (key_at rest k) back_some front_rises (one_back e) in
      ap length all_is ∙ length-append first (ids_of_chunks back) ∙ ap (λ (l : List ℕ). length first + length l) (sym is_last)

  pub is_front : 128 ≤ length (chunk_ids chunks rest) → k + 1 ≡ chunks → IsFront first (chunk_ids chunks rest)
  is_front many end = record {
    many = many;
    last = last_len end;
    front = ap (λ (n : ℕ). take n (chunk_ids chunks rest)) front_len ∙ front_is;
    next = λ more set. subst (λ (l : List ℕ). IsNext first (l ++ more)) (sym (ap (λ (n : ℕ). drop n (chunk_ids chunks rest)) front_len ∙ back_is)) (cut_is more set);
  }

-- a set whose bytes begin as those in chunks has at least 128 ids
pub short_first : (ids : List ℕ) → 128 ≤ get_or (short ids) 0 0
unfolding short
short_first [] = omega arith
short_first (x ∷ ids) = omega arith

pub many_ids : (ids : List ℕ) → get_or (encoding ids) 0 0 ≡ 5 → 128 ≤ length ids
many_ids ids five = elim (cases_lt (length ids) 128) [
  | inl few ↦ (let e = ap (λ (l : List ℕ). get_or l 0 0) (few_is ids (omega arith)) in let high = short_first ids in absurd (omega arith))
  | inr many ↦ many
]

-- ---- ids after the first chunks

module _ (first ids more : List ℕ) (is : IsFront first ids) where
  whole : first ++ drop (length first) ids ≡ ids
  whole = ap (λ (l : List ℕ). l ++ drop (length first) ids) (sym is.front) ∙ take-append-drop (length first) ids

  pub all_ids : first ++ (drop (length first) ids ++ more) ≡ ids ++ more
  all_ids = sym (append_assoc first (drop (length first) ids) more) ∙ ap (λ (l : List ℕ). l ++ more) whole

  pub front_most : length first ≤ length ids
  front_most = let e = ap length whole in let f = length-append first (drop (length first) ids) in omega arith

  pub later_set : IsSet (ids ++ more) → IsSet (drop (length first) ids ++ more)
  later_set set =
      let e : drop (length first) (ids ++ more) ≡ drop (length first) ids ++ more = drop-append-le (length first) ids more front_most in
      let long = ap length e in
      let size = length-drop (length first) (ids ++ more) in
      let few = set.few in
      record { few = omega arith; rising = subst (IsRising 0 (2 ^ 32)) e (rising_drop 0 (2 ^ 32) (length first) (ids ++ more) set.rising) }
