-- A set in chunks without a fault is the encoding of the ids that are read from it.
use Rattle.std.proofs.Common.{◌≡◌, ℕ, zero, suc, ◌+◌, ◌-◌, ◌*◌, ◌^◌, ◌<◌, ◌≤◌, List, ◌∷◌, ◌++◌, map, take, drop, length, get_or, refl, sym, ap, ◌∙◌, arith, length-drop, take-append-drop}
use Rattle.std.specs.List.{concat, flat_map, range_with_len}
use Rattle.std.proofs.lemmas.List.{drop-drop, drop_more, take_all}
use Rattle.std.proofs.lemmas.List.FromFn.{length-map-range_with_len}
use Rattle.bitpack_slices.proofs.ForCallers.{AreParts, EachByte, bytes_dropped, counts, keys, number_bits, total}
use Rattle.bitpack_sets.proofs.lemmas.faults.EntryLaws.{body_len, ends_grow, sums_grow}
use Rattle.bitpack_slices.proofs.ForCallers.{join_rises, parts_join}
use Rattle.bitpack_sets.proofs.lemmas.encodings.LongLaws.{after_counts, bodies, ends, join_len, long_parts}
use Rattle.bitpack_sets.proofs.lemmas.encodings.LongLaws as encodings
use Rattle.bitpack_sets.proofs.lemmas.encodings.ShortLaws.{Grows, before_next, map_map, map_same, short_is, shorts_back, step_of, steps_summed, steps_taken, steps_total}
use Rattle.bitpack_sets.specs.Directory.{before, bodies_end, bodies_start, body_at, body_numbers_of, chunk_at, chunk_ids, count_at, end_at, end_size, key_at, size_at, sum_at, sum_size}
use Rattle.bitpack_slices.specs.Bodies.{IsRising, le_bytes, parts}
use Rattle.bitpack_sets.specs.Sets.{body, in_chunks, sums}
use Rattle.bitpack_slices.specs.Slices.{number_of}
use Rattle.bitpack_sets.specs.Sound.{IsRest}
use Rattle.bitpack_sets.specs.Varints.{byte_count, number, short_at}

-- a part of bytes and what is after it
pub bytes_cut : (n from to : ℕ) (bytes : List ℕ) → to ≡ from + n → take n (drop from bytes) ++ drop to bytes ≡ drop from bytes
bytes_cut n from to bytes e =
    ap (λ (m : ℕ). take n (drop from bytes) ++ drop m bytes) e ∙ ap (λ (l : List ℕ). take n (drop from bytes) ++ l) (sym (drop-drop n from bytes))
    ∙ take-append-drop n (drop from bytes)

-- integers from the first on
pub shorts_all : (size k : ℕ) (bytes : List ℕ) → EachByte bytes → size * k ≤ length bytes → flat_map (le_bytes size) (map (short_at size bytes) (range_with_len 0 k)) ≡ take (size * k) bytes
shorts_all size k bytes are h =
    let none : size * 0 ≡ 0 = omega arith in
    shorts_back size 0 k bytes are (omega arith) ∙ ap (λ (n : ℕ). take (size * k) (drop n bytes)) none

-- ---- the chunks that are read

module _ (ids chunks : ℕ) (rest : List ℕ) (are : EachByte rest) (is : IsRest ids chunks rest) where
  abbrev pub chunks_in : List (ℕ × List ℕ)
  chunks_in = map (chunk_at chunks rest) (range_with_len 0 chunks)

  abbrev pub start : ℕ
  start = bodies_start chunks rest

  fits : bodies_end chunks rest ≤ length rest
  fits = let e = is.end in omega arith

  long : (m : ℕ) → m < chunks → length (body_at chunks rest m) ≡ size_at chunks rest m
  long m lt = body_len ids chunks rest m is.entries fits lt

  pub key_small : (m : ℕ) → m < chunks → key_at rest m < 65536
  key_small m lt =
      let room = is.directory.room in
      let e : short_at 2 (drop 1 rest) m ≡ number_of (take 2 (drop (2 * m) (drop 1 rest))) = short_is 2 m (drop 1 rest) (omega (arith, length-drop 1 rest)) in
      let below : number_of (take 2 (drop (2 * m) (drop 1 rest))) < 2 ^ (8 * 2) = number_bits 2 (drop (2 * m) (drop 1 rest)) (bytes_dropped (2 * m) (drop 1 rest) (bytes_dropped 1 rest are)) in
      omega arith

  -- they are parts
  pub from_chunk : (m k low : ℕ) → m + k ≤ chunks → low ≤ 65536 → (0 < k → low ≤ key_at rest m) → AreParts 65536 low 65536 (map (chunk_at chunks rest) (range_with_len m k))
  from_chunk m zero low h top first = top
  from_chunk m (suc k) low h top first =
      let lt : m < chunks = omega arith in
      let some = (is.entries m lt).some in
      let read = is.bodies m lt in
      let many = read.count_is in
      let small = key_small m lt in (
        first (omega arith),
        omega arith,
        read.rising,
        from_chunk (m + 1) k (key_at rest m + 1) (omega arith) (omega arith)
            (λ more. let up = (is.entries (m + 1) (omega arith)).key (omega arith) in let next = before_next (key_at rest) m in omega arith),
      )

  pub are_parts : AreParts 65536 0 65536 chunks_in
  are_parts = from_chunk 0 chunks 0 (omega arith) (omega arith) (λ h. omega arith)

  keys_in : keys chunks_in ≡ map (key_at rest) (range_with_len 0 chunks)
  keys_in = map_map (λ (part : ℕ × List ℕ). part.0) (chunk_at chunks rest) 0 chunks

  pub counts_in : counts chunks_in ≡ map (step_of (sum_at chunks rest)) (range_with_len 0 chunks)
  counts_in =
      map_map (λ (part : ℕ × List ℕ). length part.1) (chunk_at chunks rest) 0 chunks
      ∙ map_same (λ m. length (body_numbers_of (count_at chunks rest m) (body_at chunks rest m))) (step_of (sum_at chunks rest)) 0 chunks (λ i low high. (is.bodies i (omega arith)).count_is)

  bodies_in : bodies chunks_in ≡ map (body_at chunks rest) (range_with_len 0 chunks)
  bodies_in =
      map_map (λ (part : ℕ × List ℕ). body part.1) (chunk_at chunks rest) 0 chunks
      ∙ map_same (λ m. body (body_numbers_of (count_at chunks rest m) (body_at chunks rest m))) (body_at chunks rest) 0 chunks (λ i low high. (is.bodies i (omega arith)).encoding)

  sizes_in : map length (bodies chunks_in) ≡ map (step_of (end_at chunks rest)) (range_with_len 0 chunks)
  sizes_in =
      ap (map length) bodies_in ∙ map_map length (body_at chunks rest) 0 chunks
      ∙ map_same (λ m. length (body_at chunks rest m)) (step_of (end_at chunks rest)) 0 chunks (λ i low high. long i (omega arith))

  sums_up : Grows (sum_at chunks rest) 0 chunks
  sums_up = sums_grow ids chunks rest is.entries

  ends_up : Grows (end_at chunks rest) 0 chunks
  ends_up = ends_grow ids chunks rest is.entries

  last_sum : (c : ℕ) → c ≡ chunks → before (sum_at chunks rest) c ≡ ids
  last_sum zero e = let some = is.some in absurd (omega arith)
  last_sum (suc c) e = let lt : c < chunks = omega arith in (is.entries c lt).last (omega arith)

  pub total_is : total (counts chunks_in) ≡ ids
  total_is =
      let all = steps_total (sum_at chunks rest) 0 chunks sums_up in
      let e : 0 + chunks ≡ chunks = omega arith in
      ap total counts_in ∙ sym (zero_add (total (map (step_of (sum_at chunks rest)) (range_with_len 0 chunks)))) ∙ all ∙ ap (before (sum_at chunks rest)) e ∙ last_sum chunks refl
    where
      zero_add : (n : ℕ) → 0 + n ≡ n
      zero_add n = omega arith

  pub count_is : length chunks_in ≡ chunks
  count_is = length-map-range_with_len (chunk_at chunks rest) 0 chunks

  -- ---- their encoding

  bodies_encoding : concat (bodies chunks_in) ≡ drop start rest
  bodies_encoding =
      let e : 0 + chunks ≡ chunks = omega arith in
      let here : start + before (end_at chunks rest) 0 ≡ start = omega arith in
      let size : before (end_at chunks rest) (0 + chunks) - before (end_at chunks rest) 0 ≡ length (drop start rest) = (let all = is.end in let f = ap (before (end_at chunks rest)) e in omega (arith, length-drop start rest)) in
      ap concat bodies_in ∙ steps_taken (end_at chunks rest) start 0 chunks rest ends_up
      ∙ ap (λ (n : ℕ). take (before (end_at chunks rest) (0 + chunks) - before (end_at chunks rest) 0) (drop n rest)) here
      ∙ ap (λ (n : ℕ). take n (drop start rest)) size ∙ take_all (length (drop start rest)) (drop start rest) (omega arith)

  end_size_is : encodings.end_size chunks_in ≡ end_size rest
  end_size_is =
      let all = is.end in
      let size : length (concat (bodies chunks_in)) ≡ before (end_at chunks rest) chunks = ap length bodies_encoding ∙ omega (arith, length-drop start rest) in
      ap byte_count size ∙ sym is.end_least

  ends_in : ends chunks_in ≡ map (end_at chunks rest) (range_with_len 0 chunks)
  ends_in = ap (sums 0) sizes_in ∙ steps_summed (end_at chunks rest) 0 chunks ends_up

  sums_in : sums 0 (counts chunks_in) ≡ map (sum_at chunks rest) (range_with_len 0 chunks)
  sums_in = ap (sums 0) counts_in ∙ steps_summed (sum_at chunks rest) 0 chunks sums_up

  pub keys_encoding : flat_map (le_bytes 2) (keys chunks_in) ≡ take (2 * chunks) (drop 1 rest)
  keys_encoding =
      let room = is.directory.room in
      ap (flat_map (le_bytes 2)) keys_in ∙ shorts_all 2 chunks (drop 1 rest) (bytes_dropped 1 rest are) (omega (arith, length-drop 1 rest))

  ends_encoding : flat_map (le_bytes (encodings.end_size chunks_in)) (ends chunks_in) ≡ take (end_size rest * chunks) (drop (1 + 2 * chunks) rest)
  ends_encoding =
      let room = is.directory.room in
      ap (λ (n : ℕ). flat_map (le_bytes n) (ends chunks_in)) end_size_is ∙ ap (flat_map (le_bytes (end_size rest))) ends_in
      ∙ shorts_all (end_size rest) chunks (drop (1 + 2 * chunks) rest) (bytes_dropped (1 + 2 * chunks) rest are) (omega (arith, length-drop (1 + 2 * chunks) rest))

  sums_encoding : flat_map (le_bytes (byte_count ids)) (sums 0 (counts chunks_in)) ≡ take (sum_size rest * chunks) (drop (1 + (2 + end_size rest) * chunks) rest)
  sums_encoding =
      let room = is.directory.room in
      ap (λ (n : ℕ). flat_map (le_bytes n) (sums 0 (counts chunks_in))) (sym is.sum_least) ∙ ap (flat_map (le_bytes (sum_size rest))) sums_in
      ∙ shorts_all (sum_size rest) chunks (drop (1 + (2 + end_size rest) * chunks) rest) (bytes_dropped (1 + (2 + end_size rest) * chunks) rest are) (omega (arith, length-drop (1 + (2 + end_size rest) * chunks) rest))

  -- what is after the counts is the rest
  pub rest_encoding : after_counts ids chunks_in ≡ rest
  rest_encoding =
      let room = is.directory.room in
      let first : rest ≡ get_or rest 0 0 ∷ drop 1 rest = drop_more rest 0 0 (omega arith) in
      let sizes : encodings.end_size chunks_in + 16 * byte_count ids ≡ get_or rest 0 0 = (let a = end_size_is in let b = is.sum_least in omega arith) in
      let c1 = bytes_cut (sum_size rest * chunks) (1 + (2 + end_size rest) * chunks) start rest (omega arith) in
      let c2 = bytes_cut (end_size rest * chunks) (1 + 2 * chunks) (1 + (2 + end_size rest) * chunks) rest (omega arith) in
      let c3 = bytes_cut (2 * chunks) 1 (1 + 2 * chunks) rest refl in
      ap (λ (n : ℕ). n ∷ (flat_map (le_bytes 2) (keys chunks_in) ++ (flat_map (le_bytes (encodings.end_size chunks_in)) (ends chunks_in) ++ (flat_map (le_bytes (byte_count ids)) (sums 0 (counts chunks_in)) ++ concat (bodies chunks_in))))) sizes
      ∙ ap (λ (l : List ℕ). get_or rest 0 0 ∷ (flat_map (le_bytes 2) (keys chunks_in) ++ (flat_map (le_bytes (encodings.end_size chunks_in)) (ends chunks_in) ++ (flat_map (le_bytes (byte_count ids)) (sums 0 (counts chunks_in)) ++ l)))) bodies_encoding
      ∙ ap (λ (l : List ℕ). get_or rest 0 0 ∷ (flat_map (le_bytes 2) (keys chunks_in) ++ (flat_map (le_bytes (encodings.end_size chunks_in)) (ends chunks_in) ++ (l ++ drop start rest)))) sums_encoding
      ∙ ap (λ (l : List ℕ). get_or rest 0 0 ∷ (flat_map (le_bytes 2) (keys chunks_in) ++ (flat_map (le_bytes (encodings.end_size chunks_in)) (ends chunks_in) ++ l))) c1
      ∙ ap (λ (l : List ℕ). get_or rest 0 0 ∷ (flat_map (le_bytes 2) (keys chunks_in) ++ (l ++ drop (1 + (2 + end_size rest) * chunks) rest))) ends_encoding
      ∙ ap (λ (l : List ℕ). get_or rest 0 0 ∷ (flat_map (le_bytes 2) (keys chunks_in) ++ l)) c2
      ∙ ap (λ (l : List ℕ). get_or rest 0 0 ∷ (l ++ drop (1 + 2 * chunks) rest)) keys_encoding
      ∙ ap (λ (l : List ℕ). get_or rest 0 0 ∷ l) c3 ∙ sym first

  -- ---- their ids

  pub ids_parts : parts 65536 (chunk_ids chunks rest) ≡ chunks_in
  ids_parts = parts_join 65536 0 65536 chunks_in are_parts

  pub ids_count : length (chunk_ids chunks rest) ≡ ids
  ids_count = join_len chunks_in ∙ total_is

  pub ids_rise : IsRising 0 (2 ^ 32) (chunk_ids chunks rest)
  ids_rise = join_rises 65536 0 65536 chunks_in are_parts

  pub ids_encoding : in_chunks (chunk_ids chunks rest) ≡ 5 ∷ (number ids ++ (number chunks ++ rest))
  ids_encoding =
      let ps : List (ℕ × List ℕ) = parts 65536 (chunk_ids chunks rest) in
      long_parts (chunk_ids chunks rest)
      ∙ ap (λ (n : ℕ). 5 ∷ (number n ++ (number (length ps) ++ after_counts n ps))) ids_count
      ∙ ap (λ (qs : List (ℕ × List ℕ)). 5 ∷ (number ids ++ (number (length qs) ++ after_counts ids qs))) ids_parts
      ∙ ap (λ (n : ℕ). 5 ∷ (number ids ++ (number n ++ after_counts ids chunks_in))) count_is
      ∙ ap (λ (l : List ℕ). 5 ∷ (number ids ++ (number chunks ++ l))) rest_encoding
