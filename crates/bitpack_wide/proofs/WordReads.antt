-- A wide set in words without a fault is the encoding of the ids that are read from it.
use Rattle.std.proofs.Common.{◌≡◌, ℕ, zero, suc, ◌+◌, ◌-◌, ◌*◌, ◌^◌, ◌<◌, ◌≤◌, List, ◌∷◌, ◌++◌, map, take, drop, length, get_or, refl, sym, ap, ◌∙◌, arith, length-drop}
use Rattle.std.specs.List.{concat, flat_map, range_with_len}
use Rattle.std.proofs.lemmas.List.{drop_more, take_all}
use Rattle.std.proofs.lemmas.List.FromFn.{length-map-range_with_len}
use Rattle.bitpack_groups.specs.Numbers.{byte_count, number, short_at}
use Rattle.bitpack_slices.proofs.ForCallers.{EachByte, byte_of, bytes_dropped, bytes_taken, counts, join_rises, keys, number_bits, parts_join, total}
use Rattle.bitpack_slices.specs.Bodies.{IsRising, le_bytes}
use Rattle.bitpack_slices.specs.Slices.{number_of}
use Rattle.bitpack_sets.proofs.ForCallers.{Grows, before_next, bytes_cut, ids_are_read, map_map, map_same, short_is, shorts_all, step_of, steps_summed, steps_taken, steps_total}
use Rattle.bitpack_sets.specs.Reads as set_reads
use Rattle.bitpack_sets.specs.Sets as sets
use Rattle.bitpack_sets.specs.Sets.{IsSet, sums}
use Rattle.bitpack_wide.proofs.EntryLaws.{body_len, ends_grow, sums_grow}
use Rattle.bitpack_wide.proofs.WordLaws.{Words, after_counts, ends, total_ids, words_parts}
use Rattle.bitpack_wide.proofs.WordLaws as encodings
use Rattle.bitpack_wide.specs.Directory.{before, bodies_end, bodies_start, body_at, end_at, end_size, high_at, size_at, sum_at, sum_size, word_at, word_ids}
use Rattle.bitpack_wide.specs.Sound.{IsRest}
use Rattle.bitpack_wide.specs.Wide.{bodies, in_words, words_of}

-- ---- the words that are read

module _ (ids words : ℕ) (rest : List ℕ) (are : EachByte rest) (is : IsRest ids words rest) where
  abbrev pub words_in : List (ℕ × List ℕ)
  words_in = map (word_at words rest) (range_with_len 0 words)

  abbrev pub start : ℕ
  start = bodies_start words rest

  fits : bodies_end words rest ≤ length rest
  fits = let e = is.end in omega arith

  long : (m : ℕ) → m < words → length (body_at words rest m) ≡ size_at words rest m
  long m lt = body_len ids words rest m is.entries fits lt

  pub high_small : (m : ℕ) → m < words → high_at rest m < 2 ^ 32
  high_small m lt =
      let room = is.directory.room in
      let e : short_at 4 (drop 1 rest) m ≡ number_of (take 4 (drop (4 * m) (drop 1 rest))) = short_is 4 m (drop 1 rest) (omega (arith, length-drop 1 rest)) in
      let below : number_of (take 4 (drop (4 * m) (drop 1 rest))) < 2 ^ (8 * 4) = number_bits 4 (drop (4 * m) (drop 1 rest)) (bytes_dropped (4 * m) (drop 1 rest) (bytes_dropped 1 rest are)) in
      omega arith

  -- the low words of a high word are an id set
  pub low_set : (m : ℕ) → m < words → IsSet (set_reads.ids_in (body_at words rest m)) × (sets.encoding (set_reads.ids_in (body_at words rest m)) ≡ body_at words rest m)
  low_set m lt =
      let from : ℕ = start + before (end_at words rest) m in
      ids_are_read (body_at words rest m) (byte_of (body_at words rest m) (bytes_taken (size_at words rest m) (drop from rest) (bytes_dropped from rest are))) (is.bodies m lt).none

  -- they are parts
  from_word : (m k low : ℕ) → m + k ≤ words → low ≤ 2 ^ 32 → (0 < k → low ≤ high_at rest m) → Words low (map (word_at words rest) (range_with_len m k))
  from_word m zero low h top first = top
  from_word m (suc k) low h top first =
      let lt : m < words = omega arith in
      let some = (is.entries m lt).some in
      let many = (is.bodies m lt).count in
      let small = high_small m lt in (
        first (omega arith),
        omega arith,
        (low_set m lt).0.rising,
        from_word (m + 1) k (high_at rest m + 1) (omega arith) (omega arith)
            (λ more. let up = (is.entries (m + 1) (omega arith)).key (omega arith) in let next = before_next (high_at rest) m in omega arith),
      )

  pub are_words : Words 0 words_in
  are_words = from_word 0 words 0 (omega arith) (omega arith) (λ h. omega arith)

  highs_in : keys words_in ≡ map (high_at rest) (range_with_len 0 words)
  highs_in = map_map (λ (part : ℕ × List ℕ). part.0) (word_at words rest) 0 words

  pub counts_in : counts words_in ≡ map (step_of (sum_at words rest)) (range_with_len 0 words)
  counts_in =
      map_map (λ (part : ℕ × List ℕ). length part.1) (word_at words rest) 0 words
      ∙ map_same (λ m. length (set_reads.ids_in (body_at words rest m))) (step_of (sum_at words rest)) 0 words (λ i low high. (is.bodies i (omega arith)).count)

  bodies_in : bodies words_in ≡ map (body_at words rest) (range_with_len 0 words)
  bodies_in =
      map_map (λ (part : ℕ × List ℕ). sets.encoding part.1) (word_at words rest) 0 words
      ∙ map_same (λ m. sets.encoding (set_reads.ids_in (body_at words rest m))) (body_at words rest) 0 words (λ i low high. (low_set i (omega arith)).1)

  sizes_in : map length (bodies words_in) ≡ map (step_of (end_at words rest)) (range_with_len 0 words)
  sizes_in =
      ap (map length) bodies_in ∙ map_map length (body_at words rest) 0 words
      ∙ map_same (λ m. length (body_at words rest m)) (step_of (end_at words rest)) 0 words (λ i low high. long i (omega arith))

  pub sums_up : Grows (sum_at words rest) 0 words
  sums_up = sums_grow ids words rest is.entries

  ends_up : Grows (end_at words rest) 0 words
  ends_up = ends_grow ids words rest is.entries

  pub last_sum : (c : ℕ) → c ≡ words → before (sum_at words rest) c ≡ ids
  last_sum zero e = let some = is.some in absurd (omega arith)
  last_sum (suc c) e = let lt : c < words = omega arith in (is.entries c lt).last (omega arith)

  pub total_is : total (counts words_in) ≡ ids
  total_is =
      let all = steps_total (sum_at words rest) 0 words sums_up in
      let e : 0 + words ≡ words = omega arith in
      ap total counts_in ∙ sym (zero_add (total (map (step_of (sum_at words rest)) (range_with_len 0 words)))) ∙ all ∙ ap (before (sum_at words rest)) e ∙ last_sum words refl
    where
      zero_add : (n : ℕ) → 0 + n ≡ n
      zero_add n = omega arith

  pub count_is : length words_in ≡ words
  count_is = length-map-range_with_len (word_at words rest) 0 words

  -- ---- their encoding

  bodies_encoding : concat (bodies words_in) ≡ drop start rest
  bodies_encoding =
      let e : 0 + words ≡ words = omega arith in
      let here : start + before (end_at words rest) 0 ≡ start = omega arith in
      let size : before (end_at words rest) (0 + words) - before (end_at words rest) 0 ≡ length (drop start rest) = (let all = is.end in let f = ap (before (end_at words rest)) e in omega (arith, length-drop start rest)) in
      ap concat bodies_in ∙ steps_taken (end_at words rest) start 0 words rest ends_up
      ∙ ap (λ (n : ℕ). take (before (end_at words rest) (0 + words) - before (end_at words rest) 0) (drop n rest)) here
      ∙ ap (λ (n : ℕ). take n (drop start rest)) size ∙ take_all (length (drop start rest)) (drop start rest) (omega arith)

  end_size_is : encodings.end_size words_in ≡ end_size rest
  end_size_is =
      let all = is.end in
      let size : length (concat (bodies words_in)) ≡ before (end_at words rest) words = ap length bodies_encoding ∙ omega (arith, length-drop start rest) in
      ap byte_count size ∙ sym is.end_least

  ends_in : ends words_in ≡ map (end_at words rest) (range_with_len 0 words)
  ends_in = ap (sums 0) sizes_in ∙ steps_summed (end_at words rest) 0 words ends_up

  sums_in : sums 0 (counts words_in) ≡ map (sum_at words rest) (range_with_len 0 words)
  sums_in = ap (sums 0) counts_in ∙ steps_summed (sum_at words rest) 0 words sums_up

  pub highs_encoding : flat_map (le_bytes 4) (keys words_in) ≡ take (4 * words) (drop 1 rest)
  highs_encoding =
      let room = is.directory.room in
      ap (flat_map (le_bytes 4)) highs_in ∙ shorts_all 4 words (drop 1 rest) (bytes_dropped 1 rest are) (omega (arith, length-drop 1 rest))

  ends_encoding : flat_map (le_bytes (encodings.end_size words_in)) (ends words_in) ≡ take (end_size rest * words) (drop (1 + 4 * words) rest)
  ends_encoding =
      let room = is.directory.room in
      ap (λ (n : ℕ). flat_map (le_bytes n) (ends words_in)) end_size_is ∙ ap (flat_map (le_bytes (end_size rest))) ends_in
      ∙ shorts_all (end_size rest) words (drop (1 + 4 * words) rest) (bytes_dropped (1 + 4 * words) rest are) (omega (arith, length-drop (1 + 4 * words) rest))

  sums_encoding : flat_map (le_bytes (byte_count ids)) (sums 0 (counts words_in)) ≡ take (sum_size rest * words) (drop (1 + (4 + end_size rest) * words) rest)
  sums_encoding =
      let room = is.directory.room in
      ap (λ (n : ℕ). flat_map (le_bytes n) (sums 0 (counts words_in))) (sym is.sum_least) ∙ ap (flat_map (le_bytes (sum_size rest))) sums_in
      ∙ shorts_all (sum_size rest) words (drop (1 + (4 + end_size rest) * words) rest) (bytes_dropped (1 + (4 + end_size rest) * words) rest are) (omega (arith, length-drop (1 + (4 + end_size rest) * words) rest))

  -- what is after the counts is the rest
  pub rest_encoding : after_counts ids words_in ≡ rest
  rest_encoding =
      let room = is.directory.room in
      let first : rest ≡ get_or rest 0 0 ∷ drop 1 rest = drop_more rest 0 0 (omega arith) in
      let sizes : encodings.end_size words_in + 16 * byte_count ids ≡ get_or rest 0 0 = (let a = end_size_is in let b = is.sum_least in omega arith) in
      let c1 = bytes_cut (sum_size rest * words) (1 + (4 + end_size rest) * words) start rest (omega arith) in
      let c2 = bytes_cut (end_size rest * words) (1 + 4 * words) (1 + (4 + end_size rest) * words) rest (omega arith) in
      let c3 = bytes_cut (4 * words) 1 (1 + 4 * words) rest refl in
      ap (λ (n : ℕ). n ∷ (flat_map (le_bytes 4) (keys words_in) ++ (flat_map (le_bytes (encodings.end_size words_in)) (ends words_in) ++ (flat_map (le_bytes (byte_count ids)) (sums 0 (counts words_in)) ++ concat (bodies words_in))))) sizes
      ∙ ap (λ (l : List ℕ). get_or rest 0 0 ∷ (flat_map (le_bytes 4) (keys words_in) ++ (flat_map (le_bytes (encodings.end_size words_in)) (ends words_in) ++ (flat_map (le_bytes (byte_count ids)) (sums 0 (counts words_in)) ++ l)))) bodies_encoding
      ∙ ap (λ (l : List ℕ). get_or rest 0 0 ∷ (flat_map (le_bytes 4) (keys words_in) ++ (flat_map (le_bytes (encodings.end_size words_in)) (ends words_in) ++ (l ++ drop start rest)))) sums_encoding
      ∙ ap (λ (l : List ℕ). get_or rest 0 0 ∷ (flat_map (le_bytes 4) (keys words_in) ++ (flat_map (le_bytes (encodings.end_size words_in)) (ends words_in) ++ l))) c1
      ∙ ap (λ (l : List ℕ). get_or rest 0 0 ∷ (flat_map (le_bytes 4) (keys words_in) ++ (l ++ drop (1 + (4 + end_size rest) * words) rest))) ends_encoding
      ∙ ap (λ (l : List ℕ). get_or rest 0 0 ∷ (flat_map (le_bytes 4) (keys words_in) ++ l)) c2
      ∙ ap (λ (l : List ℕ). get_or rest 0 0 ∷ (l ++ drop (1 + 4 * words) rest)) highs_encoding
      ∙ ap (λ (l : List ℕ). get_or rest 0 0 ∷ l) c3 ∙ sym first

  -- ---- their ids

  pub ids_words : words_of (word_ids words rest) ≡ words_in
  ids_words = parts_join (2 ^ 32) 0 (2 ^ 32) words_in are_words

  pub ids_count : length (word_ids words rest) ≡ ids
  ids_count = sym (total_ids (word_ids words rest)) ∙ ap (λ (ps : List (ℕ × List ℕ)). total (counts ps)) ids_words ∙ total_is

  pub ids_rise : IsRising 0 (2 ^ 64) (word_ids words rest)
  ids_rise = join_rises (2 ^ 32) 0 (2 ^ 32) words_in are_words

  pub ids_encoding : in_words (word_ids words rest) ≡ 8 ∷ (number ids ++ (number words ++ rest))
  ids_encoding =
      let ps : List (ℕ × List ℕ) = words_of (word_ids words rest) in
      words_parts (word_ids words rest)
      ∙ ap (λ (n : ℕ). 8 ∷ (number n ++ (number (length ps) ++ after_counts n ps))) ids_count
      ∙ ap (λ (qs : List (ℕ × List ℕ)). 8 ∷ (number ids ++ (number (length qs) ++ after_counts ids qs))) ids_words
      ∙ ap (λ (n : ℕ). 8 ∷ (number ids ++ (number n ++ after_counts ids words_in))) count_is
      ∙ ap (λ (l : List ℕ). 8 ∷ (number ids ++ (number words ++ l))) rest_encoding
