-- The encoding of ids in words has no fault, and the ids are read from it.
use Rattle.std.proofs.Common.{◌≡◌, ℕ, zero, suc, ◌+◌, ◌*◌, ◌^◌, ◌<◌, ◌≤◌, List, [], ◌∷◌, ◌++◌, map, take, drop, length, get_or, None, refl, sym, ap, ◌∙◌, arith, length-append}
use Rattle.std.specs.List.{concat, flat_map, range_with_len}
use Rattle.std.proofs.lemmas.Bool.{le-ltb}
use Rattle.std.proofs.lemmas.List.{drop-drop, drop_at, length-map}
use Rattle.bitpacking.specs.Bits.{AreBytes}
use Rattle.bitpack_groups.proofs.ForCallers.{count_fits}
use Rattle.bitpack_groups.specs.Numbers.{byte_count, short_at}
use Rattle.bitpack_slices.proofs.ForCallers.{EachByte, bytes_are, counts, flat_len, keys, none, total}
use Rattle.bitpack_slices.specs.Bodies.{le_bytes}
use Rattle.bitpack_sets.proofs.ForCallers.{concat_len, concat_part, count_bytes, counts_len, each_append, each_flat, encoding_is_read, get_map, get_size, longest_encoding, none_or, short_written, some_not, sum_get, sums_below, total_all, total_more}
use Rattle.bitpack_sets.specs.Faults as set_faults
use Rattle.bitpack_sets.specs.Reads as set_reads
use Rattle.bitpack_sets.specs.Sets as sets
use Rattle.bitpack_sets.specs.Sets.{IsSet, sums}
use Rattle.bitpack_wide.proofs.EntryLaws.{none_body, none_entry, none_first, none_loose, none_sizes}
use Rattle.bitpack_wide.proofs.WordLaws.{EachSet, Words, after_counts, each_set, ends, ends_below, ends_len, highs_below, set_some}
use Rattle.bitpack_wide.proofs.WordLaws as encodings
use Rattle.bitpack_wide.specs.Directory.{before, bodies_end, bodies_start, body_at, count_at, end_at, end_size, high_at, size_at, sum_at, sum_size, word_at}
use Rattle.bitpack_wide.specs.Faults.{body_fault, entry_fault, words_fault}
use Rattle.bitpack_wide.specs.Sound.{IsBody, IsEntry}
use Rattle.bitpack_wide.specs.Wide.{bodies}
use Rattle.bitpack_wide.specs.declared.wide_error.WideError.TheVariants.{Short, Trailing}

get_body : (ps : List (ℕ × List ℕ)) (m : ℕ) → m < length ps → get_or (bodies ps) m [] ≡ sets.encoding (get_or ps m none).1
get_body [] m h = absurd (omega arith)
get_body (p ∷ ps) zero h = refl
get_body (p ∷ ps) (suc m) h = get_body ps m (omega arith)

part_is : (low : ℕ) (ps : List (ℕ × List ℕ)) (m : ℕ) → Words low ps → EachSet ps → m < length ps
    → (low ≤ (get_or ps m none).0) × (0 < length (get_or ps m none).1) × IsSet (get_or ps m none).1
part_is low [] m are each h = absurd (omega arith)
part_is low (p ∷ ps) zero (a, some, r, later) (some', is, each) h = (a, some, is)
part_is low (p ∷ ps) (suc m) (a, some, r, later) (some', is, each) h = let (b, c, d) = part_is (p.0 + 1) ps m later each (omega arith) in (omega arith, c, d)

high_up : (low : ℕ) (ps : List (ℕ × List ℕ)) (m : ℕ) → Words low ps → EachSet ps → suc m < length ps → (get_or ps m none).0 < (get_or ps (suc m) none).0
high_up low [] m are each h = absurd (omega arith)
high_up low (p ∷ ps) zero (a, some, r, later) (some', is, each) h = let (b, c, d) = part_is (p.0 + 1) ps 0 later each (omega arith) in omega arith
high_up low (p ∷ ps) (suc m) (a, some, r, later) (some', is, each) h = high_up (p.0 + 1) ps m later each (omega arith)

each_bytes : (bytes : List ℕ) → AreBytes bytes → EachByte bytes
each_bytes bytes are = bytes_are bytes are

each_bodies : (ps : List (ℕ × List ℕ)) → EachSet ps → EachByte (concat (bodies ps))
each_bodies [] each = tt
each_bodies (p ∷ ps) (some, is, each) = each_append (sets.encoding p.1) (concat (bodies ps)) (each_bytes (sets.encoding p.1) (encoding_is_read p.1 is).0) (each_bodies ps each)

-- a list by its items
listed : (f : ℕ → ℕ × List ℕ) (from : ℕ) (ps : List (ℕ × List ℕ)) → ((m : ℕ) → m < length ps → f (from + m) ≡ get_or ps m none) → map f (range_with_len from (length ps)) ≡ ps
listed f from [] h = refl
listed f from (p ∷ ps) h =
    let e : from + 0 ≡ from = omega arith in
    let first : f from ≡ p = ap f (sym e) ∙ h 0 (omega arith) in
    let next : (m : ℕ) → m < length ps → f (from + 1 + m) ≡ get_or ps m none = λ m lt.
    (let g : from + 1 + m ≡ from + suc m = omega arith in ap f g ∙ h (suc m) (omega arith)) in
    ap (λ (q : ℕ × List ℕ). q ∷ map f (range_with_len (from + 1) (length ps))) first ∙ ap (λ (qs : List (ℕ × List ℕ)). p ∷ qs) (listed f (from + 1) ps next)

-- ---- an encoding

module _ (n : ℕ) (ps : List (ℕ × List ℕ)) (are : Words 0 ps) (some : 0 < length ps) (near : 8 * length ps ≤ n) (few : n ≤ 2 ^ 28) (all : total (counts ps) ≡ n) where
  abbrev rest : List ℕ
  rest = after_counts n ps

  abbrev words : ℕ
  words = length ps

  abbrev sizes : List ℕ
  sizes = map length (bodies ps)

  abbrev K : List ℕ
  K = flat_map (le_bytes 4) (keys ps)

  abbrev N : List ℕ
  N = flat_map (le_bytes (encodings.end_size ps)) (ends ps)

  abbrev S : List ℕ
  S = flat_map (le_bytes (byte_count n)) (sums 0 (counts ps))

  abbrev B : List ℕ
  B = concat (bodies ps)

  each : EachSet ps
  each = each_set 0 ps are (omega arith)

  pub rest_bytes : EachByte rest
  rest_bytes =
      let (a, b) = count_bytes (length (concat (bodies ps))) in
      let (c, d) = count_bytes n in (
        omega arith,
        each_append _ _ (each_flat 4 (keys ps)) (each_append _ _ (each_flat (encodings.end_size ps) (ends ps)) (each_append _ _ (each_flat (byte_count n) (sums 0 (counts ps))) (each_bodies ps each))),
      )

  ends_are : end_size rest ≡ encodings.end_size ps
  ends_are = let (a, b) = count_bytes (length (concat (bodies ps))) in let (c, d) = count_bytes n in omega arith

  sums_are : sum_size rest ≡ byte_count n
  sums_are = let (a, b) = count_bytes (length (concat (bodies ps))) in let (c, d) = count_bytes n in omega arith

  high_len : length K ≡ 4 * words
  high_len = flat_len 4 (keys ps) ∙ ap (λ (m : ℕ). 4 * m) (length-map ps (λ part. part.0))

  end_len : length N ≡ encodings.end_size ps * words
  end_len = flat_len (encodings.end_size ps) (ends ps) ∙ ap (λ (m : ℕ). encodings.end_size ps * m) (ends_len ps)

  sum_len : length S ≡ byte_count n * words
  sum_len = flat_len (byte_count n) (sums 0 (counts ps)) ∙ ap (λ (m : ℕ). byte_count n * m) (counts_len ps)

  skip : (a : ℕ) (l : List ℕ) (x : ℕ) → drop (1 + a) (x ∷ l) ≡ drop a l
  skip a l x = let e : 1 + a ≡ suc a = omega arith in ap (λ (m : ℕ). drop m (x ∷ l)) e

  after_highs : drop (1 + 4 * words) rest ≡ N ++ (S ++ B)
  after_highs = skip (4 * words) (K ++ (N ++ (S ++ B))) (encodings.end_size ps + 16 * byte_count n) ∙ drop_at K (N ++ (S ++ B)) (4 * words) high_len

  after_ends : drop (1 + (4 + end_size rest) * words) rest ≡ S ++ B
  after_ends =
      let e : 1 + (4 + end_size rest) * words ≡ 1 + 4 * words + encodings.end_size ps * words = ap (λ (m : ℕ). 1 + (4 + m) * words) ends_are ∙ grind arith in
      ap (λ (m : ℕ). drop m rest) e ∙ sym (drop-drop (encodings.end_size ps * words) (1 + 4 * words) rest) ∙ ap (drop (encodings.end_size ps * words)) after_highs ∙ drop_at N (S ++ B) (encodings.end_size ps * words) end_len

  start_is : bodies_start words rest ≡ 1 + (4 + end_size rest) * words + byte_count n * words
  start_is = ap (λ (m : ℕ). 1 + (4 + end_size rest + m) * words) sums_are ∙ grind arith

  after_sums : drop (bodies_start words rest) rest ≡ B
  after_sums =
      ap (λ (m : ℕ). drop m rest) start_is ∙ sym (drop-drop (byte_count n * words) (1 + (4 + end_size rest) * words) rest) ∙ ap (drop (byte_count n * words)) after_ends
      ∙ drop_at S B (byte_count n * words) sum_len

  rest_len : length rest ≡ bodies_start words rest + length B
  rest_len =
      let a = length-append K (N ++ (S ++ B)) in
      let b = length-append N (S ++ B) in
      let c = length-append S B in
      let k = high_len in
      let e = end_len in
      let s = sum_len in
      let st : bodies_start words rest ≡ 1 + (4 + encodings.end_size ps + byte_count n) * words = start_is ∙ ap (λ (m : ℕ). 1 + (4 + m) * words + byte_count n * words) ends_are ∙ grind arith in
      omega arith

  -- ---- what is read

  read_high : (m : ℕ) → m < words → high_at rest m ≡ (get_or ps m none).0
  read_high m lt =
      let within : m < length (keys ps) = omega (arith, length-map ps (λ (part : ℕ × List ℕ). part.0)) in
      short_written 4 m (keys ps) (N ++ (S ++ B)) (highs_below 0 ps are) within ∙ get_map (λ part. part.0) ps m lt

  zero_add : (x : ℕ) → 0 + x ≡ x
  zero_add x = omega arith

  read_end : (m : ℕ) → m < words → end_at words rest m ≡ total (take (suc m) sizes)
  read_end m lt =
      let long = ends_len ps in
      let within : m < length (ends ps) = omega arith in
      let here : m < length sizes = omega (arith, length-map (bodies ps) length, length-map ps (λ (part : ℕ × List ℕ). sets.encoding part.1)) in
      ap (λ (z : ℕ). short_at z (drop (1 + 4 * words) rest) m) ends_are ∙ ap (λ (l : List ℕ). short_at (encodings.end_size ps) l m) after_highs
      ∙ short_written (encodings.end_size ps) m (ends ps) (S ++ B) (ends_below n ps each few near all) within ∙ sum_get 0 sizes m here ∙ zero_add (total (take (suc m) sizes))

  read_sum : (m : ℕ) → m < words → sum_at words rest m ≡ total (take (suc m) (counts ps))
  read_sum m lt =
      let long = counts_len ps in
      let within : m < length (sums 0 (counts ps)) = omega arith in
      let here : m < length (counts ps) = omega (arith, length-map ps (λ (part : ℕ × List ℕ). length part.1)) in
      let fits : n < 256 ^ byte_count n = count_fits n (omega arith) in
      ap (λ (z : ℕ). short_at z (drop (1 + (4 + end_size rest) * words) rest) m) sums_are ∙ ap (λ (l : List ℕ). short_at (byte_count n) l m) after_ends
      ∙ short_written (byte_count n) m (sums 0 (counts ps)) B (sums_below 0 (256 ^ byte_count n) (counts ps) (omega arith)) within ∙ sum_get 0 (counts ps) m here ∙ zero_add (total (take (suc m) (counts ps)))

  end_before : (m : ℕ) → m ≤ words → before (end_at words rest) m ≡ total (take m sizes)
  end_before zero h = refl
  end_before (suc m) h = read_end m (omega arith)

  sum_before : (m : ℕ) → m ≤ words → before (sum_at words rest) m ≡ total (take m (counts ps))
  sum_before zero h = refl
  sum_before (suc m) h = read_sum m (omega arith)

  count_read : (m : ℕ) → m < words → count_at words rest m ≡ length (get_or ps m none).1
  count_read m lt =
      let here : m < length (counts ps) = omega (arith, length-map ps (λ (part : ℕ × List ℕ). length part.1)) in
      let a = read_sum m lt in
      let b = sum_before m (omega arith) in
      let c = total_more (counts ps) m here in
      let d = get_map (λ part. length part.1) ps m lt in
      omega arith

  size_read : (m : ℕ) → m < words → size_at words rest m ≡ length (sets.encoding (get_or ps m none).1)
  size_read m lt =
      let long : length (bodies ps) ≡ words = length-map ps (λ part. sets.encoding part.1) in
      let here : m < length sizes = omega (arith, length-map (bodies ps) length) in
      let a = read_end m lt in
      let b = end_before m (omega arith) in
      let c = total_more sizes m here in
      let d = get_size (bodies ps) m (omega arith) in
      let e = ap length (get_body ps m lt) in
      omega arith

  high_after : (m : ℕ) → m < words → 0 < m → before (high_at rest) m < high_at rest m
  high_after zero lt h = absurd (omega arith)
  high_after (suc m) lt h = let a = read_high m (omega arith) in let b = read_high (suc m) lt in let c = high_up 0 ps m are each lt in omega arith

  entry : (m : ℕ) → m < words → IsEntry n words rest m
  entry m lt =
      let (low, part_some, is) = part_is 0 ps m are each lt in
      let count = count_read m lt in
      let size = size_read m lt in
      let body_many = set_some (get_or ps m none).1 is in
      let body_few = longest_encoding (get_or ps m none).1 is in
      record {
        key = high_after m lt;
        some = omega arith;
        last = λ e.
            let long : length (counts ps) ≡ words = length-map ps (λ part. length part.1) in
            let whole = total_all (counts ps) (suc m) (omega arith) in
            read_sum m lt ∙ whole ∙ all;
        sized = omega arith;
        short = omega arith;
      }

  body_read : (m : ℕ) → m < words → body_at words rest m ≡ sets.encoding (get_or ps m none).1
  body_read m lt =
      let long : length (bodies ps) ≡ words = length-map ps (λ part. sets.encoding part.1) in
      let from = end_before m (omega arith) in
      let is = get_body ps m lt in
      ap (λ (z : ℕ). take z (drop (bodies_start words rest + before (end_at words rest) m) rest)) (size_read m lt ∙ ap length (sym is))
      ∙ ap (λ (z : ℕ). take (length (get_or (bodies ps) m [])) (drop (bodies_start words rest + z) rest)) from
      ∙ ap (take (length (get_or (bodies ps) m []))) (sym (drop-drop (total (take m sizes)) (bodies_start words rest) rest) ∙ ap (drop (total (take m sizes))) after_sums)
      ∙ concat_part (bodies ps) m (omega arith) ∙ is

  lows_read : (m : ℕ) → m < words → set_reads.ids_in (body_at words rest m) ≡ (get_or ps m none).1
  lows_read m lt =
      let (low, part_some, is) = part_is 0 ps m are each lt in
      ap set_reads.ids_in (body_read m lt) ∙ (encoding_is_read (get_or ps m none).1 is).2

  body : (m : ℕ) → m < words → IsBody words rest m
  body m lt =
      let (low, part_some, is) = part_is 0 ps m are each lt in
      record {
        none = ap set_faults.fault (body_read m lt) ∙ (encoding_is_read (get_or ps m none).1 is).1;
        count = ap length (lows_read m lt) ∙ sym (count_read m lt);
      }

  ends_all : before (end_at words rest) words ≡ length B
  ends_all =
      let long : length sizes ≡ words = length-map (bodies ps) length ∙ length-map ps (λ part. sets.encoding part.1) in
      let whole = total_all sizes words (omega arith) in
      end_before words (omega arith) ∙ whole ∙ sym (concat_len (bodies ps))

  pub rest_sound : words_fault n words rest ≡ None
  unfolding words_fault
  rest_sound =
      let (a, b) = count_bytes (length (concat (bodies ps))) in
      let (c, d) = count_bytes n in
      let e = ends_are in
      let s = sums_are in
      let long = rest_len in
      let whole = ends_all in
      none_or _ _ (none_sizes rest (omega arith) (omega arith) (omega arith) (omega arith) (omega arith))
      (none_or _ _ (some_not _ Short None (le-ltb (length rest) (bodies_start words rest) (omega arith)) refl)
      (none_or _ _ (none_first (entry_fault n words rest) words (λ m lt. none_entry n words rest m (entry m lt)))
      (none_or _ _ (none_loose n words rest (ends_are ∙ ap byte_count (sym ends_all)) sums_are)
      (none_or _ _ (some_not _ Short None (le-ltb (length rest) (bodies_end words rest) (omega arith)) refl)
      (none_or _ _ (none_first (body_fault words rest) words (λ m lt. none_body words rest m (body m lt)))
      (some_not _ Trailing None (le-ltb (bodies_end words rest) (length rest) (omega arith)) refl))))))

  -- the words are read
  pub words_read : map (word_at words rest) (range_with_len 0 words) ≡ ps
  words_read = listed (word_at words rest) 0 ps (λ m lt.
      let e : 0 + m ≡ m = omega arith in
      ap (word_at words rest) e ∙ ap (λ (h : ℕ). (h, set_reads.ids_in (body_at words rest m))) (read_high m lt) ∙ ap (λ (l : List ℕ). ((get_or ps m none).0, l)) (lows_read m lt))
