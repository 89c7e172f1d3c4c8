-- The encoding of ids in chunks has no fault.
use Rattle.std.proofs.Common.{◌≡◌, ℕ, zero, suc, ◌+◌, ◌*◌, ◌^◌, ◌<◌, ◌≤◌, List, [], ◌∷◌, ◌++◌, map, take, drop, length, get_or, None, refl, sym, ap, ◌∙◌, arith, subst, length-append, inl, inr}
use Rattle.std.specs.List.{concat, flat_map}
use Rattle.std.proofs.lemmas.Bool.{cases_lt, cond_above, cond_below, le-ltb}
use Rattle.std.proofs.lemmas.List.{drop-drop, drop_at, length-map, take_at}
use Rattle.bitpack_groups.proofs.ForCallers.{count_fits}
use Rattle.bitpack_sets.proofs.lemmas.faults.BodyFaults.{body_sound}
use Rattle.bitpack_sets.proofs.lemmas.encodings.BodyLaws.{body_blocks, body_numbers, body_runs, cases_few, numbers_len}
use Rattle.bitpack_sets.proofs.lemmas.encodings.ByteLaws.{each_body}
use Rattle.bitpack_sets.proofs.lemmas.faults.EntryLaws.{none_entry, none_first, none_loose, none_sizes}
use Rattle.bitpack_sets.proofs.lemmas.faults.FaultLaws.{none_or, some_not}
use Rattle.bitpack_slices.proofs.ForCallers.{AreParts, EachByte, counts, flat_len, keys, none, rising_room, runs_len, total}
use Rattle.bitpack_sets.proofs.lemmas.encodings.LongLaws.{after_counts, bodies, body_len, concat_len, counts_len, ends, ends_below, ends_len, keys_below, small, some_each, sums_below}
use Rattle.bitpack_sets.proofs.lemmas.encodings.LongLaws as encodings
use Rattle.bitpack_sets.proofs.lemmas.encodings.ShortLaws.{short_written}
use Rattle.bitpack_slices.proofs.ForCallers.{blocks_are_blocks}
use Rattle.bitpack_sets.specs.Directory.{before, bodies_end, bodies_start, body_at, count_at, end_at, end_size, key_at, size_at, sum_at, sum_size}
use Rattle.bitpack_sets.specs.Faults.{body_fault_at, chunks_fault, entry_fault}
use Rattle.bitpack_slices.specs.Bodies.{IsRising, blocks, le_bytes}
use Rattle.bitpack_slices.specs.Runs.{boundaries}
use Rattle.bitpack_sets.specs.Sets.{body, sums}
use Rattle.bitpack_sets.specs.Sound.{IsEntry}
use Rattle.bitpack_sets.specs.Varints.{byte_count, short_at}
use Rattle.bitpack_slices.specs.declared.set_error.SetError.TheVariants.{Short, Trailing}

-- ---- lists

pub get_map : (f : ℕ × List ℕ → ℕ) (ps : List (ℕ × List ℕ)) (m : ℕ) → m < length ps → get_or (map f ps) m 0 ≡ f (get_or ps m none)
get_map f [] m h = absurd (omega arith)
get_map f (p ∷ ps) zero h = refl
get_map f (p ∷ ps) (suc m) h = get_map f ps m (omega arith)

get_body : (ps : List (ℕ × List ℕ)) (m : ℕ) → m < length ps → get_or (bodies ps) m [] ≡ body (get_or ps m none).1
get_body [] m h = absurd (omega arith)
get_body (p ∷ ps) zero h = refl
get_body (p ∷ ps) (suc m) h = get_body ps m (omega arith)

pub get_size : (ls : List (List ℕ)) (m : ℕ) → m < length ls → get_or (map length ls) m 0 ≡ length (get_or ls m [])
get_size [] m h = absurd (omega arith)
get_size (l ∷ ls) zero h = refl
get_size (l ∷ ls) (suc m) h = get_size ls m (omega arith)

pub total_more : (xs : List ℕ) (m : ℕ) → m < length xs → total (take (suc m) xs) ≡ total (take m xs) + get_or xs m 0
total_more [] m h = absurd (omega arith)
total_more (x ∷ xs) zero h = omega arith
total_more (x ∷ xs) (suc m) h = let ih = total_more xs m (omega arith) in omega arith

pub total_all : (xs : List ℕ) (m : ℕ) → length xs ≤ m → total (take m xs) ≡ total xs
total_all [] zero h = refl
total_all [] (suc m) h = refl
total_all (x ∷ xs) zero h = absurd (omega arith)
total_all (x ∷ xs) (suc m) h = let ih = total_all xs m (omega arith) in omega arith

pub sum_get : (b : ℕ) (xs : List ℕ) (m : ℕ) → m < length xs → get_or (sums b xs) m 0 ≡ b + total (take (suc m) xs)
unfolding sums
sum_get b [] m h = absurd (omega arith)
sum_get b (x ∷ xs) zero h = omega arith
sum_get b (x ∷ xs) (suc m) h = let ih = sum_get (b + x) xs m (omega arith) in omega arith

pub concat_part : (ls : List (List ℕ)) (m : ℕ) → m < length ls → take (length (get_or ls m [])) (drop (total (take m (map length ls))) (concat ls)) ≡ get_or ls m []
concat_part [] m h = absurd (omega arith)
concat_part (l ∷ ls) zero h = take_at l (concat ls) (length l) refl
concat_part (l ∷ ls) (suc m) h =
    let skip : drop (length l + total (take m (map length ls))) (l ++ concat ls) ≡ drop (total (take m (map length ls))) (concat ls) =
    sym (drop-drop (total (take m (map length ls))) (length l) (l ++ concat ls)) ∙ ap (drop (total (take m (map length ls)))) (drop_at l (concat ls) (length l) refl) in
    ap (take (length (get_or ls m []))) skip ∙ concat_part ls m (omega arith)

-- ---- parts

part_is : (low : ℕ) (ps : List (ℕ × List ℕ)) (m : ℕ) → AreParts 65536 low 65536 ps → m < length ps
    → (low ≤ (get_or ps m none).0) × (0 < length (get_or ps m none).1) × IsRising 0 65536 (get_or ps m none).1
part_is low [] m are h = absurd (omega arith)
part_is low (p ∷ ps) zero (a, some, r, later) h = (a, some, r)
part_is low (p ∷ ps) (suc m) (a, some, r, later) h = let (b, c, d) = part_is (p.0 + 1) ps m later (omega arith) in (omega arith, c, d)

key_up : (low : ℕ) (ps : List (ℕ × List ℕ)) (m : ℕ) → AreParts 65536 low 65536 ps → suc m < length ps → (get_or ps m none).0 < (get_or ps (suc m) none).0
key_up low [] m are h = absurd (omega arith)
key_up low (p ∷ ps) zero (a, some, r, later) h = let (b, c, d) = part_is (p.0 + 1) ps 0 later (omega arith) in omega arith
key_up low (p ∷ ps) (suc m) (a, some, r, later) h = key_up (p.0 + 1) ps m later (omega arith)

abbrev pub Few : ℕ → Type 0
Few n = (1 ≤ n) × (n ≤ 4)

pub count_bytes : (x : ℕ) → Few (byte_count x)
count_bytes x = elim (cases_lt x (2 ^ 8)) [
  | inl a ↦ subst Few (cond_below x (2 ^ 8) 1 _ a) (omega arith, omega arith)
  | inr b ↦ elim (cases_lt x (2 ^ 16)) [
    | inl a ↦ subst Few (cond_above x (2 ^ 8) _ _ _ b (cond_below x (2 ^ 16) 2 _ a)) (omega arith, omega arith)
    | inr b' ↦ elim (cases_lt x (2 ^ 24)) [
      | inl a ↦ subst Few (cond_above x (2 ^ 8) _ _ _ b (cond_above x (2 ^ 16) _ _ _ b' (cond_below x (2 ^ 24) 3 4 a))) (omega arith, omega arith)
      | inr b'' ↦ subst Few (cond_above x (2 ^ 8) _ _ _ b (cond_above x (2 ^ 16) _ _ _ b' (cond_above x (2 ^ 24) _ _ _ b'' refl))) (omega arith, omega arith)
    ]
  ]
]

-- ---- an encoding

module _ (n : ℕ) (ps : List (ℕ × List ℕ)) (are : AreParts 65536 0 65536 ps) (some : 0 < length ps) (few : n ≤ 2 ^ 28) (all : total (counts ps) ≡ n) where
  abbrev rest : List ℕ
  rest = after_counts n ps

  abbrev chunks : ℕ
  chunks = length ps

  abbrev sizes : List ℕ
  sizes = map length (bodies ps)

  abbrev K : List ℕ
  K = flat_map (le_bytes 2) (keys ps)

  abbrev N : List ℕ
  N = flat_map (le_bytes (encodings.end_size ps)) (ends ps)

  abbrev S : List ℕ
  S = flat_map (le_bytes (byte_count n)) (sums 0 (counts ps))

  abbrev B : List ℕ
  B = concat (bodies ps)

  ends_are : end_size rest ≡ encodings.end_size ps
  ends_are = let (a, b) = count_bytes (length (concat (bodies ps))) in let (c, d) = count_bytes n in omega arith

  sums_are : sum_size rest ≡ byte_count n
  sums_are = let (a, b) = count_bytes (length (concat (bodies ps))) in let (c, d) = count_bytes n in omega arith

  key_len : length K ≡ 2 * chunks
  key_len = flat_len 2 (keys ps) ∙ ap (λ (m : ℕ). 2 * m) (length-map ps (λ part. part.0))

  end_len : length N ≡ encodings.end_size ps * chunks
  end_len = flat_len (encodings.end_size ps) (ends ps) ∙ ap (λ (m : ℕ). encodings.end_size ps * m) (ends_len ps)

  sum_len : length S ≡ byte_count n * chunks
  sum_len = flat_len (byte_count n) (sums 0 (counts ps)) ∙ ap (λ (m : ℕ). byte_count n * m) (counts_len ps)

  skip : (a : ℕ) (l : List ℕ) (x : ℕ) → drop (1 + a) (x ∷ l) ≡ drop a l
  skip a l x = let e : 1 + a ≡ suc a = omega arith in ap (λ (m : ℕ). drop m (x ∷ l)) e

  after_keys : drop (1 + 2 * chunks) rest ≡ N ++ (S ++ B)
  after_keys = skip (2 * chunks) (K ++ (N ++ (S ++ B))) (encodings.end_size ps + 16 * byte_count n) ∙ drop_at K (N ++ (S ++ B)) (2 * chunks) key_len

  after_ends : drop (1 + (2 + end_size rest) * chunks) rest ≡ S ++ B
  after_ends =
      let e : 1 + (2 + end_size rest) * chunks ≡ 1 + 2 * chunks + encodings.end_size ps * chunks = ap (λ (m : ℕ). 1 + (2 + m) * chunks) ends_are ∙ grind arith in
      ap (λ (m : ℕ). drop m rest) e ∙ sym (drop-drop (encodings.end_size ps * chunks) (1 + 2 * chunks) rest) ∙ ap (drop (encodings.end_size ps * chunks)) after_keys ∙ drop_at N (S ++ B) (encodings.end_size ps * chunks) end_len

  start_is : bodies_start chunks rest ≡ 1 + (2 + end_size rest) * chunks + byte_count n * chunks
  start_is = ap (λ (m : ℕ). 1 + (2 + end_size rest + m) * chunks) sums_are ∙ grind arith

  after_sums : drop (bodies_start chunks rest) rest ≡ B
  after_sums =
      ap (λ (m : ℕ). drop m rest) start_is ∙ sym (drop-drop (byte_count n * chunks) (1 + (2 + end_size rest) * chunks) rest) ∙ ap (drop (byte_count n * chunks)) after_ends
      ∙ drop_at S B (byte_count n * chunks) sum_len

  rest_len : length rest ≡ bodies_start chunks rest + length B
  rest_len =
      let a = length-append K (N ++ (S ++ B)) in
      let b = length-append N (S ++ B) in
      let c = length-append S B in
      let k = key_len in
      let e = end_len in
      let s = sum_len in
      let st : bodies_start chunks rest ≡ 1 + (2 + encodings.end_size ps + byte_count n) * chunks = start_is ∙ ap (λ (m : ℕ). 1 + (2 + m) * chunks + byte_count n * chunks) ends_are ∙ grind arith in
      omega arith

  -- ---- what is read

  read_key : (m : ℕ) → m < chunks → key_at rest m ≡ (get_or ps m none).0
  read_key m lt =
      let within : m < length (keys ps) = omega (arith, length-map ps (λ (part : ℕ × List ℕ). part.0)) in
      short_written 2 m (keys ps) (N ++ (S ++ B)) (keys_below 0 ps are) within ∙ get_map (λ part. part.0) ps m lt

  read_end : (m : ℕ) → m < chunks → end_at chunks rest m ≡ total (take (suc m) sizes)
  read_end m lt =
      let long = ends_len ps in
      let within : m < length (ends ps) = omega arith in
      let here : m < length sizes = omega (arith, length-map (bodies ps) length, length-map ps (λ (part : ℕ × List ℕ). body part.1)) in
      ap (λ (z : ℕ). short_at z (drop (1 + 2 * chunks) rest) m) ends_are ∙ ap (λ (l : List ℕ). short_at (encodings.end_size ps) l m) after_keys
      ∙ short_written (encodings.end_size ps) m (ends ps) (S ++ B) (ends_below n ps (some_each 65536 0 65536 ps are) few all) within ∙ sum_get 0 sizes m here ∙ zero_add (total (take (suc m) sizes))
    where
      zero_add : (x : ℕ) → 0 + x ≡ x
      zero_add x = omega arith

  read_sum : (m : ℕ) → m < chunks → sum_at chunks rest m ≡ total (take (suc m) (counts ps))
  read_sum m lt =
      let long = counts_len ps in
      let within : m < length (sums 0 (counts ps)) = omega arith in
      let here : m < length (counts ps) = omega (arith, length-map ps (λ (part : ℕ × List ℕ). length part.1)) in
      let fits : n < 256 ^ byte_count n = count_fits n (small n few) in
      ap (λ (z : ℕ). short_at z (drop (1 + (2 + end_size rest) * chunks) rest) m) sums_are ∙ ap (λ (l : List ℕ). short_at (byte_count n) l m) after_ends
      ∙ short_written (byte_count n) m (sums 0 (counts ps)) B (sums_below 0 (256 ^ byte_count n) (counts ps) (omega arith)) within ∙ sum_get 0 (counts ps) m here ∙ zero_add (total (take (suc m) (counts ps)))
    where
      zero_add : (x : ℕ) → 0 + x ≡ x
      zero_add x = omega arith

  end_before : (m : ℕ) → m ≤ chunks → before (end_at chunks rest) m ≡ total (take m sizes)
  end_before zero h = refl
  end_before (suc m) h = read_end m (omega arith)

  sum_before : (m : ℕ) → m ≤ chunks → before (sum_at chunks rest) m ≡ total (take m (counts ps))
  sum_before zero h = refl
  sum_before (suc m) h = read_sum m (omega arith)

  count_read : (m : ℕ) → m < chunks → count_at chunks rest m ≡ length (get_or ps m none).1
  count_read m lt =
      let here : m < length (counts ps) = omega (arith, length-map ps (λ (part : ℕ × List ℕ). length part.1)) in
      let a = read_sum m lt in
      let b = sum_before m (omega arith) in
      let c = total_more (counts ps) m here in
      let d = get_map (λ part. length part.1) ps m lt in
      omega arith

  size_read : (m : ℕ) → m < chunks → size_at chunks rest m ≡ length (body (get_or ps m none).1)
  size_read m lt =
      let long : length (bodies ps) ≡ chunks = length-map ps (λ part. body part.1) in
      let here : m < length sizes = omega (arith, length-map (bodies ps) length) in
      let a = read_end m lt in
      let b = end_before m (omega arith) in
      let c = total_more sizes m here in
      let d = get_size (bodies ps) m (omega arith) in
      let e = ap length (get_body ps m lt) in
      omega arith

  body_some : (xs : List ℕ) → IsRising 0 65536 xs → 0 < length xs → 0 < length (body xs)
  body_some xs r h = elim (cases_few xs) [
    | inl fits ↦ (let e = ap length (body_runs xs fits) in let f = runs_len (boundaries xs) in omega arith)
    | inr other ↦ elim (cases_lt (length (blocks xs)) (2 * length xs)) [
      | inl less ↦ (let e = ap length (body_blocks xs other less) in let f = (blocks_are_blocks xs r h).some in omega arith)
      | inr more ↦ (let e = ap length (body_numbers xs other more) in let f = numbers_len xs in omega arith)
    ]
  ]

  key_after : (m : ℕ) → m < chunks → 0 < m → before (key_at rest) m < key_at rest m
  key_after zero lt h = absurd (omega arith)
  key_after (suc m) lt h = let a = read_key m (omega arith) in let b = read_key (suc m) lt in let c = key_up 0 ps m are lt in omega arith

  entry : (m : ℕ) → m < chunks → IsEntry n chunks rest m
  entry m lt =
      let (low, part_some, rises) = part_is 0 ps m are lt in
      let count = count_read m lt in
      let size = size_read m lt in
      let room = rising_room 0 65536 (get_or ps m none).1 rises in
      let body_many = body_some (get_or ps m none).1 rises part_some in
      let body_few = body_len (get_or ps m none).1 part_some in
      record {
        key = key_after m lt;
        some = omega arith;
        few = omega arith;
        last = λ e.
            let long : length (counts ps) ≡ chunks = length-map ps (λ part. length part.1) in
            let whole = total_all (counts ps) (suc m) (omega arith) in
            read_sum m lt ∙ whole ∙ all;
        sized = omega arith;
        short = omega arith;
      }

  body_read : (m : ℕ) → m < chunks → body_at chunks rest m ≡ body (get_or ps m none).1
  body_read m lt =
      let long : length (bodies ps) ≡ chunks = length-map ps (λ part. body part.1) in
      let from = end_before m (omega arith) in
      let is = get_body ps m lt in
      ap (λ (z : ℕ). take z (drop (bodies_start chunks rest + before (end_at chunks rest) m) rest)) (size_read m lt ∙ ap length (sym is))
      ∙ ap (λ (z : ℕ). take (length (get_or (bodies ps) m [])) (drop (bodies_start chunks rest + z) rest)) from
      ∙ ap (take (length (get_or (bodies ps) m []))) (sym (drop-drop (total (take m sizes)) (bodies_start chunks rest) rest) ∙ ap (drop (total (take m sizes))) after_sums)
      ∙ concat_part (bodies ps) m (omega arith) ∙ is

  sound : (m : ℕ) → m < chunks → body_fault_at chunks rest m ≡ None
  unfolding body_fault_at
  sound m lt =
      let (low, part_some, rises) = part_is 0 ps m are lt in
      let count = count_read m lt in
      let encoding = body_read m lt in
      body_sound m (before (sum_at chunks rest) m) (count_at chunks rest m) (body_at chunks rest m) (get_or ps m none).1
      (subst EachByte (sym encoding) (each_body (get_or ps m none).1 rises)) (omega arith)
      (record { rising = rises; count_is = sym count; encoding = sym encoding })

  ends_all : before (end_at chunks rest) chunks ≡ length B
  ends_all =
      let long : length sizes ≡ chunks = length-map (bodies ps) length ∙ length-map ps (λ part. body part.1) in
      let whole = total_all sizes chunks (omega arith) in
      end_before chunks (omega arith) ∙ whole ∙ sym (concat_len (bodies ps))

  pub rest_sound : chunks_fault n chunks rest ≡ None
  unfolding chunks_fault
  rest_sound =
      let (a, b) = count_bytes (length (concat (bodies ps))) in
      let (c, d) = count_bytes n in
      let e = ends_are in
      let s = sums_are in
      let long = rest_len in
      let whole = ends_all in
      none_or _ _ (none_sizes rest (omega arith) (omega arith) (omega arith) (omega arith) (omega arith))
      (none_or _ _ (some_not _ Short None (le-ltb (length rest) (bodies_start chunks rest) (omega arith)) refl)
      (none_or _ _ (none_first (entry_fault n chunks rest) chunks (λ m lt. none_entry n chunks rest m (entry m lt)))
      (none_or _ _ (none_loose n chunks rest (ends_are ∙ ap byte_count (sym ends_all)) sums_are)
      (none_or _ _ (some_not _ Short None (le-ltb (length rest) (bodies_end chunks rest) (omega arith)) refl)
      (none_or _ _ (none_first (body_fault_at chunks rest) chunks sound)
      (some_not _ Trailing None (le-ltb (bodies_end chunks rest) (length rest) (omega arith)) refl))))))
