-- An encoding of chunks determines its ids.
use Rattle.std.proofs.Common.{◌≡◌, ℕ, suc, ◌+◌, ◌*◌, ◌^◌, ◌<◌, ◌≤◌, List, [], ◌∷◌, ◌++◌, map, length, refl, sym, ap, ◌∙◌, arith, lit<, inl, inr, subst, length-append, append_assoc, Bool, true, false, cond, eqb, ◌/◌, ◌%◌}
use Rattle.std.specs.List.{concat, flat_map}
use Rattle.std.proofs.lemmas.Bool.{cases_lt, cond_above, cond_below}
use Rattle.std.proofs.lemmas.List.{append_cancel_left, length-map}
use Rattle.bitpack_groups.proofs.ForCallers.{count_fits, little_len}
use Rattle.bitpack_slices.proofs.ForCallers.{AreParts, Below, counts, flat_len, join, keys, rising_room, total}
use Rattle.bitpack_slices.proofs.ForCallers.{join_parts, parts_are}
use Rattle.bitpack_slices.proofs.ForCallers.{append_same, one_le_bytes}
use Rattle.bitpack_sets.proofs.lemmas.encodings.BodyLaws.{body_blocks, body_numbers, body_runs, cases_few, numbers_len, runs_short, one_body}
use Rattle.bitpack_sets.proofs.lemmas.words.Words.{NumbersPart, OneLong}
use Rattle.bitpack_slices.specs.Bodies.{IsRising, blocks, le_bytes, parts, with_number}
use Rattle.bitpack_sets.specs.Sets.{array, body, in_chunks, long, sums}
use Rattle.bitpack_sets.specs.Varints.{NumberReadsBack, byte_count, number, number_value}

flat_one : (size : ℕ) (xs ys : List ℕ) → Below (256 ^ size) xs → Below (256 ^ size) ys → length xs ≡ length ys
    → flat_map (le_bytes size) xs ≡ flat_map (le_bytes size) ys → xs ≡ ys
flat_one size [] [] h k e f = refl
flat_one size [] (y ∷ ys) h k e f = absurd (omega arith)
flat_one size (x ∷ xs) [] h k e f = absurd (omega arith)
flat_one size (x ∷ xs) (y ∷ ys) (a, h) (b, k) e f =
    let (p, q) = append_same (le_bytes size x) (le_bytes size y) (flat_map (le_bytes size) xs) (flat_map (le_bytes size) ys) (little_len size x ∙ sym (little_len size y)) f in
    let same : x ≡ y = one_le_bytes size x y a b p in
    let rest : xs ≡ ys = flat_one size xs ys h k (omega arith) q in
    cc

sums_one : (b c : ℕ) (xs ys : List ℕ) → b ≡ c → sums b xs ≡ sums c ys → xs ≡ ys
unfolding sums
sums_one b c [] [] h e = refl
sums_one b c [] (y ∷ ys) h e = cc
sums_one b c (x ∷ xs) [] h e = cc
sums_one b c (x ∷ xs) (y ∷ ys) h e =
    let first : b + x ≡ c + y = cc in
    let same : x ≡ y = omega arith in
    let later : sums (b + x) xs ≡ sums (c + y) ys = cc in
    let rest : xs ≡ ys = sums_one (b + x) (c + y) xs ys first later in
    cc

pub sums_len : (b : ℕ) (xs : List ℕ) → length (sums b xs) ≡ length xs
unfolding sums
sums_len b [] = refl
sums_len b (x ∷ xs) = ap suc (sums_len (b + x) xs)

pub sums_below : (b top : ℕ) (xs : List ℕ) → b + total xs < top → Below top (sums b xs)
unfolding sums
sums_below b top [] h = tt
sums_below b top (x ∷ xs) h = (omega arith, sums_below (b + x) top xs (omega arith))

concat_one : (xs ys : List (List ℕ)) → map length xs ≡ map length ys → concat xs ≡ concat ys → xs ≡ ys
concat_one [] [] e f = refl
concat_one [] (y ∷ ys) e f = cc
concat_one (x ∷ xs) [] e f = cc
concat_one (x ∷ xs) (y ∷ ys) e f =
    let e0 : length x ≡ length y = cc in
    let e1 : map length xs ≡ map length ys = cc in
    let (p, q) = append_same x y (concat xs) (concat ys) e0 f in
    let rest : xs ≡ ys = concat_one xs ys e1 q in
    cc

pub concat_len : (xs : List (List ℕ)) → length (concat xs) ≡ total (map length xs)
concat_len [] = refl
concat_len (x ∷ xs) = let a = length-append x (concat xs) in let b : length (concat xs) ≡ total (map length xs) = concat_len xs in omega arith

abbrev pub bodies : List (ℕ × List ℕ) → List (List ℕ)
bodies ps = map (λ part. body part.1) ps

pub chunks_one : (low low' high : ℕ) (ps qs : List (ℕ × List ℕ)) → AreParts 65536 low high ps → AreParts 65536 low' high qs
    → keys ps ≡ keys qs → counts ps ≡ counts qs → bodies ps ≡ bodies qs → ps ≡ qs
chunks_one low low' high [] [] h k e f g = refl
chunks_one low low' high [] (q ∷ qs) h k e f g = cc
chunks_one low low' high (p ∷ ps) [] h k e f g = cc
chunks_one low low' high (p ∷ ps) (q ∷ qs) (a, some, r, later) (a', some', r', later') e f g =
    let e0 : p.0 ≡ q.0 = cc in
    let e1 : keys ps ≡ keys qs = cc in
    let f0 : length p.1 ≡ length q.1 = cc in
    let f1 : counts ps ≡ counts qs = cc in
    let g0 : body p.1 ≡ body q.1 = cc in
    let g1 : bodies ps ≡ bodies qs = cc in
    let low_same : p.1 ≡ q.1 = one_body p.1 q.1 r r' f0 g0 in
    let rest : ps ≡ qs = chunks_one (p.0 + 1) (q.0 + 1) high ps qs later later' e1 f1 g1 in
    let whole : p ≡ q = ap (λ (n : ℕ). (n, p.1)) e0 ∙ ap (λ (l : List ℕ). (q.0, l)) low_same in
    cc

pub key_top : (low : ℕ) (ps : List (ℕ × List ℕ)) → AreParts 65536 low 65536 ps → low ≤ 65536
key_top low [] h = h
key_top low (p ∷ ps) (a, some, r, later) = let t : p.0 + 1 ≤ 65536 = key_top (p.0 + 1) ps later in omega arith

pub keys_below : (low : ℕ) (ps : List (ℕ × List ℕ)) → AreParts 65536 low 65536 ps → Below (256 ^ 2) (keys ps)
keys_below low [] h = tt
keys_below low (p ∷ ps) (a, some, r, later) = let t : p.0 + 1 ≤ 65536 = key_top (p.0 + 1) ps later in (omega arith, keys_below (p.0 + 1) ps later)

pub body_len : (xs : List ℕ) → 0 < length xs → length (body xs) ≤ 2 * length xs
body_len xs some = elim (cases_few xs) [
  | inl fits ↦ (let (bounds, short) = runs_short xs some fits in let e = ap length (body_runs xs fits) in omega arith)
  | inr other ↦ elim (cases_lt (length (blocks xs)) (2 * length xs)) [
    | inl less ↦ (let e = ap length (body_blocks xs other less) in omega arith)
    | inr more ↦ (let e = ap length (body_numbers xs other more) in let f = numbers_len xs in omega arith)
  ]
]

-- each part has some numbers
abbrev pub EachSome : List (ℕ × List ℕ) → Type 0
EachSome [] = Unit {0}
EachSome (p ∷ ps) = (0 < length p.1) × EachSome ps

pub some_each : (base low high : ℕ) (ps : List (ℕ × List ℕ)) → AreParts base low high ps → EachSome ps
some_each base low high [] are = tt
some_each base low high (p ∷ ps) (a, some, r, later) = (some, some_each base (p.0 + 1) high ps later)

each_case : (b : Bool) (base x : ℕ) (p : ℕ × List ℕ) (ps : List (ℕ × List ℕ)) → 0 < length p.1 → EachSome ps
    → EachSome (cond b ((p.0, x % base ∷ p.1) ∷ ps) ((x / base, x % base ∷ []) ∷ p ∷ ps))
each_case true base x p ps some each = (omega arith, each)
each_case false base x p ps some each = (omega arith, (some, each))

each_more : (base x : ℕ) (ps : List (ℕ × List ℕ)) → EachSome ps → EachSome (with_number base x ps)
unfolding with_number
each_more base x [] each = (omega arith, tt)
each_more base x (p ∷ ps) (some, each) = each_case (eqb p.0 (x / base)) base x p ps some each

pub each_part : (base : ℕ) (xs : List ℕ) → EachSome (parts base xs)
unfolding parts
each_part base [] = tt
each_part base (x ∷ xs) = each_more base x (parts base xs) (each_part base xs)

pub bodies_len : (ps : List (ℕ × List ℕ)) → EachSome ps → total (map length (bodies ps)) ≤ 2 * total (counts ps)
bodies_len [] each = omega arith
bodies_len (p ∷ ps) (some, each) =
    let own = body_len p.1 some in
    let rest : total (map length (bodies ps)) ≤ 2 * total (counts ps) = bodies_len ps each in
    omega arith

pub join_len : (ps : List (ℕ × List ℕ)) → length (join 65536 ps) ≡ total (counts ps)
join_len [] = refl
join_len (p ∷ ps) =
    let a = length-append (map (λ low. p.0 * 65536 + low) p.1) (join 65536 ps) in
    let b = length-map p.1 (λ low. p.0 * 65536 + low) in
    let c : length (join 65536 ps) ≡ total (counts ps) = join_len ps in
    omega arith

flat_keys : (ps : List (ℕ × List ℕ)) → flat_map (λ chunk. le_bytes 2 chunk.0) ps ≡ flat_map (le_bytes 2) (keys ps)
flat_keys [] = refl
flat_keys (p ∷ ps) = ap (λ (l : List ℕ). le_bytes 2 p.0 ++ l) (flat_keys ps)

-- the parts of an encoding, by its chunks
abbrev pub ends : List (ℕ × List ℕ) → List ℕ
ends ps = sums 0 (map length (bodies ps))

abbrev pub end_size : List (ℕ × List ℕ) → ℕ
end_size ps = byte_count (length (concat (bodies ps)))

abbrev pub after_counts : ℕ → List (ℕ × List ℕ) → List ℕ
after_counts n ps = (end_size ps + 16 * byte_count n) ∷ (flat_map (le_bytes 2) (keys ps)
    ++ (flat_map (le_bytes (end_size ps)) (ends ps) ++ (flat_map (le_bytes (byte_count n)) (sums 0 (counts ps)) ++ concat (bodies ps))))

turned : (n m k e s b : List ℕ) → ((((n ++ m) ++ k) ++ e) ++ s) ++ b ≡ n ++ (m ++ (k ++ (e ++ (s ++ b))))
turned n m k e s b =
    append_assoc (((n ++ m) ++ k) ++ e) s b ∙ append_assoc ((n ++ m) ++ k) e (s ++ b) ∙ append_assoc (n ++ m) k (e ++ (s ++ b)) ∙ append_assoc n m (k ++ (e ++ (s ++ b)))

pub long_parts : (xs : List ℕ) → in_chunks xs ≡ 5 ∷ (number (length xs) ++ (number (length (parts 65536 xs)) ++ after_counts (length xs) (parts 65536 xs)))
unfolding in_chunks
long_parts xs =
    let ps : List (ℕ × List ℕ) = parts 65536 xs in
    let n : List ℕ = number (length xs) in
    let m : List ℕ = number (length ps) in
    let s : ℕ = end_size ps + 16 * byte_count (length xs) in
    let e : List ℕ = flat_map (le_bytes (end_size ps)) (ends ps) in
    let c : List ℕ = flat_map (le_bytes (byte_count (length xs))) (sums 0 (counts ps)) in
    let b : List ℕ = concat (bodies ps) in
    ap (λ (l : List ℕ). 5 ∷ l) (turned n m (s ∷ flat_map (λ chunk. le_bytes 2 chunk.0) ps) e c b)
    ∙ ap (λ (l : List ℕ). 5 ∷ (n ++ (m ++ (s ∷ (l ++ (e ++ (c ++ b))))))) (flat_keys ps)

pub small : (n : ℕ) → n ≤ 2 ^ 28 → n < 2 ^ 32
small n h = omega arith

pub ends_len : (ps : List (ℕ × List ℕ)) → length (ends ps) ≡ length ps
ends_len ps = sums_len 0 (map length (bodies ps)) ∙ length-map (bodies ps) length ∙ length-map ps (λ part. body part.1)

pub counts_len : (ps : List (ℕ × List ℕ)) → length (sums 0 (counts ps)) ≡ length ps
counts_len ps = sums_len 0 (counts ps) ∙ length-map ps (λ part. length part.1)

pub ends_below : (n : ℕ) (ps : List (ℕ × List ℕ)) → EachSome ps → n ≤ 2 ^ 28 → total (counts ps) ≡ n → Below (256 ^ end_size ps) (ends ps)
ends_below n ps each few e =
    let a = concat_len (bodies ps) in
    let b = bodies_len ps each in
    let fits : length (concat (bodies ps)) < 256 ^ end_size ps = count_fits (length (concat (bodies ps))) (omega arith) in
    sums_below 0 (256 ^ end_size ps) (map length (bodies ps)) (omega arith)

tails : (xs ys : List ℕ) → 5 ∷ xs ≡ 5 ∷ ys → xs ≡ ys
tails xs ys e = cc

pub count_room : (low : ℕ) (ps : List (ℕ × List ℕ)) → AreParts 65536 low 65536 ps → low + length ps ≤ 65536
count_room low [] h = omega arith
count_room low (p ∷ ps) (a, some, r, later) = let t : (p.0 + 1) + length ps ≤ 65536 = count_room (p.0 + 1) ps later in omega arith

pub key_count : (ps : List (ℕ × List ℕ)) → AreParts 65536 0 65536 ps → length ps < 2 ^ 32
key_count ps h = let t : 0 + length ps ≤ 65536 = count_room 0 ps h in omega arith

-- what is after the counts determines the chunks
after_one : (n : ℕ) (ps qs : List (ℕ × List ℕ)) → AreParts 65536 0 65536 ps → AreParts 65536 0 65536 qs → length ps ≡ length qs
    → n ≤ 2 ^ 28 → total (counts ps) ≡ n → total (counts qs) ≡ n → after_counts n ps ≡ after_counts n qs → ps ≡ qs
after_one n ps qs h k many few e f same =
    let first : end_size ps + 16 * byte_count n ≡ end_size qs + 16 * byte_count n = cc in
    let size : end_size ps ≡ end_size qs = omega arith in
    let later : flat_map (le_bytes 2) (keys ps) ++ (flat_map (le_bytes (end_size ps)) (ends ps) ++ (flat_map (le_bytes (byte_count n)) (sums 0 (counts ps)) ++ concat (bodies ps)))
    ≡ flat_map (le_bytes 2) (keys qs) ++ (flat_map (le_bytes (end_size qs)) (ends qs) ++ (flat_map (le_bytes (byte_count n)) (sums 0 (counts qs)) ++ concat (bodies qs))) = cc in
    let key_len : length (keys ps) ≡ length (keys qs) = length-map ps (λ part. part.0) ∙ many ∙ sym (length-map qs (λ part. part.0)) in
    let (key_same, later1) = append_same (flat_map (le_bytes 2) (keys ps)) (flat_map (le_bytes 2) (keys qs)) _ _
    (flat_len 2 (keys ps) ∙ ap (λ (m : ℕ). 2 * m) key_len ∙ sym (flat_len 2 (keys qs))) later in
    let end_len : length (ends ps) ≡ length (ends qs) = ends_len ps ∙ many ∙ sym (ends_len qs) in
    let (end_same, later2) = append_same (flat_map (le_bytes (end_size ps)) (ends ps)) (flat_map (le_bytes (end_size qs)) (ends qs)) _ _
    (flat_len (end_size ps) (ends ps) ∙ ap (λ (m : ℕ). end_size ps * m) end_len ∙ ap (λ (m : ℕ). m * length (ends qs)) size ∙ sym (flat_len (end_size qs) (ends qs))) later1 in
    let sum_len : length (sums 0 (counts ps)) ≡ length (sums 0 (counts qs)) = counts_len ps ∙ many ∙ sym (counts_len qs) in
    let (sum_same, body_same) = append_same (flat_map (le_bytes (byte_count n)) (sums 0 (counts ps))) (flat_map (le_bytes (byte_count n)) (sums 0 (counts qs))) _ _
    (flat_len (byte_count n) (sums 0 (counts ps)) ∙ ap (λ (m : ℕ). byte_count n * m) sum_len ∙ sym (flat_len (byte_count n) (sums 0 (counts qs)))) later2 in
    let keys_are : keys ps ≡ keys qs = flat_one 2 (keys ps) (keys qs) (keys_below 0 ps h) (keys_below 0 qs k) key_len key_same in
    let moved : flat_map (le_bytes (end_size qs)) (ends qs) ≡ flat_map (le_bytes (end_size ps)) (ends qs) = ap (λ (m : ℕ). flat_map (le_bytes m) (ends qs)) (sym size) in
    let ends_are : ends ps ≡ ends qs = flat_one (end_size ps) (ends ps) (ends qs) (ends_below n ps (some_each 65536 0 65536 ps h) few e)
    (subst (λ (m : ℕ). Below (256 ^ m) (ends qs)) (sym size) (ends_below n qs (some_each 65536 0 65536 qs k) few f)) end_len (end_same ∙ moved) in
    let fits : n < 256 ^ byte_count n = count_fits n (small n few) in
    let sums_are : sums 0 (counts ps) ≡ sums 0 (counts qs) = flat_one (byte_count n) (sums 0 (counts ps)) (sums 0 (counts qs))
    (sums_below 0 (256 ^ byte_count n) (counts ps) (omega arith)) (sums_below 0 (256 ^ byte_count n) (counts qs) (omega arith)) sum_len sum_same in
    let lengths : map length (bodies ps) ≡ map length (bodies qs) = sums_one 0 0 (map length (bodies ps)) (map length (bodies qs)) refl ends_are in
    chunks_one 0 0 65536 ps qs h k keys_are (sums_one 0 0 (counts ps) (counts qs) refl sums_are) (concat_one (bodies ps) (bodies qs) lengths body_same)

pub numbers_part : NumberReadsBack → NumbersPart
numbers_part back x y xs ys h k e =
    let (a, b, c) = back x xs h in
    let (a', b', c') = back y ys k in
    let same : x ≡ y = sym b ∙ ap number_value e ∙ b' in
    let moved : number x ++ xs ≡ number x ++ ys = e ∙ ap (λ (n : ℕ). number n ++ ys) (sym same) in
    (same, append_cancel_left (number x) xs ys moved)

-- an encoding in chunks determines its ids, as numbers of seven bits a byte are told apart
one_in_chunks : NumberReadsBack → (xs ys : List ℕ) → IsRising 0 (2 ^ 32) xs → IsRising 0 (2 ^ 32) ys → length xs ≤ 2 ^ 28 → length ys ≤ 2 ^ 28
    → in_chunks xs ≡ in_chunks ys → xs ≡ ys
one_in_chunks back xs ys h k few few' e =
    let decide : NumbersPart = numbers_part back in
    let ps : List (ℕ × List ℕ) = parts 65536 xs in
    let qs : List (ℕ × List ℕ) = parts 65536 ys in
    let zero' : 0 * 65536 ≤ 0 = omega arith in
    let are : AreParts 65536 0 65536 ps = parts_are 65536 0 65536 0 xs (lit< tt) zero' h in
    let are' : AreParts 65536 0 65536 qs = parts_are 65536 0 65536 0 ys (lit< tt) zero' k in
    let whole : number (length xs) ++ (number (length ps) ++ after_counts (length xs) ps) ≡ number (length ys) ++ (number (length qs) ++ after_counts (length ys) qs) =
    tails _ _ (sym (long_parts xs) ∙ e ∙ long_parts ys) in
    let (n, later) = decide (length xs) (length ys) _ _ (small (length xs) few) (small (length ys) few') whole in
    let (many, last) = decide (length ps) (length qs) _ _ (key_count ps are) (key_count qs are') later in
    let count : total (counts ps) ≡ length xs = sym (join_len ps) ∙ ap length (join_parts 65536 xs) in
    let count' : total (counts qs) ≡ length xs = sym (join_len qs) ∙ ap length (join_parts 65536 ys) ∙ sym n in
    let last' : after_counts (length xs) ps ≡ after_counts (length xs) qs = last ∙ ap (λ (m : ℕ). after_counts m qs) (sym n) in
    let same : ps ≡ qs = after_one (length xs) ps qs are are' many few count count' last' in
    sym (join_parts 65536 xs) ∙ ap (join 65536) same ∙ join_parts 65536 ys

-- ---- arrays

pub array_parts : (xs : List ℕ) → array xs ≡ 6 ∷ (number (length xs) ++ flat_map (le_bytes 4) xs)
unfolding array
array_parts xs = refl

pub array_tails : (xs ys : List ℕ) → 6 ∷ xs ≡ 6 ∷ ys → xs ≡ ys
array_tails xs ys e = cc

pub rising_below : (low high : ℕ) (xs : List ℕ) → IsRising low high xs → Below high xs
rising_below low high [] h = tt
rising_below low high (x ∷ xs) (a, b) = let r : (x + 1) + length xs ≤ high = rising_room (x + 1) high xs b in (omega arith, rising_below (x + 1) high xs b)

one_array : NumberReadsBack → (xs ys : List ℕ) → IsRising 0 (2 ^ 32) xs → IsRising 0 (2 ^ 32) ys → length xs ≤ 2 ^ 28 → length ys ≤ 2 ^ 28 → array xs ≡ array ys → xs ≡ ys
one_array back xs ys h k few few' e =
    let whole = array_tails _ _ (sym (array_parts xs) ∙ e ∙ array_parts ys) in
    let (n, later) = numbers_part back (length xs) (length ys) _ _ (small (length xs) few) (small (length ys) few') whole in
    flat_one 4 xs ys (rising_below 0 (2 ^ 32) xs h) (rising_below 0 (2 ^ 32) ys k) n later

pub long_array : (xs : List ℕ) → length xs < 4 * length (parts 65536 xs) → long xs ≡ array xs
unfolding long
long_array xs h = sym (cond_below (length xs) (4 * length (parts 65536 xs)) (array xs) _ h)

pub long_chunks : (xs : List ℕ) → 4 * length (parts 65536 xs) ≤ length xs → long xs ≡ in_chunks xs
unfolding long
long_chunks xs h = sym (cond_above (length xs) (4 * length (parts 65536 xs)) (array xs) _ _ h refl)

pub heads : (x y : ℕ) (xs ys : List ℕ) → x ∷ xs ≡ y ∷ ys → x ≡ y
heads x y xs ys e = cc

six_five : (x y : ℕ) → x ≡ 6 → y ≡ 5 → x ≡ y → ⊥
six_five x y e f g = omega arith

apart : (xs ys : List ℕ) → array xs ≡ in_chunks ys → ⊥
apart xs ys e = six_five 6 5 refl refl (heads 6 5 _ _ (sym (array_parts xs) ∙ e ∙ long_parts ys))

-- the encoding of 128 ids or more determines them
pub one_long : NumberReadsBack → OneLong
one_long back xs ys h k few few' e =
    elim (cases_lt (length xs) (4 * length (parts 65536 xs))) [
      | inl a ↦ elim (cases_lt (length ys) (4 * length (parts 65536 ys))) [
        | inl b ↦ one_array back xs ys h k few few' (sym (long_array xs a) ∙ e ∙ long_array ys b)
        | inr b ↦ absurd (apart xs ys (sym (long_array xs a) ∙ e ∙ long_chunks ys b))
      ]
      | inr a ↦ elim (cases_lt (length ys) (4 * length (parts 65536 ys))) [
        | inl b ↦ absurd (apart ys xs (sym (long_array ys b) ∙ sym e ∙ long_chunks xs a))
        | inr b ↦ one_in_chunks back xs ys h k few few' (sym (long_chunks xs a) ∙ e ∙ long_chunks ys b)
      ]
    ]
