-- Bytes have no fault as an array exactly if they are the array of the ids that are read from them.
use Rattle.std.proofs.Common.{◌≡◌, ℕ, zero, suc, ◌+◌, ◌*◌, ◌/◌, ◌%◌, ◌^◌, ◌<◌, ◌≤◌, true, ltb, List, [], ◌∷◌, ◌++◌, take, drop, length, None, refl, sym, ap, ◌∙◌, arith, subst, take-append-drop}
use Rattle.std.proofs.lemmas.Bool.{lt-ltb, le-ltb}
use Rattle.std.proofs.lemmas.List.{take_all, drop_at}
use Rattle.bitpacking.specs.Bits.{AreBytes}
use Rattle.bitpack_slices.specs.declared.set_error.SetError.TheVariants.{BadNumber, LooseForm, NotSorted, Short, TooLong, Trailing}
use Rattle.std.specs.List.{flat_map}
use Rattle.bitpack_slices.proofs.ForCallers.{Below, EachByte, bytes_are, bytes_dropped, flat_len, if_none', is_below, no_fall, rises_from}
use Rattle.bitpack_sets.proofs.lemmas.faults.FaultLaws.{if_none, map_none, none_map, none_or, not_below, or_none, some_not}
use Rattle.bitpack_sets.proofs.lemmas.encodings.LongLaws.{array_parts, array_tails, rising_below}
use Rattle.bitpack_sets.proofs.lemmas.words.Words.{IsArray}
use Rattle.bitpack_sets.specs.Faults.{array_fault, count_fault, ids_fault}
use Rattle.bitpack_slices.specs.Bodies.{IsRising, le_bytes, parts}
use Rattle.bitpack_sets.specs.Sets.{array}
use Rattle.bitpack_slices.specs.Slices.{first_fall, quads_of}
use Rattle.bitpack_sets.specs.Varints.{set_error, NumberReadsBack, OneNumber, number, number_end, number_fault, number_value}
use Rattle.bitpack_groups.proofs.ForCallers.{passed}

-- ---- integers of four bytes

quad_back : (a b c d : ℕ) → a < 256 → b < 256 → c < 256 → d < 256 → le_bytes 4 (a + 256 * b + 65536 * c + 16777216 * d) ≡ a ∷ b ∷ c ∷ d ∷ []
unfolding le_bytes
quad_back a b c d h i j k =
    let n : ℕ = a + 256 * b + 65536 * c + 16777216 * d in
    let e0 : n % 256 ≡ a = omega arith in
    let e1 : n / 256 % 256 ≡ b = omega arith in
    let e2 : n / 256 / 256 % 256 ≡ c = omega arith in
    let e3 : n / 256 / 256 / 256 % 256 ≡ d = omega arith in
    ap (λ (m : ℕ). m ∷ n / 256 % 256 ∷ n / 256 / 256 % 256 ∷ n / 256 / 256 / 256 % 256 ∷ []) e0
    ∙ ap (λ (m : ℕ). a ∷ m ∷ n / 256 / 256 % 256 ∷ n / 256 / 256 / 256 % 256 ∷ []) e1
    ∙ ap (λ (m : ℕ). a ∷ b ∷ m ∷ n / 256 / 256 / 256 % 256 ∷ []) e2
    ∙ ap (λ (m : ℕ). a ∷ b ∷ c ∷ m ∷ []) e3

pub quads_back : (n : ℕ) (bytes : List ℕ) → EachByte bytes → length bytes ≡ 4 * n
    → (flat_map (le_bytes 4) (quads_of bytes) ≡ bytes) × (length (quads_of bytes) ≡ n) × Below (2 ^ 32) (quads_of bytes)
unfolding quads_of
quads_back n [] are e = (refl, omega arith, tt)
quads_back n (a ∷ []) are e = absurd (omega arith)
quads_back n (a ∷ b ∷ []) are e = absurd (omega arith)
quads_back n (a ∷ b ∷ c ∷ []) are e = absurd (omega arith)
quads_back zero (a ∷ b ∷ c ∷ d ∷ bytes) are e = absurd (omega arith)
quads_back (suc n) (a ∷ b ∷ c ∷ d ∷ bytes) (h, (i, (j, (k, are)))) e =
    let (back, size, below) = quads_back n bytes are (omega arith) in (
      ap (λ (l : List ℕ). l ++ flat_map (le_bytes 4) (quads_of bytes)) (quad_back a b c d h i j k) ∙ ap (λ (l : List ℕ). a ∷ b ∷ c ∷ d ∷ l) back,
      omega arith,
      (omega arith, below),
    )

quad_value : (x : ℕ) → x < 2 ^ 32 → x % 256 + 256 * (x / 256 % 256) + 65536 * (x / 256 / 256 % 256) + 16777216 * (x / 256 / 256 / 256 % 256) ≡ x
quad_value x h = omega arith

pub quads_of_little : (xs : List ℕ) → Below (2 ^ 32) xs → quads_of (flat_map (le_bytes 4) xs) ≡ xs
unfolding quads_of le_bytes
quads_of_little [] h = refl
quads_of_little (x ∷ xs) (a, h) =
    ap (λ (n : ℕ). n ∷ quads_of (flat_map (le_bytes 4) xs)) (quad_value x a) ∙ ap (λ (l : List ℕ). x ∷ l) (quads_of_little xs h)

-- ---- the law

pub count_none : (bytes : List ℕ) → count_fault bytes ≡ None → (number_fault bytes ≡ None) × (128 ≤ number_value bytes) × (number_value bytes ≤ 2 ^ 28)
unfolding count_fault
count_none bytes h =
    let (a, b) = or_none _ _ h in
    let (c, d) = passed _ _ _ b in
    let (e, f) = passed _ _ _ d in
    (map_none set_error _ a, not_below (number_value bytes) 128 c, not_below (2 ^ 28) (number_value bytes) e)

ids_none : (ids : ℕ) (rest : List ℕ) → EachByte rest → ids_fault ids rest ≡ None
    → (length rest ≡ 4 * ids) × IsRising 0 (2 ^ 32) (quads_of rest) × (length (quads_of rest) ≡ ids) × (ids < 4 * length (parts (2 ^ 16) (quads_of rest))) × (flat_map (le_bytes 4) (quads_of rest) ≡ rest)
unfolding ids_fault
ids_none ids rest are h =
    let (a, b) = or_none _ _ h in
    let (short, _) = passed _ _ _ a in
    let (c, d) = or_none _ _ b in
    let (e, f) = or_none _ _ d in
    let (long, _) = passed _ _ _ f in
    let size : length rest ≡ 4 * ids = (let lo = not_below (length rest) (4 * ids) short in let hi = not_below (4 * ids) (length rest) long in omega arith) in
    let whole : take (4 * ids) rest ≡ rest = ap (λ (n : ℕ). take n rest) (sym size) ∙ take_all (length rest) rest (omega arith) in
    let (back, many, below) = quads_back ids rest are size in
    let falls : first_fall 0 (quads_of rest) ≡ None = ap (λ (l : List ℕ). first_fall 0 (quads_of l)) (sym whole) ∙ map_none _ _ c in
    let apart : ids < 4 * length (parts (2 ^ 16) (quads_of (take (4 * ids) rest))) = is_below _ _ (if_none _ _ e) in
    (size, rises_from 0 (2 ^ 32) (quads_of rest) below falls, many, subst (λ (l : List ℕ). ids < 4 * length (parts (2 ^ 16) (quads_of l))) whole apart, back)

pub array_no_fault : OneNumber → (bytes : List ℕ) → AreBytes bytes → array_fault bytes ≡ None → IsArray (quads_of (drop (number_end bytes) bytes)) bytes
unfolding array_fault
array_no_fault one bytes are h =
    let (a, b) = or_none _ _ h in
    let (sound, many, few) = count_none bytes a in
    let (small, front, only) = one bytes are sound in
    let rest : List ℕ = drop (number_end bytes) bytes in
    let (size, rising, count, apart, back) = ids_none (number_value bytes) rest (bytes_dropped (number_end bytes) bytes (bytes_are bytes are)) b in
    let encoding : array (quads_of rest) ≡ 6 ∷ bytes =
    array_parts (quads_of rest) ∙ ap (λ (n : ℕ). 6 ∷ (number n ++ flat_map (le_bytes 4) (quads_of rest))) count
    ∙ ap (λ (l : List ℕ). 6 ∷ (number (number_value bytes) ++ l)) back ∙ ap (λ (l : List ℕ). 6 ∷ (l ++ rest)) (sym front)
    ∙ ap (λ (l : List ℕ). 6 ∷ l) (take-append-drop (number_end bytes) bytes) in
    record { rising = rising; many = omega arith; few = omega arith; apart = subst (λ (n : ℕ). n < 4 * length (parts (2 ^ 16) (quads_of rest))) (sym count) apart; encoding = encoding }

pub none_count : (bytes : List ℕ) → number_fault bytes ≡ None → 128 ≤ number_value bytes → number_value bytes ≤ 2 ^ 28 → count_fault bytes ≡ None
unfolding count_fault
none_count bytes a b c =
    none_or _ _ (none_map set_error (number_fault bytes) a) (some_not (ltb (number_value bytes) 128) BadNumber _ (le-ltb (number_value bytes) 128 b)
    (some_not (ltb (2 ^ 28) (number_value bytes)) (TooLong (number_value bytes)) None (le-ltb (2 ^ 28) (number_value bytes) c) refl))

none_ids : (xs rest : List ℕ) → IsRising 0 (2 ^ 32) xs → length xs < 4 * length (parts (2 ^ 16) xs) → rest ≡ flat_map (le_bytes 4) xs → ids_fault (length xs) rest ≡ None
unfolding ids_fault
none_ids xs rest rising apart e =
    let ids : ℕ = length xs in
    let size : length rest ≡ 4 * ids = ap length e ∙ flat_len 4 xs in
    let whole : take (4 * ids) rest ≡ rest = ap (λ (n : ℕ). take n rest) (sym size) ∙ take_all (length rest) rest (omega arith) in
    let read : quads_of (take (4 * ids) rest) ≡ xs = ap quads_of (whole ∙ e) ∙ quads_of_little xs (rising_below 0 (2 ^ 32) xs rising) in
    let falls : first_fall 0 (quads_of (take (4 * ids) rest)) ≡ None = ap (first_fall 0) read ∙ no_fall 0 0 (2 ^ 32) xs rising in
    let far : ltb ids (4 * length (parts (2 ^ 16) (quads_of (take (4 * ids) rest)))) ≡ true =
    ap (λ (l : List ℕ). ltb ids (4 * length (parts (2 ^ 16) l))) read ∙ lt-ltb ids (4 * length (parts (2 ^ 16) xs)) apart in
    none_or _ _ (some_not (ltb (length rest) (4 * ids)) Short None (le-ltb (length rest) (4 * ids) (omega arith)) refl)
    (none_or _ _ (none_map (NotSorted) _ falls)
    (none_or _ _ (if_none' _ LooseForm far)
    (some_not (ltb (4 * ids) (length rest)) Trailing None (le-ltb (4 * ids) (length rest) (omega arith)) refl)))

pub no_fault_array : NumberReadsBack → (bytes ids : List ℕ) → IsArray ids bytes → array_fault bytes ≡ None
unfolding array_fault
no_fault_array back bytes ids is =
    let many = is.many in
    let few = is.few in
    let encoding : bytes ≡ number (length ids) ++ flat_map (le_bytes 4) ids = array_tails _ _ (sym is.encoding ∙ array_parts ids) in
    let (sound, value, end) = back (length ids) (flat_map (le_bytes 4) ids) (omega arith) in
    let value' : number_value bytes ≡ length ids = ap number_value encoding ∙ value in
    let end' : number_end bytes ≡ length (number (length ids)) = ap number_end encoding ∙ end in
    let rest : drop (number_end bytes) bytes ≡ flat_map (le_bytes 4) ids =
    ap (λ (n : ℕ). drop n bytes) end' ∙ ap (drop (length (number (length ids)))) encoding ∙ drop_at (number (length ids)) (flat_map (le_bytes 4) ids) (length (number (length ids))) refl in
    none_or _ _ (none_count bytes (ap number_fault encoding ∙ sound) (omega arith) (omega arith))
    (ap (λ (n : ℕ). ids_fault n (drop (number_end bytes) bytes)) value' ∙ none_ids ids (drop (number_end bytes) bytes) is.rising is.apart rest)
