-- Bytes have no fault exactly if they encode a set, which is read from them; and an encoding is that of one set.
use Rattle.std.proofs.Common.{◌≡◌, ℕ, zero, suc, ◌+◌, ◌-◌, ◌*◌, ◌^◌, ◌<◌, ◌≤◌, Bool, true, false, ◌||◌, eqb, ltb, cond, List, [], ◌∷◌, ◌++◌, drop, length, get_or, Option, Some, None, refl, sym, ap, ◌∙◌, arith, inl, inr, subst, take-append-drop}
use Rattle.std.proofs.lemmas.Bool.{cases_lt, cond_above, cond_below, le-ltb, lt-ltb, ne_eqb, true≢false}
use Rattle.std.proofs.lemmas.Bool.Decides.{eqb_tells}
use Rattle.std.proofs.lemmas.List.{drop_at}
use Rattle.std.specs.List.{concat, flat_map}
use Rattle.std.specs.Option.{is_some}
use Rattle.bitpack_groups.proofs.ForCallers.{AreBytes-append, AreBytes-cons, AreBytes-drop, AreBytes-number_in, groups_read_back, groups_run, number_reads_back, one_number, passed}
use Rattle.bitpacking.specs.Bits.{AreBytes}
use Rattle.bitpack_sets.proofs.lemmas.faults.ArrayLaws.{array_no_fault, count_none, no_fault_array, none_count}
use Rattle.bitpack_slices.proofs.ForCallers.{AreParts, EachByte, byte_of, bytes_are, bytes_dropped, counts, join, keys, neither, rising_room, total}
use Rattle.bitpack_sets.proofs.lemmas.encodings.ByteLaws.{each_append, each_bodies, each_flat}
use Rattle.bitpack_sets.proofs.lemmas.faults.ChunkLaws.{ids_count, ids_parts, ids_rise, ids_encoding, count_is}
use Rattle.bitpack_sets.proofs.lemmas.encodings.ChunkEncodings.{count_bytes, rest_sound}
use Rattle.bitpack_sets.proofs.lemmas.faults.EntryLaws.{not_zero, rest_none}
use Rattle.bitpack_sets.proofs.lemmas.faults.FaultLaws.{map_none, none_map, none_or, not_below, or_none, some_not}
use Rattle.bitpack_sets.proofs.lemmas.written.FrontLaws.{short_first}
use Rattle.bitpack_sets.proofs.lemmas.faults.GapLaws.{below_words, gaps_below, gaps_len, ids_back, later_bytes, later_encoding, no_bytes, none_short, short_is, short_none}
use Rattle.bitpack_sets.proofs.lemmas.encodings.LongLaws.{after_counts, bodies, count_room, ends, heads, join_len, long_array, long_chunks, long_parts, numbers_part, one_long, small}
use Rattle.bitpack_sets.proofs.lemmas.encodings.LongLaws as encodings
use Rattle.bitpack_slices.proofs.ForCallers.{join_parts, parts_are}
use Rattle.bitpack_sets.proofs.lemmas.words.Words.{IsArray}
use Rattle.bitpack_sets.specs.Directory.{chunk_ids}
use Rattle.bitpack_sets.specs.Faults.{array_fault, chunk_count_fault, chunks_fault, fault, ids_from, in_chunks_fault, short_fault, short_ids}
use Rattle.bitpack_sets.specs.Laws.{EncodingIsRead, IdsAreRead, NoFault, OneSet}
use Rattle.bitpack_sets.specs.Reads.{few_ids, ids_in, ids_in_array, ids_in_chunks}
use Rattle.bitpack_slices.specs.Bodies.{IsRising, le_bytes, parts}
use Rattle.bitpack_sets.specs.Sets.{IsSet, array, encoding, gaps, groups, in_chunks, long, short, sums}
use Rattle.bitpack_slices.specs.Slices.{quads_of}
use Rattle.bitpack_sets.specs.Sound.{IsRest}
use Rattle.bitpack_sets.specs.Stated.{stated_count}
use Rattle.bitpack_sets.specs.Varints.{byte_count, groups_codes, groups_of, number, number_end, number_fault, number_value, set_error}
use Rattle.bitpack_slices.specs.declared.set_error.SetError.{SetError}
use Rattle.bitpack_slices.specs.declared.set_error.SetError.TheVariants.{BadNumber, BadVersion}

pub some_not_none : {T : Type 0} (e : T) → Some e ≡ None → ⊥
some_not_none e h = true≢false (ap is_some h)

encoding_short : (ids : List ℕ) → length ids < 128 → encoding ids ≡ short ids
unfolding encoding
encoding_short ids h = sym (cond_below (length ids) 128 (short ids) (long ids) h)

encoding_long : (ids : List ℕ) → 128 ≤ length ids → encoding ids ≡ long ids
unfolding encoding
encoding_long ids h = sym (cond_above (length ids) 128 (short ids) (long ids) _ h refl)

-- ---- what the counts say

pub chunks_none : (ids : ℕ) (bytes : List ℕ) → chunk_count_fault ids bytes ≡ None
    → (number_fault bytes ≡ None) × (0 < number_value bytes) × (4 * number_value bytes ≤ ids) × (number_value bytes ≤ 65536)
unfolding chunk_count_fault
chunks_none ids bytes h =
    let (a, b) = or_none _ _ h in
    let (c, d) = passed _ _ _ b in
    let (e, f) = neither _ _ c in
    let (g, i) = neither _ _ e in
    (map_none set_error _ a, not_zero (number_value bytes) g, not_below ids (4 * number_value bytes) i, not_below 65536 (number_value bytes) f)

none_chunks : (ids : ℕ) (bytes : List ℕ) → number_fault bytes ≡ None → 0 < number_value bytes → 4 * number_value bytes ≤ ids → number_value bytes ≤ 65536
    → chunk_count_fault ids bytes ≡ None
unfolding chunk_count_fault
none_chunks ids bytes a b c d =
    none_or _ _ (none_map set_error (number_fault bytes) a)
    (some_not _ BadNumber None (all_false _ _ (all_false _ _ (ne_eqb (number_value bytes) 0 (λ e. absurd (omega arith))) (le-ltb ids (4 * number_value bytes) c)) (le-ltb 65536 (number_value bytes) d)) refl)
  where
    all_false : (a b : Bool) → a ≡ false → b ≡ false → (a || b) ≡ false
    all_false a b e f = ap (λ (x : Bool). x || b) e ∙ f

-- ---- bytes without a fault

-- this encoding is that of the ids
abbrev IsEncodingOf : List ℕ → List ℕ → Type 0
IsEncodingOf bytes ids = IsSet ids × (encoding ids ≡ bytes)

read_chunks : (bytes : List ℕ) → AreBytes bytes → in_chunks_fault bytes ≡ None → IsEncodingOf (5 ∷ bytes) (ids_in_chunks bytes)
unfolding in_chunks_fault
read_chunks bytes are h =
    let (h1, h2) = or_none _ _ h in
    let (h3, h4) = or_none _ _ h2 in
    let later : List ℕ = drop (number_end bytes) bytes in
    let rest : List ℕ = drop (number_end later) later in
    let n : ℕ = number_value bytes in
    let c : ℕ = number_value later in
    let (sound, many, few) = count_none bytes h1 in
    let (sound', some, apart, most) = chunks_none n later h3 in
    let are' : AreBytes later = AreBytes-drop (number_end bytes) bytes are in
    let each : EachByte rest = bytes_dropped (number_end later) later (bytes_are later are') in
    let (small', front, only) = one_number bytes are sound in
    let (small'', front', only') = one_number later are' sound' in
    let is : IsRest n c rest = rest_none n c rest each some h4 in
    let ids : List ℕ = chunk_ids c rest in
    let size : length ids ≡ n = ids_count n c rest each is in
    let chunks : length (parts 65536 ids) ≡ c = ap length (ids_parts n c rest each is) ∙ count_is n c rest each is in
    let all : number n ++ (number c ++ rest) ≡ bytes =
    ap (λ (l : List ℕ). number n ++ (l ++ rest)) (sym front') ∙ ap (λ (l : List ℕ). number n ++ l) (take-append-drop (number_end later) later)
    ∙ ap (λ (l : List ℕ). l ++ later) (sym front) ∙ take-append-drop (number_end bytes) bytes in (
      record { few = omega arith; rising = ids_rise n c rest each is },
      encoding_long ids (omega arith) ∙ long_chunks ids (omega arith) ∙ ids_encoding n c rest each is ∙ ap (λ (l : List ℕ). 5 ∷ l) all,
    )

read_array : (bytes : List ℕ) → AreBytes bytes → array_fault bytes ≡ None → IsEncodingOf (6 ∷ bytes) (ids_in_array bytes)
read_array bytes are h =
    let is : IsArray (quads_of (drop (number_end bytes) bytes)) bytes = array_no_fault one_number bytes are h in
    let many = is.many in
    let few = is.few in
    let apart = is.apart in
    let ids : List ℕ = quads_of (drop (number_end bytes) bytes) in
    (record { few = few; rising = is.rising }, encoding_long ids many ∙ long_array ids apart ∙ is.encoding)

read_few : (count : ℕ) (bytes : List ℕ) → count < 128 → AreBytes bytes → short_fault count bytes ≡ None → IsEncodingOf ((128 + count) ∷ bytes) (few_ids count bytes)
unfolding short_fault encoding short
read_few zero bytes small are h =
    let none : bytes ≡ [] = no_bytes bytes (not_below 0 (length bytes) (passed _ _ _ h).0) in
    (record { few = omega arith; rising = omega arith }, ap (λ (l : List ℕ). 128 ∷ l) (sym none))
read_few (suc more) bytes small are h =
    let (rising, size, is) = short_none more bytes are h in
    let same : 129 + more ≡ 128 + suc more = omega arith in
    (record { few = omega arith; rising = rising }, encoding_short (short_ids more bytes) (omega arith) ∙ is ∙ ap (λ (n : ℕ). n ∷ bytes) same)

pub ids_are_read : IdsAreRead
unfolding fault ids_in
ids_are_read [] are h = absurd (some_not_none _ h)
ids_are_read (form ∷ bytes) are h =
    let byte : form < 2 ^ 8 = are 0 in
    let later : AreBytes bytes = λ k. are (suc k) in
    let other : Option SetError = cond (eqb form 6) (array_fault bytes) (cond (ltb form 128) (Some (BadVersion form)) (short_fault (form - 128) bytes)) in
    let others : List ℕ = cond (eqb form 6) (ids_in_array bytes) (few_ids (form - 128) bytes) in
    elim (eqb_tells form 5) [
      | inl (five, is) ↦
          let none : in_chunks_fault bytes ≡ None = sym (ap (λ (b : Bool). cond b (in_chunks_fault bytes) other) five) ∙ h in
          let same : ids_in_chunks bytes ≡ cond (eqb form 5) (ids_in_chunks bytes) others = sym (ap (λ (b : Bool). cond b (ids_in_chunks bytes) others) five) in
          subst (IsEncodingOf (form ∷ bytes)) same (subst (λ (n : ℕ). IsEncodingOf (n ∷ bytes) (ids_in_chunks bytes)) (sym is) (read_chunks bytes later none))
      | inr (not_five, isnt) ↦
          let here : other ≡ None = sym (ap (λ (b : Bool). cond b (in_chunks_fault bytes) other) not_five) ∙ h in
          let at : others ≡ cond (eqb form 5) (ids_in_chunks bytes) others = sym (ap (λ (b : Bool). cond b (ids_in_chunks bytes) others) not_five) in
          subst (IsEncodingOf (form ∷ bytes)) at (
          elim (eqb_tells form 6) [
            | inl (six, is) ↦
                let none : array_fault bytes ≡ None = sym (ap (λ (b : Bool). cond b (array_fault bytes) (cond (ltb form 128) (Some (BadVersion form)) (short_fault (form - 128) bytes))) six) ∙ here in
                let same : ids_in_array bytes ≡ others = sym (ap (λ (b : Bool). cond b (ids_in_array bytes) (few_ids (form - 128) bytes)) six) in
                subst (IsEncodingOf (form ∷ bytes)) same (subst (λ (n : ℕ). IsEncodingOf (n ∷ bytes) (ids_in_array bytes)) (sym is) (read_array bytes later none))
            | inr (not_six, isnt') ↦
                let left : cond (ltb form 128) (Some (BadVersion form)) (short_fault (form - 128) bytes) ≡ None =
                sym (ap (λ (b : Bool). cond b (array_fault bytes) (cond (ltb form 128) (Some (BadVersion form)) (short_fault (form - 128) bytes))) not_six) ∙ here in
                let (high, none) = passed (ltb form 128) (BadVersion form) (short_fault (form - 128) bytes) left in
                let more = not_below form 128 high in
                let whole : 128 + (form - 128) ≡ form = omega arith in
                let same : few_ids (form - 128) bytes ≡ others = sym (ap (λ (b : Bool). cond b (ids_in_array bytes) (few_ids (form - 128) bytes)) not_six) in
                subst (IsEncodingOf (form ∷ bytes)) same (subst (λ (n : ℕ). IsEncodingOf (n ∷ bytes) (few_ids (form - 128) bytes)) whole (read_few (form - 128) bytes (omega arith) later none))
          ])
    ]

-- ---- encodings

-- the encoding of a set is bytes without a fault
abbrev IsSound : List ℕ → Type 0
IsSound bytes = AreBytes bytes × (fault bytes ≡ None)

array_bytes : (ids : List ℕ) → AreBytes (number (length ids) ++ flat_map (le_bytes 4) ids)
array_bytes ids = AreBytes-append (number (length ids)) (flat_map (le_bytes 4) ids) (AreBytes-number_in 5 (length ids)) (byte_of (flat_map (le_bytes 4) ids) (each_flat 4 ids))

sound_array : (ids : List ℕ) → IsSet ids → 128 ≤ length ids → length ids < 4 * length (parts (2 ^ 16) ids) → IsSound (array ids)
unfolding fault array
sound_array ids is many apart = (
  AreBytes-cons 6 (number (length ids) ++ flat_map (le_bytes 4) ids) (omega arith) (array_bytes ids),
  no_fault_array number_reads_back (number (length ids) ++ flat_map (le_bytes 4) ids) ids
      (record { rising = is.rising; many = many; few = is.few; apart = apart; encoding = refl }),
)

some_parts : (ids : List ℕ) → 0 < length ids → 0 < length (parts 65536 ids)
some_parts ids h = not_none (parts 65536 ids) (join_parts 65536 ids)
  where
    not_none : (ps : List (ℕ × List ℕ)) → join 65536 ps ≡ ids → 0 < length ps
    not_none [] e = (let f = ap length e in absurd (omega arith))
    not_none (p ∷ ps) e = omega arith

rest_bytes : (n : ℕ) (ps : List (ℕ × List ℕ)) → AreParts 65536 0 65536 ps → EachByte (after_counts n ps)
rest_bytes n ps are =
    let (a, b) = count_bytes (length (concat (bodies ps))) in
    let (c, d) = count_bytes n in (
      omega arith,
      each_append _ _ (each_flat 2 (keys ps)) (each_append _ _ (each_flat (encodings.end_size ps) (ends ps)) (each_append _ _ (each_flat (byte_count n) (sums 0 (counts ps))) (each_bodies 0 ps are))),
    )

sound_chunks : (ids : List ℕ) → IsSet ids → 128 ≤ length ids → 4 * length (parts (2 ^ 16) ids) ≤ length ids → IsSound (in_chunks ids)
unfolding fault in_chunks_fault
sound_chunks ids is many near =
    let n : ℕ = length ids in
    let ps : List (ℕ × List ℕ) = parts 65536 ids in
    let c : ℕ = length ps in
    let few = is.few in
    let are : AreParts 65536 0 65536 ps = parts_are 65536 0 65536 0 ids (omega arith) (omega arith) is.rising in
    let some : 0 < c = some_parts ids (omega arith) in
    let room = count_room 0 ps are in
    let all : total (counts ps) ≡ n = sym (join_len ps) ∙ ap length (join_parts 65536 ids) in
    let rest : List ℕ = after_counts n ps in
    let bytes : List ℕ = number n ++ (number c ++ rest) in
    let (sound, value, end) = number_reads_back n (number c ++ rest) (omega arith) in
    let (sound', value', end') = number_reads_back c rest (omega arith) in
    let later : drop (number_end bytes) bytes ≡ number c ++ rest = drop_at (number n) (number c ++ rest) (number_end bytes) (sym end) in
    let last : drop (number_end (number c ++ rest)) (number c ++ rest) ≡ rest = drop_at (number c) rest (number_end (number c ++ rest)) (sym end') in
    let small_bytes : AreBytes bytes = AreBytes-append (number n) (number c ++ rest) (AreBytes-number_in 5 n) (AreBytes-append (number c) rest (AreBytes-number_in 5 c) (byte_of rest (rest_bytes n ps are))) in
    let parts_sound : chunk_count_fault n (number c ++ rest) ≡ None = none_chunks n (number c ++ rest) sound' (omega arith) (omega arith) (omega arith) in
    let none : in_chunks_fault bytes ≡ None =
    none_or _ _ (none_count bytes sound (omega arith) (omega arith))
    (none_or _ _ (ap (λ (m : ℕ). chunk_count_fault m (drop (number_end bytes) bytes)) value ∙ ap (chunk_count_fault n) later ∙ parts_sound)
    (ap (λ (m : ℕ). chunks_fault m (number_value (drop (number_end bytes) bytes)) (drop (number_end (drop (number_end bytes) bytes)) (drop (number_end bytes) bytes))) value
    ∙ ap (λ (l : List ℕ). chunks_fault n (number_value l) (drop (number_end l) l)) later
    ∙ ap (λ (m : ℕ). chunks_fault n m (drop (number_end (number c ++ rest)) (number c ++ rest))) value' ∙ ap (chunks_fault n c) last ∙ rest_sound n ps are some few all)) in
    subst IsSound (sym (long_parts ids)) (AreBytes-cons 5 bytes (omega arith) small_bytes, none)

sound_few : (x : ℕ) (xs : List ℕ) → IsRising 0 (2 ^ 32) (x ∷ xs) → length xs < 127 → IsSound (short (x ∷ xs))
unfolding fault
sound_few x xs (zero', r) few =
    let room = rising_room (x + 1) (2 ^ 32) xs r in
    let form : ℕ = 129 + length xs in
    let bytes : List ℕ = later_encoding x xs in
    let less : form - 128 ≡ suc (length xs) = omega arith in
    let not_five : eqb form 5 ≡ false = ne_eqb form 5 (λ e. absurd (omega arith)) in
    let not_six : eqb form 6 ≡ false = ne_eqb form 6 (λ e. absurd (omega arith)) in
    let high : ltb form 128 ≡ false = le-ltb form 128 (omega arith) in
    let left : Option SetError = cond (ltb form 128) (Some (BadVersion form)) (short_fault (form - 128) bytes) in
    let none : fault (form ∷ bytes) ≡ None =
    ap (λ (b : Bool). cond b (in_chunks_fault bytes) (cond (eqb form 6) (array_fault bytes) left)) not_five
    ∙ ap (λ (b : Bool). cond b (array_fault bytes) left) not_six ∙ ap (λ (b : Bool). cond b (Some (BadVersion form)) (short_fault (form - 128) bytes)) high
    ∙ ap (λ (m : ℕ). short_fault m bytes) less ∙ none_short x xs (zero', r) in
    let small_bytes : AreBytes bytes = AreBytes-append (number x) (groups (groups_of (length xs)) (gaps x xs)) (AreBytes-number_in 5 x) (later_bytes x xs r) in
    subst IsSound (sym (short_is x xs)) (AreBytes-cons form bytes (omega arith) small_bytes, none)

sound_short : (ids : List ℕ) → IsRising 0 (2 ^ 32) ids → length ids < 128 → IsSound (short ids)
unfolding fault short short_fault
sound_short [] r few = (AreBytes-cons 128 [] (omega arith) (λ k. omega arith), refl)
sound_short (x ∷ xs) r few = sound_few x xs r (omega arith)

pub encoding_sound : (ids : List ℕ) → IsSet ids → IsSound (encoding ids)
encoding_sound ids is = elim (cases_lt (length ids) 128) [
  | inl few ↦ subst IsSound (sym (encoding_short ids few)) (sound_short ids is.rising few)
  | inr many ↦ elim (cases_lt (length ids) (4 * length (parts (2 ^ 16) ids))) [
    | inl apart ↦ subst IsSound (sym (encoding_long ids many ∙ long_array ids apart)) (sound_array ids is many apart)
    | inr near ↦ subst IsSound (sym (encoding_long ids many ∙ long_chunks ids near)) (sound_chunks ids is many near)
  ]
]

-- ---- one set an encoding

tails : (m n : ℕ) (xs ys : List ℕ) → m ∷ xs ≡ n ∷ ys → xs ≡ ys
tails m n xs ys e = cc

same_codes : (xs ys : List ℕ) → Rattle.bitpack_slices.proofs.ForCallers.Below (2 ^ 32) xs → Rattle.bitpack_slices.proofs.ForCallers.Below (2 ^ 32) ys → length xs ≡ length ys → groups (groups_of (length xs)) xs ≡ groups (groups_of (length ys)) ys → xs ≡ ys
same_codes xs ys h k size e =
    let n : ℕ = length xs in
    let read = (groups_read_back (groups_of n) 0 xs (groups (groups_of n) xs) [] (omega arith) (omega arith) (below_words xs h) (groups_run xs (below_words xs h)).1).1 in
    let m : ℕ = length ys in
    let read' = (groups_read_back (groups_of m) 0 ys (groups (groups_of m) ys) [] (omega arith) (omega arith) (below_words ys k) (groups_run ys (below_words ys k)).1).1 in
    sym read ∙ ap (λ (l : List ℕ). groups_codes (groups_of n) n (l ++ [])) e ∙ ap (λ (i : ℕ). groups_codes (groups_of i) i (groups (groups_of m) ys ++ [])) size ∙ read'

one_few : (xs ys : List ℕ) → IsRising 0 (2 ^ 32) xs → IsRising 0 (2 ^ 32) ys → length xs < 128 → length ys < 128 → short xs ≡ short ys → xs ≡ ys
unfolding short
one_few [] [] r s few few' e = refl
one_few [] (y ∷ ys) r s few few' e = (let h = heads 128 (129 + length ys) [] (later_encoding y ys) e in absurd (omega arith))
one_few (x ∷ xs) [] r s few few' e = (let h = heads (129 + length xs) 128 (later_encoding x xs) [] e in absurd (omega arith))
one_few (x ∷ xs) (y ∷ ys) (a, r) (b, s) few few' e =
    let room = rising_room (x + 1) (2 ^ 32) xs r in
    let room' = rising_room (y + 1) (2 ^ 32) ys s in
    let h = heads (129 + length xs) (129 + length ys) (later_encoding x xs) (later_encoding y ys) e in
    let t = tails (129 + length xs) (129 + length ys) (later_encoding x xs) (later_encoding y ys) e in
    let size : length xs ≡ length ys = omega arith in
    let (first, run) = numbers_part number_reads_back x y (groups (groups_of (length xs)) (gaps x xs)) (groups (groups_of (length ys)) (gaps y ys)) (omega arith) (omega arith) t in
    let codes : gaps x xs ≡ gaps y ys = same_codes (gaps x xs) (gaps y ys) (gaps_below x xs r) (gaps_below y ys s) (gaps_len x xs ∙ size ∙ sym (gaps_len y ys))
    (ap (λ (n : ℕ). groups (groups_of n) (gaps x xs)) (gaps_len x xs) ∙ run ∙ ap (λ (n : ℕ). groups (groups_of n) (gaps y ys)) (sym (gaps_len y ys))) in
    sym (ids_back x xs r) ∙ ap (λ (n : ℕ). ids_from n (gaps x xs)) first ∙ ap (ids_from y) codes ∙ ids_back y ys s

long_form : (ids : List ℕ) → get_or (long ids) 0 0 ≤ 6
long_form ids = elim (cases_lt (length ids) (4 * length (parts (2 ^ 16) ids))) [
  | inl apart ↦ (let e = ap (λ (l : List ℕ). get_or l 0 0) (long_array ids apart ∙ encodings.array_parts ids) in omega arith)
  | inr near ↦ (let e = ap (λ (l : List ℕ). get_or l 0 0) (long_chunks ids near ∙ long_parts ids) in omega arith)
]

pub one_set : OneSet
one_set xs ys is are e = elim (cases_lt (length xs) 128) [
  | inl few ↦ elim (cases_lt (length ys) 128) [
    | inl few' ↦ one_few xs ys is.rising are.rising few few' (sym (encoding_short xs few) ∙ e ∙ encoding_short ys few')
    | inr many' ↦ (let f = ap (λ (l : List ℕ). get_or l 0 0) (sym (encoding_short xs few) ∙ e ∙ encoding_long ys many') in let a = short_first xs in let b = long_form ys in absurd (omega arith))
  ]
  | inr many ↦ elim (cases_lt (length ys) 128) [
    | inl few' ↦ (let f = ap (λ (l : List ℕ). get_or l 0 0) (sym (encoding_long xs many) ∙ e ∙ encoding_short ys few') in let a = short_first ys in let b = long_form xs in absurd (omega arith))
    | inr many' ↦ one_long number_reads_back xs ys is.rising are.rising is.few are.few (sym (encoding_long xs many) ∙ e ∙ encoding_long ys many')
  ]
]

pub no_fault : NoFault
no_fault bytes are = (
  λ h. (ids_in bytes, (ids_are_read bytes are h).0, (ids_are_read bytes are h).1),
  λ (ids, is, e). ap fault (sym e) ∙ (encoding_sound ids is).1,
)

-- what is read from an encoding is the set that was written
pub encoding_is_read : EncodingIsRead
encoding_is_read ids is =
    let (are, none) = encoding_sound ids is in
    let (is', e) = ids_are_read (encoding ids) are none in
    (are, none, one_set (ids_in (encoding ids)) ids is' is e)

-- ---- counts

-- the count that an encoding states is that of its ids
count_chunks : (bytes : List ℕ) → AreBytes bytes → in_chunks_fault bytes ≡ None → length (ids_in_chunks bytes) ≡ number_value bytes
unfolding in_chunks_fault
count_chunks bytes are h =
    let (h1, h2) = or_none _ _ h in
    let (h3, h4) = or_none _ _ h2 in
    let later : List ℕ = drop (number_end bytes) bytes in
    let rest : List ℕ = drop (number_end later) later in
    let (sound', some, apart, most) = chunks_none (number_value bytes) later h3 in
    let each : EachByte rest = bytes_dropped (number_end later) later (bytes_are later (AreBytes-drop (number_end bytes) bytes are)) in
    ids_count (number_value bytes) (number_value later) rest each (rest_none (number_value bytes) (number_value later) rest each some h4)

count_array : (bytes : List ℕ) → AreBytes bytes → array_fault bytes ≡ None → length (ids_in_array bytes) ≡ number_value bytes
unfolding array
count_array bytes are h =
    let is : IsArray (ids_in_array bytes) bytes = array_no_fault one_number bytes are h in
    let few = is.few in
    let ids : List ℕ = ids_in_array bytes in
    let (sound, value, end) = number_reads_back (length ids) (flat_map (le_bytes 4) ids) (omega arith) in
    sym value ∙ ap number_value (tails 6 6 (number (length ids) ++ flat_map (le_bytes 4) ids) bytes is.encoding)

count_few : (count : ℕ) (bytes : List ℕ) → AreBytes bytes → short_fault count bytes ≡ None → length (few_ids count bytes) ≡ count
count_few zero bytes are h = refl
count_few (suc more) bytes are h = (short_none more bytes are h).1

pub count_stated : (bytes : List ℕ) → AreBytes bytes → fault bytes ≡ None → stated_count bytes ≡ length (ids_in bytes)
unfolding fault ids_in
count_stated [] are h = absurd (some_not_none _ h)
count_stated (form ∷ bytes) are h =
    let later : AreBytes bytes = λ k. are (suc k) in
    let other : Option SetError = cond (eqb form 6) (array_fault bytes) (cond (ltb form 128) (Some (BadVersion form)) (short_fault (form - 128) bytes)) in
    let others : List ℕ = cond (eqb form 6) (ids_in_array bytes) (few_ids (form - 128) bytes) in
    elim (eqb_tells form 5) [
      | inl (five, is) ↦
          let none : in_chunks_fault bytes ≡ None = sym (ap (λ (b : Bool). cond b (in_chunks_fault bytes) other) five) ∙ h in
          let low : ltb form 128 ≡ true = lt-ltb form 128 (omega arith) in
          ap (λ (b : Bool). cond b (number_value bytes) (form - 128)) low ∙ sym (count_chunks bytes later none)
          ∙ sym (ap (λ (b : Bool). length (cond b (ids_in_chunks bytes) others)) five)
      | inr (not_five, isnt) ↦
          let here : other ≡ None = sym (ap (λ (b : Bool). cond b (in_chunks_fault bytes) other) not_five) ∙ h in
          let at : length others ≡ length (cond (eqb form 5) (ids_in_chunks bytes) others) = sym (ap (λ (b : Bool). length (cond b (ids_in_chunks bytes) others)) not_five) in
          elim (eqb_tells form 6) [
            | inl (six, is) ↦
                let none : array_fault bytes ≡ None = sym (ap (λ (b : Bool). cond b (array_fault bytes) (cond (ltb form 128) (Some (BadVersion form)) (short_fault (form - 128) bytes))) six) ∙ here in
                let low : ltb form 128 ≡ true = lt-ltb form 128 (omega arith) in
                ap (λ (b : Bool). cond b (number_value bytes) (form - 128)) low ∙ sym (count_array bytes later none)
                ∙ sym (ap (λ (b : Bool). length (cond b (ids_in_array bytes) (few_ids (form - 128) bytes))) six) ∙ at
            | inr (not_six, isnt') ↦
                let left : cond (ltb form 128) (Some (BadVersion form)) (short_fault (form - 128) bytes) ≡ None =
                sym (ap (λ (b : Bool). cond b (array_fault bytes) (cond (ltb form 128) (Some (BadVersion form)) (short_fault (form - 128) bytes))) not_six) ∙ here in
                let (high, none) = passed (ltb form 128) (BadVersion form) (short_fault (form - 128) bytes) left in
                ap (λ (b : Bool). cond b (number_value bytes) (form - 128)) high ∙ sym (count_few (form - 128) bytes later none)
                ∙ sym (ap (λ (b : Bool). length (cond b (ids_in_array bytes) (few_ids (form - 128) bytes))) not_six) ∙ at
          ]
    ]
