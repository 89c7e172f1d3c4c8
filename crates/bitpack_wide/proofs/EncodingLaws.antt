-- Bytes have no fault exactly if they encode a wide set, which is read from them; and an encoding is that of one wide set.
use Rattle.std.proofs.Common.{◌≡◌, ℕ, suc, ◌*◌, ◌^◌, ◌<◌, ◌≤◌, Bool, true, false, ◌||◌, eqb, ltb, cond, List, [], ◌∷◌, ◌++◌, length, Option, Some, None, refl, sym, ap, ◌∙◌, arith, inl, inr, subst, append_assoc, take-append-drop}
use Rattle.std.specs.Option.{is_some}
use Rattle.std.specs.List.{flat_map}
use Rattle.std.proofs.lemmas.Bool.{le-ltb, lt-ltb, ne_eqb, true≢false}
use Rattle.std.proofs.lemmas.Bool.Decides.{eqb_tells}
use Rattle.std.proofs.lemmas.List.{drop_at}
use Rattle.bitpacking.specs.Bits.{AreBytes}
use Rattle.bitpack_groups.proofs.ForCallers.{AreBytes-append, AreBytes-cons, AreBytes-drop, AreBytes-number_in, number_reads_back, one_number, passed}
use Rattle.bitpack_groups.specs.Numbers.{number, number_end, number_fault, number_value}
use Rattle.bitpack_slices.proofs.ForCallers.{EachByte, byte_of, bytes_are, counts, join_parts, neither, total}
use Rattle.bitpack_sets.proofs.ForCallers.{all_false, map_none, none_map, none_or, not_below, not_zero, or_none, some_not}
use Rattle.bitpack_columns.specs.Columns as columns
use Rattle.bitpack_columns.specs.declared.column_kind.ColumnKind.TheVariants.{Sorted}
use Rattle.bitpack_slices.specs.Bodies.{le_bytes}
use Rattle.bitpack_wide.proofs.EntryLaws.{rest_none}
use Rattle.bitpack_wide.proofs.SpreadLaws.{after_number, spread_bytes, spread_count, spread_encoding, spread_none, spread_read, spread_sound}
use Rattle.bitpack_wide.proofs.WordBack.{rest_bytes, rest_sound, words_read}
use Rattle.bitpack_wide.proofs.WordLaws.{after_counts, total_ids, words_are, words_parts}
use Rattle.bitpack_wide.proofs.WordReads.{count_is, ids_count, ids_encoding, ids_rise, ids_words}
use Rattle.bitpack_wide.specs.Directory.{ids_of_words, word_ids}
use Rattle.bitpack_wide.specs.Faults.{count_fault, fault, in_spread_fault, in_words_fault, number_error, spread_fault, word_count_fault, words_fault}
use Rattle.bitpack_wide.specs.Laws.{EncodingIsRead, IdsAreRead, NoFault, OneWide}
use Rattle.bitpack_wide.specs.Reads as reads
use Rattle.bitpack_wide.specs.Reads.{ids_in, ids_in_spread, ids_in_words, spread_ids}
use Rattle.bitpack_wide.specs.Sound.{IsRest, IsSpread}
use Rattle.bitpack_wide.specs.Wide.{IsWide, encoding, highs, in_words, is_spread, lows, spread, words_of}
use Rattle.bitpack_wide.specs.declared.wide_error.WideError.{WideError}
use Rattle.bitpack_wide.specs.declared.wide_error.WideError.TheVariants.{BadNumber, BadVersion, TooLong}

pub some_not_none : {T : Type 0} (e : T) → Some e ≡ None → ⊥
some_not_none e h = true≢false (ap is_some h)

-- ---- which form

pub many_spread : (ids words : ℕ) → ids < 8 * words → is_spread ids words ≡ true
many_spread ids words h = elim (eqb_tells ids 0) [
  | inl (zero_is, e) ↦ ap (λ (b : Bool). b || ltb ids (8 * words)) zero_is
  | inr (other, e) ↦ ap (λ (b : Bool). b || ltb ids (8 * words)) other ∙ lt-ltb ids (8 * words) h
]

pub few_words : (ids words : ℕ) → 0 < ids → 8 * words ≤ ids → is_spread ids words ≡ false
few_words ids words some h = all_false _ _ (ne_eqb ids 0 (λ e. absurd (omega arith))) (le-ltb ids (8 * words) h)

pub encoding_spread : (ids : List ℕ) → is_spread (length ids) (length (words_of ids)) ≡ true → encoding ids ≡ spread ids
unfolding encoding
encoding_spread ids h = ap (λ (b : Bool). cond b (spread ids) (in_words ids)) h

pub encoding_words : (ids : List ℕ) → is_spread (length ids) (length (words_of ids)) ≡ false → encoding ids ≡ in_words ids
unfolding encoding
encoding_words ids h = ap (λ (b : Bool). cond b (spread ids) (in_words ids)) h

-- ---- what the counts say

pub count_none : (bytes : List ℕ) → count_fault bytes ≡ None → (number_fault bytes ≡ None) × (number_value bytes ≤ 2 ^ 28)
unfolding count_fault
count_none bytes h =
    let (a, b) = or_none _ _ h in
    (map_none number_error (number_fault bytes) a, not_below (2 ^ 28) (number_value bytes) (passed _ (TooLong (number_value bytes)) _ b).0)

none_count : (bytes : List ℕ) → number_fault bytes ≡ None → number_value bytes ≤ 2 ^ 28 → count_fault bytes ≡ None
unfolding count_fault
none_count bytes a b = none_or _ _ (none_map number_error (number_fault bytes) a) (some_not _ (TooLong (number_value bytes)) None (le-ltb (2 ^ 28) (number_value bytes) b) refl)

pub word_count_none : (ids : ℕ) (bytes : List ℕ) → word_count_fault ids bytes ≡ None → (number_fault bytes ≡ None) × (0 < number_value bytes) × (8 * number_value bytes ≤ ids)
unfolding word_count_fault
word_count_none ids bytes h =
    let (a, b) = or_none _ _ h in
    let (c, d) = passed _ BadNumber _ b in
    let (e, f) = neither _ _ c in
    (map_none number_error (number_fault bytes) a, not_zero (number_value bytes) e, not_below ids (8 * number_value bytes) f)

none_word_count : (ids : ℕ) (bytes : List ℕ) → number_fault bytes ≡ None → 0 < number_value bytes → 8 * number_value bytes ≤ ids → word_count_fault ids bytes ≡ None
unfolding word_count_fault
none_word_count ids bytes a b c =
    none_or _ _ (none_map number_error (number_fault bytes) a)
    (some_not _ BadNumber None (all_false _ _ (ne_eqb (number_value bytes) 0 (λ e. absurd (omega arith))) (le-ltb ids (8 * number_value bytes) c)) refl)

-- ---- bytes without a fault

-- this encoding is that of the ids
abbrev IsEncodingOf : List ℕ → List ℕ → Type 0
IsEncodingOf bytes ids = IsWide ids × (encoding ids ≡ bytes)

-- the number at the front, and what is after it
pub front_back : (bytes : List ℕ) → AreBytes bytes → number_fault bytes ≡ None → number (number_value bytes) ++ reads.after_number bytes ≡ bytes
front_back bytes are sound =
    let (small, front, only) = one_number bytes are sound in
    ap (λ (l : List ℕ). l ++ reads.after_number bytes) (sym front) ∙ take-append-drop (number_end bytes) bytes

-- what a set in words has after its counts
pub words_rest : (bytes : List ℕ) → AreBytes bytes → in_words_fault bytes ≡ None
    → IsRest (number_value bytes) (number_value (reads.after_number bytes)) (reads.after_number (reads.after_number bytes))
unfolding in_words_fault
words_rest bytes are h =
    let (h1, h2) = or_none _ _ h in
    let (h3, h4) = or_none _ _ h2 in
    let later : List ℕ = reads.after_number bytes in
    let (sound, few) = count_none bytes h1 in
    let (sound', some, near) = word_count_none (number_value bytes) later h3 in
    rest_none (number_value bytes) (number_value later) (reads.after_number later) some near few h4

read_words : (bytes : List ℕ) → AreBytes bytes → in_words_fault bytes ≡ None → IsEncodingOf (8 ∷ bytes) (ids_in_words bytes)
unfolding in_words_fault
read_words bytes are h =
    let (h1, h2) = or_none _ _ h in
    let (h3, h4) = or_none _ _ h2 in
    let later : List ℕ = reads.after_number bytes in
    let rest : List ℕ = reads.after_number later in
    let n : ℕ = number_value bytes in
    let w : ℕ = number_value later in
    let (sound, few) = count_none bytes h1 in
    let (sound', some, near) = word_count_none n later h3 in
    let are' : AreBytes later = AreBytes-drop (number_end bytes) bytes are in
    let each : EachByte rest = bytes_are rest (AreBytes-drop (number_end later) later are') in
    let is : IsRest n w rest = rest_none n w rest some near few h4 in
    let ids : List ℕ = word_ids w rest in
    let size : length ids ≡ n = ids_count n w rest each is in
    let words : length (words_of ids) ≡ w = ap length (ids_words n w rest each is) ∙ count_is n w rest each is in
    let all : number n ++ (number w ++ rest) ≡ bytes = ap (λ (l : List ℕ). number n ++ l) (front_back later are' sound') ∙ front_back bytes are sound in (
      record { few = omega arith; rising = ids_rise n w rest each is },
      encoding_words ids (few_words (length ids) (length (words_of ids)) (omega arith) (omega arith)) ∙ ids_encoding n w rest each is ∙ ap (λ (l : List ℕ). 8 ∷ l) all,
    )

-- what a set that is spread out has after its count
pub spread_rest : (bytes : List ℕ) → AreBytes bytes → in_spread_fault bytes ≡ None → IsSpread (number_value bytes) (reads.after_number bytes)
unfolding in_spread_fault
spread_rest bytes are h =
    let (h1, h2) = or_none _ _ h in
    let (sound, few) = count_none bytes h1 in
    spread_none (number_value bytes) (reads.after_number bytes) (bytes_are (reads.after_number bytes) (AreBytes-drop (number_end bytes) bytes are)) few h2

read_spread : (bytes : List ℕ) → AreBytes bytes → in_spread_fault bytes ≡ None → IsEncodingOf (9 ∷ bytes) (ids_in_spread bytes)
unfolding in_spread_fault
read_spread bytes are h =
    let (h1, h2) = or_none _ _ h in
    let rest : List ℕ = reads.after_number bytes in
    let n : ℕ = number_value bytes in
    let (sound, few) = count_none bytes h1 in
    let each : EachByte rest = bytes_are rest (AreBytes-drop (number_end bytes) bytes are) in
    let is : IsSpread n rest = spread_none n rest each few h2 in
    let size : length (spread_ids n rest) ≡ n = spread_count n rest each is in (
      record { few = omega arith; rising = is.rising },
      encoding_spread (spread_ids n rest) (ap (λ (k : ℕ). is_spread k (length (words_of (spread_ids n rest)))) size ∙ is.apart)
          ∙ spread_encoding n rest each is ∙ ap (λ (l : List ℕ). 9 ∷ l) (front_back bytes are sound),
    )

pub ids_are_read : IdsAreRead
unfolding fault ids_in
ids_are_read [] are h = absurd (some_not_none _ h)
ids_are_read (form ∷ bytes) are h =
    let later : AreBytes bytes = λ k. are (suc k) in
    let other : Option WideError = cond (eqb form 9) (in_spread_fault bytes) (Some (BadVersion form)) in
    elim (eqb_tells form 8) [
      | inl (eight, is) ↦
          let none : in_words_fault bytes ≡ None = sym (ap (λ (b : Bool). cond b (in_words_fault bytes) other) eight) ∙ h in
          let same : ids_in_words bytes ≡ cond (eqb form 8) (ids_in_words bytes) (ids_in_spread bytes) = sym (ap (λ (b : Bool). cond b (ids_in_words bytes) (ids_in_spread bytes)) eight) in
          subst (IsEncodingOf (form ∷ bytes)) same (subst (λ (n : ℕ). IsEncodingOf (n ∷ bytes) (ids_in_words bytes)) (sym is) (read_words bytes later none))
      | inr (not_eight, isnt) ↦
          let here : other ≡ None = sym (ap (λ (b : Bool). cond b (in_words_fault bytes) other) not_eight) ∙ h in
          let same : ids_in_spread bytes ≡ cond (eqb form 8) (ids_in_words bytes) (ids_in_spread bytes) = sym (ap (λ (b : Bool). cond b (ids_in_words bytes) (ids_in_spread bytes)) not_eight) in
          subst (IsEncodingOf (form ∷ bytes)) same (
          elim (eqb_tells form 9) [
            | inl (nine, is) ↦
                let none : in_spread_fault bytes ≡ None = sym (ap (λ (b : Bool). cond b (in_spread_fault bytes) (Some (BadVersion form))) nine) ∙ here in
                subst (λ (n : ℕ). IsEncodingOf (n ∷ bytes) (ids_in_spread bytes)) (sym is) (read_spread bytes later none)
            | inr (not_nine, isnt') ↦ absurd (some_not_none _ (sym (ap (λ (b : Bool). cond b (in_spread_fault bytes) (Some (BadVersion form))) not_nine) ∙ here))
          ])
    ]

-- ---- encodings

-- the encoding of ids is bytes without a fault, and they are read from it
abbrev IsSound : List ℕ → List ℕ → Type 0
IsSound ids bytes = AreBytes bytes × (fault bytes ≡ None) × (ids_in bytes ≡ ids)

some_words : (ids : List ℕ) → 0 < length ids → 0 < length (words_of ids)
some_words ids h = not_none (words_of ids) (join_parts (2 ^ 32) ids)
  where
    not_none : (ps : List (ℕ × List ℕ)) → ids_of_words ps ≡ ids → 0 < length ps
    not_none [] e = (let f = ap length e in absurd (omega arith))
    not_none (p ∷ ps) e = omega arith

sound_words : (ids : List ℕ) → IsWide ids → 0 < length ids → 8 * length (words_of ids) ≤ length ids → IsSound ids (in_words ids)
unfolding fault in_words_fault ids_in
sound_words ids is many near =
    let n : ℕ = length ids in
    let ps : List (ℕ × List ℕ) = words_of ids in
    let w : ℕ = length ps in
    let few = is.few in
    let are = words_are ids is.rising in
    let some : 0 < w = some_words ids many in
    let all : total (counts ps) ≡ n = total_ids ids in
    let rest : List ℕ = after_counts n ps in
    let bytes : List ℕ = number n ++ (number w ++ rest) in
    let (sound, value, end) = number_reads_back n (number w ++ rest) (omega arith) in
    let (sound', value', end') = number_reads_back w rest (omega arith) in
    let later : reads.after_number bytes ≡ number w ++ rest = drop_at (number n) (number w ++ rest) (number_end bytes) (sym end) in
    let last : reads.after_number (number w ++ rest) ≡ rest = drop_at (number w) rest (number_end (number w ++ rest)) (sym end') in
    let small_bytes : AreBytes bytes = AreBytes-append (number n) (number w ++ rest) (AreBytes-number_in 5 n)
    (AreBytes-append (number w) rest (AreBytes-number_in 5 w) (byte_of rest (rest_bytes n ps are some near few all))) in
    let words_sound : word_count_fault n (number w ++ rest) ≡ None = none_word_count n (number w ++ rest) sound' (omega arith) (omega arith) in
    let none : in_words_fault bytes ≡ None =
    none_or _ _ (none_count bytes sound (omega arith))
    (none_or _ _ (ap (λ (m : ℕ). word_count_fault m (reads.after_number bytes)) value ∙ ap (word_count_fault n) later ∙ words_sound)
    (ap (λ (m : ℕ). words_fault m (number_value (reads.after_number bytes)) (reads.after_number (reads.after_number bytes))) value
    ∙ ap (λ (l : List ℕ). words_fault n (number_value l) (reads.after_number l)) later
    ∙ ap (λ (m : ℕ). words_fault n m (reads.after_number (number w ++ rest))) value' ∙ ap (words_fault n w) last ∙ rest_sound n ps are some near few all)) in
    let back : ids_in_words bytes ≡ ids =
    ap (λ (l : List ℕ). word_ids (number_value l) (reads.after_number l)) later ∙ ap (λ (m : ℕ). word_ids m (reads.after_number (number w ++ rest))) value' ∙ ap (word_ids w) last
    ∙ ap ids_of_words (words_read n ps are some near few all) ∙ join_parts (2 ^ 32) ids in
    subst (IsSound ids) (sym (words_parts ids)) (AreBytes-cons 8 bytes (omega arith) small_bytes, none, back)

sound_spread : (ids : List ℕ) → IsWide ids → is_spread (length ids) (length (words_of ids)) ≡ true → IsSound ids (spread ids)
unfolding fault in_spread_fault ids_in spread
sound_spread ids is apart =
    let n : ℕ = length ids in
    let few = is.few in
    let rest : List ℕ = after_number ids in
    let bytes : List ℕ = number n ++ rest in
    let (sound, value, end) = number_reads_back n rest (omega arith) in
    let later : reads.after_number bytes ≡ rest = drop_at (number n) rest (number_end bytes) (sym end) in
    let small_bytes : AreBytes bytes = AreBytes-append (number n) rest (AreBytes-number_in 5 n) (spread_bytes ids is) in
    let none : in_spread_fault bytes ≡ None =
    none_or _ _ (none_count bytes sound (omega arith))
    (ap (λ (m : ℕ). spread_fault m (reads.after_number bytes)) value ∙ ap (spread_fault n) later ∙ spread_sound ids is apart) in
    let back : ids_in_spread bytes ≡ ids = ap (λ (m : ℕ). spread_ids m (reads.after_number bytes)) value ∙ ap (spread_ids n) later ∙ spread_read ids is in
    let turned : 9 ∷ bytes ≡ spread ids = ap (λ (l : List ℕ). 9 ∷ l) (sym (append_assoc (number n) (columns.encoding Sorted (highs ids)) (flat_map (le_bytes 4) (lows ids)))) in
    subst (IsSound ids) turned (AreBytes-cons 9 bytes (omega arith) small_bytes, none, back)

form_of : (ids : List ℕ) (b : Bool) → is_spread (length ids) (length (words_of ids)) ≡ b → IsWide ids → IsSound ids (encoding ids)
form_of ids true e is = subst (IsSound ids) (sym (encoding_spread ids e)) (sound_spread ids is e)
form_of ids false e is =
    let (some, near) = neither _ _ e in
    subst (IsSound ids) (sym (encoding_words ids e)) (sound_words ids is (not_zero (length ids) some) (not_below (length ids) (8 * length (words_of ids)) near))

pub encoding_is_read : EncodingIsRead
encoding_is_read ids is = form_of ids (is_spread (length ids) (length (words_of ids))) refl is

pub no_fault : NoFault
no_fault bytes are = (
  λ h. (ids_in bytes, (ids_are_read bytes are h).0, (ids_are_read bytes are h).1),
  λ (ids, is, e). ap fault (sym e) ∙ (encoding_is_read ids is).1,
)

pub one_wide : OneWide
one_wide ids others is are e = sym (encoding_is_read ids is).2 ∙ ap ids_in e ∙ (encoding_is_read others are).2

-- the count that bytes state is that of their ids
pub count_words : (bytes : List ℕ) → AreBytes bytes → in_words_fault bytes ≡ None → length (ids_in_words bytes) ≡ number_value bytes
count_words bytes are h =
    let later : List ℕ = reads.after_number bytes in
    let are' : AreBytes later = AreBytes-drop (number_end bytes) bytes are in
    ids_count (number_value bytes) (number_value later) (reads.after_number later) (bytes_are (reads.after_number later) (AreBytes-drop (number_end later) later are')) (words_rest bytes are h)

pub count_spread : (bytes : List ℕ) → AreBytes bytes → in_spread_fault bytes ≡ None → length (ids_in_spread bytes) ≡ number_value bytes
count_spread bytes are h =
    spread_count (number_value bytes) (reads.after_number bytes) (bytes_are (reads.after_number bytes) (AreBytes-drop (number_end bytes) bytes are)) (spread_rest bytes are h)
