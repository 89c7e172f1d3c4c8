-- What bytes without a fault state, by their form.
use Rattle.std.proofs.Common.{◌≡◌, ◌≢◌, ℕ, suc, ◌+◌, ◌-◌, ◌*◌, ◌^◌, ◌<◌, ◌≤◌, Bool, true, false, cond, eqb, List, [], ◌∷◌, drop, get_or, length, None, refl, sym, ap, ◌∙◌, arith, inl, inr, eq-eqb, subst, take, length-drop}
use Rattle.std.proofs.lemmas.Bool.{ne_eqb}
use Rattle.std.proofs.lemmas.Bool.Decides.{eqb_tells}
use Rattle.bitpacking.specs.Bits.{AreBytes}
use Rattle.bitpack_groups.proofs.ForCallers.{AreBytes-drop}
use Rattle.bitpack_groups.specs.Numbers.{number_end, number_fault, number_value}
use Rattle.std.proofs.lemmas.List.{take_rest}
use Rattle.bitpack_slices.specs.Slices.{quads_of}
use Rattle.bitpack_sets.proofs.ForCallers.{or_none}
use Rattle.bitpack_columns.specs.Opened.{encoding_of, values}
use Rattle.bitpack_columns.specs.Stated.{values_in}
use Rattle.bitpack_columns.specs.declared.column.Column.{Column}
use Rattle.bitpack_wide.proofs.EncodingLaws.{count_none, count_spread, count_words, some_not_none, spread_rest, word_count_none, words_rest}
use Rattle.bitpack_wide.specs.Faults.{fault, in_spread_fault, in_words_fault}
use Rattle.bitpack_wide.specs.Reads.{after_number, column_in, highs_in, ids_in, ids_in_spread, ids_in_words, paired, spread_ids}
use Rattle.bitpack_wide.specs.Directory.{word_ids}
use Rattle.bitpack_wide.specs.Sound.{IsRest, IsSpread}
use Rattle.bitpack_wide.specs.Opened.{ids}
use Rattle.bitpack_wide.specs.Stated.{States, after_count, after_form}
use Rattle.bitpack_wide.specs.declared.wide_set.WideSet.{WideSet}
use Rattle.bitpack_wide.specs.declared.wide_error.WideError.TheVariants.{BadVersion}

pub some_bytes : (bytes : List ℕ) → fault bytes ≡ None → 0 < length bytes
unfolding fault
some_bytes [] h = absurd (some_not_none _ h)
some_bytes (form ∷ bytes) h = omega arith

-- the fault of each form
pub words_form : (bytes : List ℕ) → fault bytes ≡ None → get_or bytes 0 0 ≡ 8 → (in_words_fault (after_form bytes) ≡ None) × (ids_in bytes ≡ ids_in_words (after_form bytes))
unfolding fault ids_in
words_form [] h e = absurd (some_not_none _ h)
words_form (form ∷ bytes) h e =
    let b = eq-eqb form 8 e in (
      sym (ap (λ (t : Bool). cond t (in_words_fault bytes) (cond (eqb form 9) (in_spread_fault bytes) (Rattle.std.proofs.Common.Some (BadVersion form)))) b) ∙ h,
      ap (λ (t : Bool). cond t (ids_in_words bytes) (ids_in_spread bytes)) b,
    )

pub spread_form : (bytes : List ℕ) → fault bytes ≡ None → get_or bytes 0 0 ≢ 8 → (in_spread_fault (after_form bytes) ≡ None) × (ids_in bytes ≡ ids_in_spread (after_form bytes))
unfolding fault ids_in
spread_form [] h e = absurd (some_not_none _ h)
spread_form (form ∷ bytes) h e =
    let b = ne_eqb form 8 e in
    let left = sym (ap (λ (t : Bool). cond t (in_words_fault bytes) (cond (eqb form 9) (in_spread_fault bytes) (Rattle.std.proofs.Common.Some (BadVersion form)))) b) ∙ h in
    elim (eqb_tells form 9) [
      | inl (nine, is) ↦ (
        sym (ap (λ (t : Bool). cond t (in_spread_fault bytes) (Rattle.std.proofs.Common.Some (BadVersion form))) nine) ∙ left,
        ap (λ (t : Bool). cond t (ids_in_words bytes) (ids_in_spread bytes)) b,
      )
      | inr (other, isnt) ↦ absurd (some_not_none _ (sym (ap (λ (t : Bool). cond t (in_spread_fault bytes) (Rattle.std.proofs.Common.Some (BadVersion form))) other) ∙ left))
    ]

words_count : (bytes : List ℕ) → in_words_fault bytes ≡ None → (number_fault bytes ≡ None) × (number_fault (after_number bytes) ≡ None)
unfolding in_words_fault
words_count bytes h =
    let (h1, h2) = or_none _ _ h in
    let (h3, h4) = or_none _ _ h2 in
    ((count_none bytes h1).0, (word_count_none (number_value bytes) (after_number bytes) h3).0)

spread_counts : (bytes : List ℕ) → in_spread_fault bytes ≡ None → number_fault bytes ≡ None
unfolding in_spread_fault
spread_counts bytes h = let (h1, h2) = or_none _ _ h in (count_none bytes h1).0

-- the count of ids is a number, and the count of high words
pub count_sound : (bytes : List ℕ) → fault bytes ≡ None → number_fault (after_form bytes) ≡ None
count_sound bytes h = elim (eqb_tells (get_or bytes 0 0) 8) [
  | inl (eight, is) ↦ (words_count (after_form bytes) (words_form bytes h is).0).0
  | inr (other, isnt) ↦ spread_counts (after_form bytes) (spread_form bytes h isnt).0
]

pub words_sound : (bytes : List ℕ) → fault bytes ≡ None → get_or bytes 0 0 ≡ 8 → number_fault (after_count bytes) ≡ None
words_sound bytes h e = (words_count (after_form bytes) (words_form bytes h e).0).1

-- the count that is stated is that of the ids
pub count_stated : (bytes : List ℕ) → AreBytes bytes → fault bytes ≡ None → number_value (after_form bytes) ≡ length (ids_in bytes)
count_stated bytes are h = elim (eqb_tells (get_or bytes 0 0) 8) [
  | inl (eight, is) ↦ (let (none, ids) = words_form bytes h is in sym (ap length ids ∙ count_words (after_form bytes) (AreBytes-drop 1 bytes are) none))
  | inr (other, isnt) ↦ (let (none, ids) = spread_form bytes h isnt in sym (ap length ids ∙ count_spread (after_form bytes) (AreBytes-drop 1 bytes are) none))
]

-- what reading relies on
pub stated_words : (bytes : List ℕ) (count words : ℕ) (rest : List ℕ) → AreBytes bytes → States bytes count words rest → get_or bytes 0 0 ≡ 8
    → IsRest count words rest × AreBytes rest × (word_ids words rest ≡ ids_in bytes)
stated_words bytes count words rest are is e =
    let (none, ids) = words_form bytes is.none e in
    let later : List ℕ = after_count bytes in
    let left : List ℕ = after_number later in
    let c = is.count_is in
    let w = is.words_is e in
    let r = is.in_words e in
    let sound = words_rest (after_form bytes) (AreBytes-drop 1 bytes are) none in (
      subst (λ (n : ℕ). IsRest n words rest) (sym c) (subst (λ (n : ℕ). IsRest (number_value (after_form bytes)) n rest) (sym w) (subst (IsRest (number_value (after_form bytes)) (number_value later)) (sym r) sound)),
      subst AreBytes (sym r) (AreBytes-drop (number_end later) later (AreBytes-drop (number_end (after_form bytes)) (after_form bytes) (AreBytes-drop 1 bytes are))),
      ap (λ (n : ℕ). word_ids n rest) w ∙ ap (word_ids (number_value later)) r ∙ sym ids,
    )

pub stated_spread : (bytes : List ℕ) (count words : ℕ) (rest : List ℕ) → AreBytes bytes → States bytes count words rest → get_or bytes 0 0 ≢ 8
    → IsSpread count rest × AreBytes rest × (spread_ids count rest ≡ ids_in bytes)
stated_spread bytes count words rest are is e =
    let (none, ids) = spread_form bytes is.none e in
    let c = is.count_is in
    let r = is.spread e in
    let sound = spread_rest (after_form bytes) (AreBytes-drop 1 bytes are) none in (
      subst (λ (n : ℕ). IsSpread n rest) (sym c) (subst (IsSpread (number_value (after_form bytes))) (sym r) sound),
      subst AreBytes (sym r) (AreBytes-drop (number_end (after_form bytes)) (after_form bytes) (AreBytes-drop 1 bytes are)),
      ap (λ (n : ℕ). spread_ids n rest) c ∙ ap (spread_ids (number_value (after_form bytes))) r ∙ sym ids,
    )

-- the count of a set that was opened
pub count_is : (set : WideSet) → set.count ≡ length (ids set)
count_is set = set.states.count_is ∙ count_stated set.bytes.now set.are_bytes set.states.none

-- a set that is spread out, as it is cut
pub spread_cut : (count : ℕ) (rest : List ℕ) (column : Column) → encoding_of column ≡ column_in count rest
    → paired (values column) (quads_of (take (length rest - (length rest - 4 * count)) (drop (length rest - 4 * count) rest))) ≡ spread_ids count rest
spread_cut count rest column e =
    ap (λ (l : List ℕ). paired l (quads_of (take (length rest - (length rest - 4 * count)) (drop (length rest - 4 * count) rest)))) (ap values_in e)
    ∙ ap (λ (l : List ℕ). paired (highs_in count rest) (quads_of l)) (take_rest rest (length rest - 4 * count))

pub lows_len : (count : ℕ) (rest : List ℕ) (column : Column) → encoding_of column ≡ column_in count rest → 4 * count ≤ length rest → length (highs_in count rest) ≡ count
    → length (take (length rest - (length rest - 4 * count)) (drop (length rest - 4 * count) rest)) ≡ 4 * length (values column)
lows_len count rest column e room size =
    let a = ap length (take_rest rest (length rest - 4 * count)) in
    let b = length-drop (length rest - 4 * count) rest in
    let d = ap (λ (l : List ℕ). length (values_in l)) e in
    omega arith
