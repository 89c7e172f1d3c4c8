-- What is tested after byte 0, by what byte 0 is; and what an opened set states.
use Rattle.std.proofs.Common.{◌≡◌, ◌≢◌, ℕ, ◌-◌, ◌*◌, ◌<◌, ◌≤◌, Bool, eqb, ltb, cond, List, [], ◌∷◌, drop, length, get_or, Option, Some, None, refl, sym, ap, ◌∙◌, arith, subst, eq-eqb, inl, inr}
use Rattle.std.specs.Option.{is_some}
use Rattle.std.proofs.lemmas.Bool.{cases_lt, le-ltb, lt-ltb, ne_eqb, true≢false}
use Rattle.std.proofs.lemmas.Bool.Decides.{eqb_tells}
use Rattle.bitpacking.specs.Bits.{AreBytes}
use Rattle.bitpack_slices.proofs.ForCallers.{EachByte, bytes_are, bytes_dropped}
use Rattle.bitpack_sets.proofs.lemmas.faults.EntryLaws.{rest_none}
use Rattle.bitpack_sets.proofs.lemmas.faults.FaultLaws.{map_none, not_below, or_none}
use Rattle.bitpack_sets.proofs.lemmas.encodings.EncodingLaws.{chunks_none, some_not_none}
use Rattle.bitpack_sets.specs.Directory.{chunk_ids}
use Rattle.bitpack_sets.specs.Faults.{array_fault, count_fault, fault, ids_fault, in_chunks_fault, short_fault}
use Rattle.bitpack_sets.specs.Reads.{few_ids, ids_in, ids_in_array, ids_in_chunks}
use Rattle.bitpack_slices.specs.Slices.{quads_of}
use Rattle.bitpack_sets.specs.Sound.{IsRest}
use Rattle.bitpack_sets.specs.Stated.{States, after_count, stated_count}
use Rattle.bitpack_sets.specs.Varints.{number_end, number_fault, number_value, set_error}
use Rattle.bitpack_slices.specs.declared.set_error.SetError.{SetError}
use Rattle.bitpack_slices.specs.declared.set_error.SetError.TheVariants.{BadVersion, Short}
use Rattle.bitpack_groups.proofs.ForCallers.{passed}

abbrev low_fault : ℕ → List ℕ → Option SetError
low_fault form bytes = cond (ltb form 128) (Some (BadVersion form)) (short_fault (form - 128) bytes)

abbrev other_fault : ℕ → List ℕ → Option SetError
other_fault form bytes = cond (eqb form 6) (array_fault bytes) (low_fault form bytes)

pub at_none : (bytes : List ℕ) → length bytes ≡ 0 → fault bytes ≡ Some Short
unfolding fault
at_none [] e = refl
at_none (form ∷ bytes) e = absurd (omega arith)

pub at_five : (bytes : List ℕ) → 0 < length bytes → get_or bytes 0 0 ≡ 5 → fault bytes ≡ in_chunks_fault (drop 1 bytes)
unfolding fault
at_five [] h e = absurd (omega arith)
at_five (form ∷ bytes) h e = ap (λ (b : Bool). cond b (in_chunks_fault bytes) (other_fault form bytes)) (eq-eqb form 5 e)

not_five : (form : ℕ) (bytes : List ℕ) → form ≢ 5 → fault (form ∷ bytes) ≡ other_fault form bytes
unfolding fault
not_five form bytes h = ap (λ (b : Bool). cond b (in_chunks_fault bytes) (other_fault form bytes)) (ne_eqb form 5 h)

pub at_six : (bytes : List ℕ) → 0 < length bytes → get_or bytes 0 0 ≡ 6 → fault bytes ≡ array_fault (drop 1 bytes)
at_six [] h e = absurd (omega arith)
at_six (form ∷ bytes) h e =
    not_five form bytes (λ f. absurd (omega arith)) ∙ ap (λ (b : Bool). cond b (array_fault bytes) (low_fault form bytes)) (eq-eqb form 6 e)

not_six : (form : ℕ) (bytes : List ℕ) → form ≢ 5 → form ≢ 6 → fault (form ∷ bytes) ≡ low_fault form bytes
not_six form bytes h k = not_five form bytes h ∙ ap (λ (b : Bool). cond b (array_fault bytes) (low_fault form bytes)) (ne_eqb form 6 k)

pub at_low : (bytes : List ℕ) → 0 < length bytes → get_or bytes 0 0 ≢ 5 → get_or bytes 0 0 ≢ 6 → get_or bytes 0 0 < 128 → fault bytes ≡ Some (BadVersion (get_or bytes 0 0))
at_low [] h a b c = absurd (omega arith)
at_low (form ∷ bytes) h a b c = not_six form bytes a b ∙ ap (λ (t : Bool). cond t (Some (BadVersion form)) (short_fault (form - 128) bytes)) (lt-ltb form 128 c)

pub at_few : (bytes : List ℕ) → 0 < length bytes → 128 ≤ get_or bytes 0 0 → fault bytes ≡ short_fault (get_or bytes 0 0 - 128) (drop 1 bytes)
at_few [] h c = absurd (omega arith)
at_few (form ∷ bytes) h c =
    not_six form bytes (λ e. absurd (omega arith)) (λ e. absurd (omega arith)) ∙ ap (λ (t : Bool). cond t (Some (BadVersion form)) (short_fault (form - 128) bytes)) (le-ltb form 128 c)

-- ---- what a set states

pub some_bytes : (bytes : List ℕ) → fault bytes ≡ None → 0 < length bytes
some_bytes [] e = absurd (true≢false (ap is_some (sym (at_none [] refl) ∙ e)))
some_bytes (byte ∷ bytes) e = omega arith

ids_five : (bytes : List ℕ) → 0 < length bytes → get_or bytes 0 0 ≡ 5 → ids_in bytes ≡ ids_in_chunks (drop 1 bytes)
unfolding ids_in
ids_five [] h e = absurd (omega arith)
ids_five (form ∷ bytes) h e = ap (λ (b : Bool). cond b (ids_in_chunks bytes) (cond (eqb form 6) (ids_in_array bytes) (few_ids (form - 128) bytes))) (eq-eqb form 5 e)

ids_six : (bytes : List ℕ) → 0 < length bytes → get_or bytes 0 0 ≡ 6 → ids_in bytes ≡ ids_in_array (drop 1 bytes)
unfolding ids_in
ids_six [] h e = absurd (omega arith)
ids_six (form ∷ bytes) h e =
    ap (λ (b : Bool). cond b (ids_in_chunks bytes) (cond (eqb form 6) (ids_in_array bytes) (few_ids (form - 128) bytes))) (ne_eqb form 5 (λ f. absurd (omega arith)))
    ∙ ap (λ (b : Bool). cond b (ids_in_array bytes) (few_ids (form - 128) bytes)) (eq-eqb form 6 e)

ids_few : (bytes : List ℕ) → 0 < length bytes → 128 ≤ get_or bytes 0 0 → ids_in bytes ≡ few_ids (get_or bytes 0 0 - 128) (drop 1 bytes)
unfolding ids_in
ids_few [] h e = absurd (omega arith)
ids_few (form ∷ bytes) h e =
    ap (λ (b : Bool). cond b (ids_in_chunks bytes) (cond (eqb form 6) (ids_in_array bytes) (few_ids (form - 128) bytes))) (ne_eqb form 5 (λ f. absurd (omega arith)))
    ∙ ap (λ (b : Bool). cond b (ids_in_array bytes) (few_ids (form - 128) bytes)) (ne_eqb form 6 (λ f. absurd (omega arith)))

-- the count that is stated
low_count : (bytes : List ℕ) → get_or bytes 0 0 < 128 → stated_count bytes ≡ number_value (drop 1 bytes)
low_count bytes h = ap (λ (b : Bool). cond b (number_value (drop 1 bytes)) (get_or bytes 0 0 - 128)) (lt-ltb (get_or bytes 0 0) 128 h)

high_count : (bytes : List ℕ) → 128 ≤ get_or bytes 0 0 → stated_count bytes ≡ get_or bytes 0 0 - 128
high_count bytes h = ap (λ (b : Bool). cond b (number_value (drop 1 bytes)) (get_or bytes 0 0 - 128)) (le-ltb (get_or bytes 0 0) 128 h)

-- a set in chunks
pub record InChunks (bytes : List ℕ) (count chunks : ℕ) (rest : List ℕ) : Type 0 where
  pub few : chunks ≤ 65536
  pub is : IsRest count chunks rest
  pub ids_are : ids_in bytes ≡ chunk_ids chunks rest

pub stated_chunks : (bytes rest : List ℕ) (count chunks : ℕ) → AreBytes bytes → States bytes count chunks rest → get_or bytes 0 0 ≡ 5 → InChunks bytes count chunks rest
unfolding in_chunks_fault
stated_chunks bytes rest count chunks are is five =
    let some = some_bytes bytes is.none in
    let later : List ℕ = drop 1 bytes in
    let after : List ℕ = drop (number_end later) later in
    let (h1, h2) = or_none _ _ (sym (at_five bytes some five) ∙ is.none) in
    let (h3, h4) = or_none _ _ h2 in
    let (sound, some', apart, most) = chunks_none (number_value later) after h3 in
    let n : count ≡ number_value later = is.count_is ∙ low_count bytes (omega arith) in
    let c : chunks ≡ number_value after = is.chunks_is five in
    let r : rest ≡ drop (number_end after) after = is.in_chunks five in
    let each : EachByte (drop (number_end after) after) = bytes_dropped (number_end after) after (bytes_dropped (number_end later) later (bytes_dropped 1 bytes (bytes_are bytes are))) in
    let here : IsRest (number_value later) (number_value after) (drop (number_end after) after) = rest_none (number_value later) (number_value after) (drop (number_end after) after) each some' h4 in
    record {
      few = omega arith;
      is = subst (λ (m : ℕ). IsRest m chunks rest) (sym n) (subst (λ (m : ℕ). IsRest (number_value later) m rest) (sym c) (subst (IsRest (number_value later) (number_value after)) (sym r) here));
      ids_are = ids_five bytes some five ∙ ap (λ (m : ℕ). chunk_ids m (drop (number_end after) after)) (sym c) ∙ ap (chunk_ids chunks) (sym r);
    }

-- an array
pub record InArray (bytes : List ℕ) (count : ℕ) (rest : List ℕ) : Type 0 where
  pub long : length rest ≡ 4 * count
  pub ids_are : ids_in bytes ≡ quads_of rest

pub stated_array : (bytes rest : List ℕ) (count chunks : ℕ) → AreBytes bytes → States bytes count chunks rest → get_or bytes 0 0 ≡ 6 → InArray bytes count rest
unfolding array_fault ids_fault
stated_array bytes rest count chunks are is six =
    let some = some_bytes bytes is.none in
    let later : List ℕ = drop 1 bytes in
    let after : List ℕ = drop (number_end later) later in
    let (h1, h2) = or_none _ _ (sym (at_six bytes some six) ∙ is.none) in
    let (short, h3) = or_none _ _ h2 in
    let (falls, h4) = or_none _ _ h3 in
    let (apart, left) = or_none _ _ h4 in
    let low = not_below (length after) (4 * number_value later) (passed _ _ _ short).0 in
    let high = not_below (4 * number_value later) (length after) (passed _ _ _ left).0 in
    let n : count ≡ number_value later = is.count_is ∙ low_count bytes (omega arith) in
    let r : rest ≡ after = is.in_array six in
    let size = ap length r in
    record { long = omega arith; ids_are = ids_six bytes some six ∙ ap quads_of (sym r) }

-- fewer than 128 ids
pub record HasFew (bytes : List ℕ) (count : ℕ) (rest : List ℕ) : Type 0 where
  pub few : count ≤ 127
  pub sound : short_fault count rest ≡ None
  pub ids_are : ids_in bytes ≡ few_ids count rest

pub stated_few : (bytes rest : List ℕ) (count chunks : ℕ) → AreBytes bytes → States bytes count chunks rest → get_or bytes 0 0 ≢ 5 → get_or bytes 0 0 ≢ 6 → HasFew bytes count rest
stated_few bytes rest count chunks are is not5 not6 =
    let some = some_bytes bytes is.none in
    let byte = are 0 in
    let high : 128 ≤ get_or bytes 0 0 = elim (cases_lt (get_or bytes 0 0) 128) [
      | inl low ↦ absurd (some_not_none _ (sym (at_low bytes some not5 not6 low) ∙ is.none))
      | inr more ↦ more
    ] in
    let n : count ≡ get_or bytes 0 0 - 128 = is.count_is ∙ high_count bytes high in
    let r : rest ≡ drop 1 bytes = is.few (le-ltb (get_or bytes 0 0) 128 high) in
    let none : short_fault (get_or bytes 0 0 - 128) (drop 1 bytes) ≡ None = sym (at_few bytes some high) ∙ is.none in
    record {
      few = omega arith;
      sound = ap (λ (m : ℕ). short_fault m rest) n ∙ ap (short_fault (get_or bytes 0 0 - 128)) r ∙ none;
      ids_are = ids_few bytes some high ∙ ap (λ (m : ℕ). few_ids m (drop 1 bytes)) (sym n) ∙ ap (few_ids count) (sym r);
    }

-- ---- an encoding without a fault

pub low_form : (bytes : List ℕ) → fault bytes ≡ None → get_or bytes 0 0 < 128 → get_or bytes 0 0 ≢ 6 → get_or bytes 0 0 ≡ 5
low_form bytes none low not6 = elim (eqb_tells (get_or bytes 0 0) 5) [
  | inl (five, is) ↦ is
  | inr (other, isnt) ↦ absurd (some_not_none _ (sym (at_low bytes (some_bytes bytes none) isnt not6 low) ∙ none))
]

pub count_sound : (bytes : List ℕ) → count_fault bytes ≡ None → number_fault bytes ≡ None
unfolding count_fault
count_sound bytes e = let (a, b) = or_none _ _ e in map_none set_error _ a

pub low_number : (bytes : List ℕ) → fault bytes ≡ None → get_or bytes 0 0 < 128 → number_fault (drop 1 bytes) ≡ None
unfolding in_chunks_fault array_fault
low_number bytes none low = elim (eqb_tells (get_or bytes 0 0) 6) [
  | inl (six, is) ↦ (let (a, b) = or_none _ _ (sym (at_six bytes (some_bytes bytes none) is) ∙ none) in count_sound (drop 1 bytes) a)
  | inr (other, isnt) ↦ (let (a, b) = or_none _ _ (sym (at_five bytes (some_bytes bytes none) (low_form bytes none low isnt)) ∙ none) in count_sound (drop 1 bytes) a)
]

pub five_number : (bytes : List ℕ) → fault bytes ≡ None → get_or bytes 0 0 ≡ 5 → number_fault (after_count bytes) ≡ None
unfolding in_chunks_fault
five_number bytes none five =
    let (a, b) = or_none _ _ (sym (at_five bytes (some_bytes bytes none) five) ∙ none) in
    let (c, d) = or_none _ _ b in
    (chunks_none (number_value (drop 1 bytes)) (after_count bytes) c).0
