-- A set of fewer than 128 ids has no fault exactly if it is the encoding of the ids that are read from it.
use Rattle.std.proofs.Common.{◌≡◌, ℕ, zero, suc, ◌+◌, ◌-◌, ◌*◌, ◌^◌, ◌<◌, ◌≤◌, Bool, leb, cond, min, List, [], ◌∷◌, ◌++◌, take, drop, length, get_or, Option, Some, None, refl, sym, ap, ◌∙◌, arith, inl, inr, subst, take-append-drop, append_assoc, set, add-one}
use Rattle.std.specs.Option.{is_some}
use Rattle.std.proofs.lemmas.Bool.{cases_lt, le-leb, le-ltb, lt-leb, true≢false}
use Rattle.std.proofs.lemmas.List.{append-nil, drop_all, drop_at, drop_more, take_all, take_more_set}
use Rattle.bitpack_groups.specs.Groups.{group_end}
use Rattle.bitpack_groups.specs.declared.group_error.GroupError.{GroupError}
use Rattle.bitpack_groups.proofs.ForCallers.{AreBytes-drop, fault-here, fault-next, groups_are, groups_are_read, groups_read_back, groups_run, number_reads_back, one_number, passed}
use Rattle.bitpacking.specs.Bits.{AreBytes}
use Rattle.bitpacking.specs.Codes.{AreWords}
use Rattle.bitpack_sets.proofs.lemmas.faults.FaultLaws.{map_none, none_map, none_or, not_below, or_none, some_not}
use Rattle.bitpack_slices.proofs.ForCallers.{Below, rising_lower, rising_room}
use Rattle.bitpack_sets.proofs.lemmas.encodings.LongLaws.{rising_below}
use Rattle.bitpack_sets.specs.Faults.{first_over, ids_from, short_fault, short_ids, some_fault}
use Rattle.bitpack_sets.specs.Reads.{few_ids}
use Rattle.bitpack_slices.specs.Bodies.{IsRising}
use Rattle.bitpack_sets.specs.Sets.{gaps, groups, short}
use Rattle.bitpack_sets.specs.Varints.{AreGroups, after_groups, group_fault, of, groups_codes, groups_fault, groups_of, number, number_end, number_fault, number_value, set_error}
use Rattle.bitpack_slices.specs.declared.set_error.SetError.{SetError}
use Rattle.bitpack_slices.specs.declared.set_error.SetError.TheVariants.{NotSorted, Trailing}

-- ---- groups

-- each is below 2 ^ 32
pub below_words : (xs : List ℕ) → Below (2 ^ 32) xs → AreWords xs
below_words [] h k d lt = absurd (omega arith)
below_words (x ∷ xs) (a, h) zero d lt = a
below_words (x ∷ xs) (a, h) (suc k) d lt = below_words xs h k d (omega arith)

-- ---- ids and their gaps

begins : (first : ℕ) (codes : List ℕ) → ids_from first codes ≡ first ∷ drop 1 (ids_from first codes)
unfolding ids_from
begins first [] = refl
begins first (code ∷ codes) = refl

from_len : (first : ℕ) (codes : List ℕ) → length (ids_from first codes) ≡ suc (length codes)
unfolding ids_from
from_len first [] = refl
from_len first (code ∷ codes) = ap suc (from_len (first + code + 1) codes)

less_is : (first code : ℕ) → first + code + 1 - first - 1 ≡ code
less_is first code = omega arith

gaps_back : (first : ℕ) (codes : List ℕ) → gaps first (drop 1 (ids_from first codes)) ≡ codes
unfolding ids_from gaps
gaps_back first [] = refl
gaps_back first (code ∷ codes) =
    let next : ℕ = first + code + 1 in
    ap (gaps first) (begins next codes) ∙ ap (λ (n : ℕ). n ∷ gaps next (drop 1 (ids_from next codes))) (less_is first code) ∙ ap (λ (l : List ℕ). code ∷ l) (gaps_back next codes)

gap_is : (before x : ℕ) → before + 1 ≤ x → before + (x - before - 1) + 1 ≡ x
gap_is before x h = omega arith

pub ids_back : (x : ℕ) (xs : List ℕ) → IsRising (x + 1) (2 ^ 32) xs → ids_from x (gaps x xs) ≡ x ∷ xs
unfolding ids_from gaps
ids_back x [] r = refl
ids_back x (y ∷ ys) (a, r) =
    ap (λ (n : ℕ). x ∷ ids_from n (gaps y ys)) (gap_is x y a) ∙ ap (λ (l : List ℕ). x ∷ l) (ids_back y ys r)

pub gaps_len : (x : ℕ) (xs : List ℕ) → length (gaps x xs) ≡ length xs
unfolding gaps
gaps_len x [] = refl
gaps_len x (y ∷ ys) = ap suc (gaps_len y ys)

pub gaps_below : (x : ℕ) (xs : List ℕ) → IsRising (x + 1) (2 ^ 32) xs → Below (2 ^ 32) (gaps x xs)
unfolding gaps
gaps_below x [] r = tt
gaps_below x (y ∷ ys) (a, r) = let room = rising_room (y + 1) (2 ^ 32) ys r in (omega arith, gaps_below y ys r)

-- ---- none is too large

over_none : (position : ℕ) (xs : List ℕ) → first_over position xs ≡ None → Below (2 ^ 32) xs
unfolding first_over
over_none position [] e = tt
over_none position (x ∷ xs) e =
    let (low, later) = passed (leb (2 ^ 32) x) position (first_over (position + 1) xs) e in
    let small : x < 2 ^ 32 = elim (cases_lt x (2 ^ 32)) [ inl less ↦ less | inr more ↦ absurd (true≢false (sym (le-leb (2 ^ 32) x more) ∙ low)) ] in
    (small, over_none (position + 1) xs later)

none_over : (position : ℕ) (xs : List ℕ) → Below (2 ^ 32) xs → first_over position xs ≡ None
unfolding first_over
none_over position [] h = refl
none_over position (x ∷ xs) (a, h) = some_not (leb (2 ^ 32) x) position (first_over (position + 1) xs) (lt-leb (2 ^ 32) x a) (none_over (position + 1) xs h)

-- as a loop finds it
pub over_next : (i id next : ℕ) (codes : List ℕ) → i < length codes → id < 2 ^ 32 → next ≡ id + (get_or codes i 0 + 1)
    → first_over i (ids_from id (drop i codes)) ≡ first_over (i + 1) (ids_from next (drop (i + 1) codes))
unfolding first_over ids_from
over_next i id next codes h small e =
    let code : ℕ = get_or codes i 0 in
    let f : id + code + 1 ≡ next = omega arith in
    ap (λ (l : List ℕ). first_over i (ids_from id l)) (drop_more codes i 0 h)
    ∙ ap (λ (b : Bool). cond b (Some i) (first_over (i + 1) (ids_from (id + code + 1) (drop (i + 1) codes)))) (lt-leb (2 ^ 32) id small)
    ∙ ap (λ (n : ℕ). first_over (i + 1) (ids_from n (drop (i + 1) codes))) f

pub over_found : (position id : ℕ) (codes : List ℕ) → 2 ^ 32 ≤ id → first_over position (ids_from id codes) ≡ Some position
unfolding first_over
over_found position id codes h =
    ap (first_over position) (begins id codes) ∙ ap (λ (b : Bool). cond b (Some position) (first_over (position + 1) (drop 1 (ids_from id codes)))) (le-leb (2 ^ 32) id h)

pub over_done : (i id : ℕ) (codes : List ℕ) → length codes ≤ i → id < 2 ^ 32 → first_over i (ids_from id (drop i codes)) ≡ None
unfolding first_over ids_from
over_done i id codes h small =
    ap (λ (l : List ℕ). first_over i (ids_from id l)) (drop_all i codes h) ∙ ap (λ (b : Bool). cond b (Some i) None) (lt-leb (2 ^ 32) id small)

pub over_small : (i id : ℕ) (codes : List ℕ) → i < length codes → id < 2 ^ 32 → first_over i (ids_from id (drop i codes)) ≡ None → id + (get_or codes i 0 + 1) < 2 ^ 32
over_small i id codes h small none = elim (cases_lt (id + (get_or codes i 0 + 1)) (2 ^ 32)) [
  | inl less ↦ less
  | inr more ↦ absurd (true≢false (ap is_some (sym (over_next i id (id + (get_or codes i 0 + 1)) codes h small refl ∙ over_found (i + 1) (id + (get_or codes i 0 + 1)) (drop (i + 1) codes) more) ∙ none)))
]

-- as a loop writes them
pub ids_first : (first : ℕ) (out codes : List ℕ) → 0 < length out → take (0 + 1) (set out 0 first) ++ drop 1 (ids_from first (drop 0 codes)) ≡ ids_from first codes
ids_first first [] codes h = absurd (omega arith)
ids_first first (x ∷ out) codes h = sym (begins first codes)

pub ids_next : (i id next : ℕ) (codes out : List ℕ) → i < length codes → i + 1 < length out → next ≡ id + (get_or codes i 0 + 1)
    → take (i + 1 + 1) (set out (i + 1) next) ++ drop 1 (ids_from next (drop (i + 1) codes)) ≡ take (i + 1) out ++ drop 1 (ids_from id (drop i codes))
unfolding ids_from
ids_next i id next codes out h room e =
    let code : ℕ = get_or codes i 0 in
    let f : next ≡ id + code + 1 = omega arith in
    let left : List ℕ = drop 1 (ids_from next (drop (i + 1) codes)) in
    ap (λ (l : List ℕ). l ++ left) (take_more_set out (i + 1) next room) ∙ append_assoc (take (i + 1) out) (next ∷ []) left
    ∙ ap (λ (l : List ℕ). take (i + 1) out ++ l) (sym (begins next (drop (i + 1) codes)) ∙ ap (λ (n : ℕ). ids_from n (drop (i + 1) codes)) f)
    ∙ ap (λ (l : List ℕ). take (i + 1) out ++ drop 1 (ids_from id l)) (sym (drop_more codes i 0 h))

pub ids_done : (i id : ℕ) (codes out : List ℕ) → length codes ≤ i → length out ≤ i + 1 → out ≡ take (i + 1) out ++ drop 1 (ids_from id (drop i codes))
unfolding ids_from
ids_done i id codes out h room =
    sym (take_all (i + 1) out room) ∙ sym (append-nil (take (i + 1) out)) ∙ ap (λ (l : List ℕ). take (i + 1) out ++ drop 1 (ids_from id l)) (sym (drop_all i codes h))

from_rises : (first : ℕ) (codes : List ℕ) → Below (2 ^ 32) (ids_from first codes) → IsRising first (2 ^ 32) (ids_from first codes)
unfolding ids_from
from_rises first [] (a, h) = (omega arith, omega arith)
from_rises first (code ∷ codes) (a, h) =
    (omega arith, rising_lower (first + code + 1) (first + 1) (2 ^ 32) (ids_from (first + code + 1) codes) (omega arith) (from_rises (first + code + 1) codes h))

-- ---- as a loop finds it

of_some : (o : Option GroupError) (e : SetError) → of o ≡ Some e → (fault : GroupError) × (o ≡ Some fault) × (set_error fault ≡ e)
of_some None e h = absurd (true≢false (sym (ap is_some h)))
of_some (Some fault) e h = (fault, refl, unwrapped (set_error fault) e h)
  where
    unwrapped : (a b : SetError) → ◌≡◌ {A = Option SetError} (Some a) (Some b) → a ≡ b
    unwrapped a b h = cc

zero_plus : (i : ℕ) → 0 + i ≡ i
zero_plus i = omega arith

pub of_here : (groups total i count : ℕ) (rest : List ℕ) (e : SetError) → i < groups → count ≡ min 32 (total - 32 * i) → of (group_fault i count rest) ≡ Some e
    → of (groups_fault (groups - i) (0 + i) (total - 32 * i) rest) ≡ Some e
of_here groups total i count rest e lt is h =
    let (fault, found, same) = of_some (group_fault i count rest) e h in
    let here = fault-here groups 0 total i count rest lt is fault (ap (λ (n : ℕ). group_fault n count rest) (zero_plus i) ∙ found) in
    ap of here ∙ ap Some same

pub of_later : (groups total i count : ℕ) (rest : List ℕ) → i < groups → count ≡ min 32 (total - 32 * i) → of (group_fault i count rest) ≡ None
    → groups_fault (groups - i) (0 + i) (total - 32 * i) rest ≡ groups_fault (groups - (i + 1)) (0 + (i + 1)) (total - 32 * (i + 1)) (drop (group_end count rest) rest)
of_later groups total i count rest lt is h =
    fault-next groups 0 total i count rest lt is (ap (λ (n : ℕ). group_fault n count rest) (zero_plus i) ∙ map_none set_error (group_fault i count rest) h)

-- ---- the law

pub no_bytes : (bytes : List ℕ) → length bytes ≤ 0 → bytes ≡ []
no_bytes [] h = refl
no_bytes (byte ∷ bytes) h = absurd (omega arith)

-- the encoding of an id and others, after byte 0
abbrev pub later_encoding : ℕ → List ℕ → List ℕ
later_encoding x xs = number x ++ groups (groups_of (length xs)) (gaps x xs)

pub short_is : (x : ℕ) (xs : List ℕ) → short (x ∷ xs) ≡ (129 + length xs) ∷ later_encoding x xs
unfolding short
short_is x xs = refl

pub short_none : (more : ℕ) (bytes : List ℕ) → AreBytes bytes → short_fault (suc more) bytes ≡ None
    → IsRising 0 (2 ^ 32) (short_ids more bytes) × (length (short_ids more bytes) ≡ suc more) × (short (short_ids more bytes) ≡ (129 + more) ∷ bytes)
unfolding short_fault some_fault
short_none more bytes are e =
    let (number_none, e1) = or_none _ _ e in
    let (groups_none, e2) = or_none _ _ e1 in
    let (over, after) = or_none _ _ e2 in
    let rest : List ℕ = drop (number_end bytes) bytes in
    let value : ℕ = number_value bytes in
    let codes : List ℕ = groups_codes (groups_of more) more rest in
    let (small, front, only) = one_number bytes are (map_none set_error _ number_none) in
    let (many, words, (run, split, run_is)) = groups_are_read (groups_of more) 0 more rest (omega arith) (omega arith) (AreBytes-drop (number_end bytes) bytes are) (map_none set_error _ groups_none) in
    let below : Below (2 ^ 32) (ids_from value codes) = over_none 0 (ids_from value codes) (map_none NotSorted _ over) in
    let end : after_groups (groups_of more) more rest ≡ [] = no_bytes (after_groups (groups_of more) more rest) (not_below 0 (length (after_groups (groups_of more) more rest)) (passed _ _ _ after).0) in
    let whole : rest ≡ run = split ∙ ap (λ (l : List ℕ). run ++ l) end ∙ append-nil run in
    let run_encoding : run ≡ groups (groups_of more) codes = groups_are (groups_of more) codes run words run_is in
    let later : List ℕ = drop 1 (ids_from value codes) in
    let begin : ids_from value codes ≡ value ∷ later = begins value codes in
    let long = from_len value codes in
    let size : length later ≡ more = (let f = ap length begin in omega arith) in (
      rising_lower value 0 (2 ^ 32) (ids_from value codes) (omega arith) (from_rises value codes below),
      omega arith,
      ap short begin ∙ short_is value later
          ∙ ap (λ (n : ℕ). (129 + n) ∷ (number value ++ groups (groups_of n) (gaps value later))) size
          ∙ ap (λ (l : List ℕ). (129 + more) ∷ (number value ++ groups (groups_of more) l)) (gaps_back value codes)
          ∙ ap (λ (l : List ℕ). (129 + more) ∷ (number value ++ l)) (sym run_encoding ∙ sym whole)
          ∙ ap (λ (l : List ℕ). (129 + more) ∷ (l ++ rest)) (sym front)
          ∙ ap (λ (l : List ℕ). (129 + more) ∷ l) (take-append-drop (number_end bytes) bytes),
    )

-- the groups of codes are bytes, and are read
pub later_bytes : (x : ℕ) (xs : List ℕ) → IsRising (x + 1) (2 ^ 32) xs → AreBytes (groups (groups_of (length xs)) (gaps x xs))
later_bytes x xs r = subst (λ (n : ℕ). AreBytes (groups (groups_of n) (gaps x xs))) (gaps_len x xs) (groups_run (gaps x xs) (below_words (gaps x xs) (gaps_below x xs r))).0

pub none_short : (x : ℕ) (xs : List ℕ) → IsRising 0 (2 ^ 32) (x ∷ xs) → short_fault (suc (length xs)) (later_encoding x xs) ≡ None
unfolding short_fault some_fault
none_short x xs (zero', r) =
    let room = rising_room (x + 1) (2 ^ 32) xs r in
    let more : ℕ = length xs in
    let codes : List ℕ = gaps x xs in
    let long : length codes ≡ more = gaps_len x xs in
    let run : List ℕ = groups (groups_of more) codes in
    let (sound, value, end) = number_reads_back x run (omega arith) in
    let rest : drop (number_end (number x ++ run)) (number x ++ run) ≡ run = drop_at (number x) run (number_end (number x ++ run)) (sym end) in
    let run_is : AreGroups (groups_of more) codes run = subst (λ (n : ℕ). AreGroups (groups_of n) codes (groups (groups_of n) codes)) long (groups_run codes (below_words codes (gaps_below x xs r))).1 in
    let read = groups_read_back (groups_of more) 0 codes run [] (omega arith) (omega arith) (below_words codes (gaps_below x xs r)) run_is in
    let (none, back, after) = subst (λ (n : ℕ). (groups_fault (groups_of more) 0 n (run ++ []) ≡ None) × (groups_codes (groups_of more) n (run ++ []) ≡ codes) × (after_groups (groups_of more) n (run ++ []) ≡ [])) long read in
    let same : drop (number_end (number x ++ run)) (number x ++ run) ≡ run ++ [] = rest ∙ sym (append-nil run) in
    let ids : ids_from (number_value (number x ++ run)) (groups_codes (groups_of more) more (drop (number_end (number x ++ run)) (number x ++ run))) ≡ x ∷ xs =
    ap (λ (n : ℕ). ids_from n (groups_codes (groups_of more) more (drop (number_end (number x ++ run)) (number x ++ run)))) value
    ∙ ap (λ (l : List ℕ). ids_from x (groups_codes (groups_of more) more l)) same ∙ ap (ids_from x) back ∙ ids_back x xs r in
    let left : after_groups (groups_of more) more (drop (number_end (number x ++ run)) (number x ++ run)) ≡ [] = ap (after_groups (groups_of more) more) same ∙ after in
    none_or _ _ (none_map set_error (number_fault (number x ++ run)) sound)
    (none_or _ _ (none_map set_error _ (ap (groups_fault (groups_of more) 0 more) same ∙ none))
    (none_or _ _ (none_map NotSorted _ (ap (first_over 0) ids ∙ none_over 0 (x ∷ xs) (rising_below 0 (2 ^ 32) (x ∷ xs) (zero', r))))
    (some_not _ Trailing None (le-ltb 0 (length (after_groups (groups_of more) more (drop (number_end (number x ++ run)) (number x ++ run)))) (omega (arith, ap length left))) refl)))

-- what one id and others without a fault have
pub record IsSoundFew (more : ℕ) (bytes : List ℕ) : Type 0 where
  pub number : number_fault bytes ≡ None
  pub groups_none : groups_fault (groups_of more) 0 more (drop (number_end bytes) bytes) ≡ None
  pub small : first_over 0 (short_ids more bytes) ≡ None

pub sound_few : (more : ℕ) (bytes : List ℕ) → some_fault more bytes ≡ None → IsSoundFew more bytes
unfolding some_fault
sound_few more bytes e =
    let (number_none, e1) = or_none _ _ e in
    let (groups_none, e2) = or_none _ _ e1 in
    let (over, after) = or_none _ _ e2 in
    record { number = map_none set_error _ number_none; groups_none = map_none set_error _ groups_none; small = map_none NotSorted _ over }

pub few_below : (count : ℕ) (bytes : List ℕ) → short_fault count bytes ≡ None → Below (2 ^ 32) (few_ids count bytes)
unfolding short_fault
few_below zero bytes e = tt
few_below (suc more) bytes e = over_none 0 (short_ids more bytes) (sound_few more bytes e).small

-- one id and others, by how many they are
some_more : (m n : ℕ) → n ≡ m + 1 → n ≡ suc m
some_more m n e = e ∙ add-one m

pub some_at : (m n : ℕ) (bytes : List ℕ) → n ≡ m + 1 → short_fault n bytes ≡ None → some_fault m bytes ≡ None
unfolding short_fault
some_at m n bytes e none = subst (λ (k : ℕ). short_fault k bytes ≡ None) (some_more m n e) none

pub ids_at : (m n : ℕ) (bytes : List ℕ) → n ≡ m + 1 → short_ids m bytes ≡ few_ids n bytes
ids_at m n bytes e = ap (λ (k : ℕ). few_ids k bytes) (sym (some_more m n e))
