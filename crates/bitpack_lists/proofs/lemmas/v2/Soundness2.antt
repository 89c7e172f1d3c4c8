-- Version 2: bytes without a fault encode one list, and an encoded list has no fault.
-- Serves opened, v2.
use Rattle.std.proofs.Common.{◌≡◌, ℕ, ◌+◌, ◌*◌, ◌^◌, ◌<◌, ◌≤◌, List, length, drop, get_or, Some, None, refl, sym, subst, ◌∙◌, ap, arith}
use Rattle.std.proofs.lemmas.Bool.{le-ltb, ltb-false}
use Rattle.std.proofs.lemmas.List.{length-drop}
use Rattle.std.proofs.lemmas.List.Elements.{All-drop}
use Rattle.bitpacking.specs.Bits.{AreBytes}
use Rattle.bitpacking.specs.Codes.{AreWords}
use Rattle.bitpacking.specs.Words.{bytes_of_words, word}
use Rattle.bitpacking.proofs.ForCallers.{words_read_back}
use Rattle.bitpack_lists.specs.declared.list_error.ListError.{ListError}
use Rattle.bitpack_lists.specs.declared.list_kind.ListKind.{ListKind}
use Rattle.bitpack_lists.specs.declared.list_kind.ListKind.TheVariants as lists
use Rattle.bitpack_lists.specs.Parts.{BeginsWithHeader, count_of, header_fault, kind_byte, kind_of_byte, tail_values, whole_blocks}
use Rattle.bitpack_lists.specs.Version2.{IsRest2, List2, blocks_fault, body_fault2, entry_fault2, fault2, first_fault, first_out, is_out, least_below, order_fault, rest_fault2, tail_start, value_at}
use Rattle.bitpack_lists.proofs.lemmas.blocks.FaultLemmas.{none_first}
use Rattle.bitpack_lists.proofs.lemmas.blocks.HeaderLemmas.{header_bytes, header_fault-none, header_from_fault, passed}
use Rattle.bitpack_lists.proofs.lemmas.blocks.PartLemmas.{AreBytes-drop, word-drop, word-lt, words_of}
use Rattle.bitpack_lists.proofs.lemmas.blocks.RestLemmas.{length-tail}
use Rattle.bitpack_lists.proofs.lemmas.blocks.WholeBlocks.{AreSound, AreWords-values_with, blocks_packed, blocks_sound, length-values_with, order_from_none, ordered_is, ordered_with, sound_blocks, sound_from_blocks, tail_packed, value_packed, values_with}

-- ---- header and rest

pub kind_of_byte-is : (kind : ListKind) → kind_of_byte (kind_byte kind) ≡ kind
kind_of_byte-is lists.Plain = refl
kind_of_byte-is lists.Sorted = refl
kind_of_byte-is lists.StrictlySorted = refl

pub rest_next : (lanes count : ℕ) (kind : ListKind) (bytes : List ℕ) → BeginsWithHeader 2 lanes kind count bytes
    → fault2 lanes bytes ≡ rest_fault2 lanes kind count (drop 7 bytes)
unfolding fault2
rest_next lanes count kind bytes begins =
    let found = header_bytes 2 lanes kind count bytes begins in
    rw (header_fault-none 2 lanes kind count bytes begins, found.kind_is, found.count_is, kind_of_byte-is kind) refl

pub header_first2 : (lanes : ℕ) (bytes : List ℕ) (fault : ListError) → header_fault 2 lanes bytes ≡ Some fault → fault2 lanes bytes ≡ Some fault
unfolding fault2
header_first2 lanes bytes fault found = rw found refl

pub header_right2 : (lanes : ℕ) (bytes : List ℕ) → fault2 lanes bytes ≡ None → header_fault 2 lanes bytes ≡ None
unfolding fault2
header_right2 lanes bytes none = (none_first (header_fault 2 lanes bytes) _ none).0

-- ---- what no fault says of the rest

pub record IsSound (lanes : ℕ) (kind : ListKind) (count : ℕ) (rest : List ℕ) : Type 0 where
  pub entries : first_fault (entry_fault2 rest) (whole_blocks lanes count) ≡ None
  pub bodies : first_fault (body_fault2 lanes (whole_blocks lanes count) kind rest) (whole_blocks lanes count) ≡ None
  pub ordered : least_below (is_out kind (value_at lanes (whole_blocks lanes count) kind rest)) count ≡ None
  pub long : length rest ≡ tail_start lanes (whole_blocks lanes count) rest + 4 * tail_values lanes count

pub whole_of : (lanes count : ℕ) (kind : ListKind) (rest : List ℕ) → IsSound lanes kind count rest → AreSound lanes (whole_blocks lanes count) kind rest
whole_of lanes count kind rest sound = record { entries = sound.entries; bodies = sound.bodies; room = omega (arith, sound.long) }

pub sound_from_none : (lanes count : ℕ) (kind : ListKind) (rest : List ℕ) → rest_fault2 lanes kind count rest ≡ None → IsSound lanes kind count rest
unfolding rest_fault2
sound_from_none lanes count kind rest none =
    let blocks : ℕ = whole_blocks lanes count in
    let tail : ℕ = 4 * tail_values lanes count in
    let one = none_first (blocks_fault lanes blocks tail kind rest) _ none in
    let two = none_first (order_fault kind (value_at lanes blocks kind rest) count) _ one.1 in
    let (whole, low) = blocks_sound lanes blocks tail kind rest one.0 in
    let high : length rest ≤ tail_start lanes blocks rest + tail = ltb-false _ _ (passed _ _ _ two.1).0 in
    record { entries = whole.entries; bodies = whole.bodies; ordered = order_from_none kind (value_at lanes blocks kind rest) count two.0; long = omega (arith, low, high) }

pub none_from_sound : (lanes count : ℕ) (kind : ListKind) (rest : List ℕ) → IsSound lanes kind count rest → rest_fault2 lanes kind count rest ≡ None
unfolding rest_fault2
none_from_sound lanes count kind rest sound =
    let blocks : ℕ = whole_blocks lanes count in
    let tail : ℕ = 4 * tail_values lanes count in
    rw (
      sound_blocks lanes blocks tail kind rest (whole_of lanes count kind rest sound) (omega (arith, sound.long)),
      sound.ordered,
      le-ltb (tail_start lanes blocks rest + tail) (length rest) (omega (arith, sound.long)),
    ) refl

pub sound_from_none2 : (lanes : ℕ) (bytes : List ℕ) → AreBytes bytes → fault2 lanes bytes ≡ None
    → (count_of bytes ≤ 2 ^ 28) × IsSound lanes (kind_of_byte (get_or bytes 1 0)) (count_of bytes) (drop 7 bytes)
unfolding fault2
sound_from_none2 lanes bytes small none =
    let (right, later) = none_first (header_fault 2 lanes bytes) _ none in
    ((header_from_fault 2 lanes bytes small right).few, sound_from_none lanes (count_of bytes) (kind_of_byte (get_or bytes 1 0)) (drop 7 bytes) later)

-- ---- from sound bytes to their values

module _ (lanes count : ℕ) (kind : ListKind) (rest : List ℕ) (some : 1 ≤ lanes) (small : AreBytes rest) (sound : IsSound lanes kind count rest) where
  abbrev blocks : ℕ
  blocks = whole_blocks lanes count

  abbrev later : List ℕ
  later = drop (tail_start lanes blocks rest) rest

  pub whole : AreSound lanes blocks kind rest
  whole = whole_of lanes count kind rest sound

  pub word_of_tail : (k : ℕ) → k < tail_values lanes count → word later k < 2 ^ 32
  word_of_tail k lt = rw word-drop at (word-lt (drop (4 * k) later) (AreBytes-drop (4 * k) later (AreBytes-drop (tail_start lanes blocks rest) rest small)))

  pub rest_from_sound : IsRest2 lanes blocks kind (values_with lanes count kind rest (word later) some small whole word_of_tail) rest
  rest_from_sound =
      let (words, are, long, bytes) = words_of (tail_values lanes count) later (AreBytes-drop (tail_start lanes blocks rest) rest small)
      (omega (arith, length-drop (tail_start lanes blocks rest) rest, sound.long)) in
      let same = tail_packed lanes count kind rest (word later) some small whole word_of_tail words long
      (λ k lt. sym (words_read_back words k are lt) ∙ ap (λ zs. word zs k) (sym bytes)) in
      record {
        whole = blocks_packed lanes count kind rest (word later) some small whole word_of_tail;
        tail = bytes ∙ ap bytes_of_words (sym same);
      }

  pub list_from_sound : (values : List ℕ) × (length values ≡ count) × AreWords values × (first_out kind values ≡ None) × IsRest2 lanes blocks kind values rest
  list_from_sound = (
    values_with lanes count kind rest (word later) some small whole word_of_tail,
    length-values_with lanes count kind rest (word later) some small whole word_of_tail,
    AreWords-values_with lanes count kind rest (word later) some small whole word_of_tail,
    ordered_with lanes count kind rest (word later) some small whole word_of_tail sound.ordered,
    rest_from_sound,
  )

pub list_from_none2 : (lanes count : ℕ) (kind : ListKind) (bytes : List ℕ) → 1 ≤ lanes → AreBytes bytes → BeginsWithHeader 2 lanes kind count bytes
    → fault2 lanes bytes ≡ None → (values : List ℕ) × (length values ≡ count) × List2 lanes kind values bytes
list_from_none2 lanes count kind bytes some small begins none =
    let rest : List ℕ = drop 7 bytes in
    let sound = sound_from_none lanes count kind rest (sym (rest_next lanes count kind bytes begins) ∙ none) in
    let (values, long, words, ordered, is) = list_from_sound lanes count kind rest some (AreBytes-drop 7 bytes small) sound in (
      values,
      long,
      record {
        words = words;
        ordered = ordered;
        begins = subst (λ n. BeginsWithHeader 2 lanes kind n bytes) (sym long) begins;
        rest = subst (λ n. IsRest2 lanes (whole_blocks lanes n) kind values rest) (sym long) is;
      },
    )

-- ---- from a list to its bytes

module _ (lanes : ℕ) (kind : ListKind) (values bytes : List ℕ) (some : 1 ≤ lanes) (small : AreBytes bytes) (list : List2 lanes kind values bytes) where
  abbrev rest : List ℕ
  rest = drop 7 bytes

  abbrev blocks_of : ℕ
  blocks_of = whole_blocks lanes (length values)

  -- The value at each position is the one that the bytes encode.
  pub value_given : (p : ℕ) → p < length values → get_or values p 0 ≡ value_at lanes blocks_of kind rest p
  value_given =
      let left : List ℕ = drop (32 * lanes * blocks_of) values in
      let words : AreWords left = All-drop (λ v. v < 2 ^ 32) (32 * lanes * blocks_of) values list.words in
      value_packed lanes kind values rest some (AreBytes-drop 7 bytes small) list.words list.rest.whole (word (drop (tail_start lanes blocks_of rest) rest))
      (λ k lt. sym (words_read_back left k words lt) ∙ ap (λ zs. word zs k) (sym list.rest.tail))

  whole_given : AreSound lanes blocks_of kind rest
  whole_given = sound_from_blocks lanes kind values rest some (AreBytes-drop 7 bytes small) list.words list.rest.whole

  sound_from_list : IsSound lanes kind (length values) rest
  sound_from_list = record {
    entries = whole_given.entries;
    bodies = whole_given.bodies;
    ordered = sym (ordered_is kind values (value_at lanes blocks_of kind rest) value_given) ∙ list.ordered;
    long =
        let start : ℕ = tail_start lanes blocks_of rest in
        let over : length (drop start rest) ≡ 4 * tail_values lanes (length values) = ap length list.rest.tail ∙ length-tail lanes values some in
        omega (arith, over, length-drop start rest, list.rest.whole.room);
  }

-- An encoded list has no fault.
pub none_from_list2 : (lanes : ℕ) (kind : ListKind) (values bytes : List ℕ) → 1 ≤ lanes → AreBytes bytes → List2 lanes kind values bytes → fault2 lanes bytes ≡ None
none_from_list2 lanes kind values bytes some small list =
    rest_next lanes (length values) kind bytes list.begins
    ∙ none_from_sound lanes (length values) kind (drop 7 bytes) (sound_from_list lanes kind values bytes some small list)
