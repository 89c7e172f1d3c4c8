-- The loop that reads bytes without faults: what is after the blocks so far.
-- Serves blocks, opened, v1, v2.
use Rattle.std.proofs.Common.{◌≡◌, ℕ, zero, suc, ◌+◌, ◌-◌, ◌*◌, ◌^◌, ◌<◌, ◌≤◌, List, [], ◌∷◌, ◌++◌, length, take, drop, get_or, None, refl, sym, ◌∙◌, ap, arith, append_assoc, false, mul-suc, one-add}
use Rattle.std.proofs.lemmas.List.{append-nil, drop_all, take_all, length-append, length-take-le, length-drop, take-append-drop, take_at, drop_at, get_or_append_left, get_or-take}
use Rattle.std.proofs.lemmas.Bool.{both_ways, false_from_ne_true}
use Rattle.std.proofs.lemmas.List.Elements.{All-take, All-drop, All-append, All-get_or}
use Rattle.bitpacking.specs.declared.kind.Kind.{Kind}
use Rattle.bitpacking.specs.declared.kind.Kind.TheVariants as blocks
use Rattle.bitpacking.specs.Bits.{AreBytes}
use Rattle.bitpacking.specs.Codes.{AreWords, codes, start, values_of}
use Rattle.bitpacking.specs.Width.{Least}
use Rattle.bitpacking.specs.Layout.{codes_of, size, Holds, Layout}
use Rattle.bitpacking.proofs.ForCallers.{as_many_codes, length-bytes_of_words}
use Rattle.bitpack_lists.proofs.lemmas.blocks.BlockValues.{AreWords-block, Holds-values_of}
use Rattle.bitpack_lists.specs.Chains.{next_kind, second_kind}
use Rattle.bitpacking.specs.Words.{bytes_of_words}
use Rattle.bitpack_lists.specs.Parts.{is_loose}
use Rattle.bitpack_lists.specs.Version1.{IsPart1, Blocks1, block_fault1, after_block1, blocks_fault1}
use Rattle.bitpack_lists.proofs.lemmas.blocks.PartLemmas.{AreBytes-right, words_of}
use Rattle.bitpack_lists.proofs.lemmas.blocks.LooseLemmas.{Decides-loose}
use Rattle.bitpack_lists.proofs.lemmas.v1.OneEncoding1.{narrow_least, same_front}
use Rattle.bitpack_lists.proofs.lemmas.blocks.FaultLemmas.{IsRight, right_from_none, tail_from_none, blocks_left, no_blocks_left, none_first, right, tail_right}

-- ---- one block without a fault

-- Bytes whose width is not loose have their least width.
pub least_from_tight : (lanes width : ℕ) (codes body : List ℕ) → Layout lanes width codes body → is_loose lanes width body ≡ false → Least codes width
least_from_tight lanes width codes body layout tight = record {
  fits = layout.fits;
  least = λ smaller lt fits. both_ways (is_loose lanes width body) tight ((Decides-loose lanes width codes body layout).1 (smaller, lt, fits));
}

pub tight_from_least : (lanes width : ℕ) (codes body : List ℕ) → Layout lanes width codes body → Least codes width → is_loose lanes width body ≡ false
tight_from_least lanes width codes body layout least =
    false_from_ne_true (is_loose lanes width body) (λ loose.
    let smaller = (Decides-loose lanes width codes body layout).0 loose in
    least.least smaller.0 smaller.1 smaller.2)

module _ (lanes : ℕ) (kind : Kind) (block bytes : List ℕ) (is : IsRight lanes bytes)
    (holds : Holds lanes (get_or bytes 0 0) kind block (take (size lanes (get_or bytes 0 0)) (drop 1 bytes))) where
  pub right_part : List ℕ
  right_part = get_or bytes 0 0 ∷ take (size lanes (get_or bytes 0 0)) (drop 1 bytes)

  pub IsPart1-right : IsPart1 lanes kind block right_part
  unfolding right_part
  IsPart1-right = record {
    width = get_or bytes 0 0;
    body = take (size lanes (get_or bytes 0 0)) (drop 1 bytes);
    least = least_from_tight lanes (get_or bytes 0 0) (codes kind block) (take (size lanes (get_or bytes 0 0)) (drop 1 bytes)) holds is.least;
    holds = holds;
    parts = refl;
  }

  pub right_parts : bytes ≡ right_part ++ after_block1 lanes bytes
  unfolding right_part
  right_parts = parts bytes is.some
    where
      parts : (bytes : List ℕ) → 1 ≤ length bytes
          → bytes ≡ (get_or bytes 0 0 ∷ take (size lanes (get_or bytes 0 0)) (drop 1 bytes)) ++ after_block1 lanes bytes
      parts [] some = absurd (omega arith)
      parts (width ∷ rest) some = ap (λ zs. width ∷ zs) (sym (take-append-drop (size lanes width) rest))

-- A block whose part is there has no fault.
pub right_from_part : (lanes index : ℕ) (kind : Kind) (block part rest : List ℕ) → AreWords block → IsPart1 lanes kind block part
    → (block_fault1 lanes index (part ++ rest) ≡ None) × (after_block1 lanes (part ++ rest) ≡ rest)
right_from_part lanes index kind block part rest words is =
    let whole : part ++ rest ≡ is.width ∷ (is.body ++ rest) = ap (λ zs. zs ++ rest) is.parts in
    let long : length is.body ≡ size lanes is.width = is.holds.byte_count in
    let front : take (size lanes is.width) (is.body ++ rest) ≡ is.body = take_at is.body rest (size lanes is.width) long in
    let tight : is_loose lanes is.width is.body ≡ false = tight_from_least lanes is.width (codes kind block) is.body is.holds is.least in (
      right lanes index is.width (part ++ rest) (is.body ++ rest) whole (narrow_least kind block is.width words is.least)
          (omega (arith, length-append is.body rest)) (ap (is_loose lanes is.width) front ∙ tight),
      ap (after_block1 lanes) whole ∙ drop_at is.body rest (size lanes is.width) long,
    )

-- ---- blocks and tail without a fault

start-next : (kind : Kind) (last : ℕ) → last < 2 ^ 32 → start (next_kind kind last) < 2 ^ 32
start-next blocks.Plain last lt = omega arith
start-next (blocks.Sorted initial) last lt = lt
start-next (blocks.StrictlySorted initial) last lt = lt

-- Any bytes of a block are those of some block of each kind.
block_from_bytes : (lanes width : ℕ) (kind : Kind) (body : List ℕ) → start kind < 2 ^ 32 → width ≤ 32 → length body ≡ size lanes width
    → (block : List ℕ) × AreWords block × Holds lanes width kind block body
block_from_bytes lanes width kind body small narrow long =
    (values_of kind (codes_of lanes width body), AreWords-block lanes width kind body small narrow long, Holds-values_of lanes width kind body small narrow long)

pub values_from_none : (lanes tail count block : ℕ) (kind : Kind) (bytes : List ℕ) → 1 ≤ lanes → start kind < 2 ^ 32 → AreBytes bytes
    → blocks_fault1 lanes (4 * tail) block count bytes ≡ None
    → (values : List ℕ) × AreWords values × (length values ≡ 32 * lanes * count + tail) × Blocks1 lanes count kind values bytes
unfolding blocks_fault1
values_from_none lanes tail zero block kind bytes some small bytes_small none =
    let found = words_of tail bytes bytes_small (tail_from_none lanes (4 * tail) block bytes none) in
    (found.0, found.1, omega (arith, found.2), found.3)
values_from_none lanes tail (suc count) block kind bytes some small bytes_small none =
    let n : ℕ = 32 * lanes in
    let width : ℕ = get_or bytes 0 0 in
    let body : List ℕ = take (size lanes width) (drop 1 bytes) in
    let later : List ℕ = after_block1 lanes bytes in
    let both = none_first (block_fault1 lanes block bytes) (blocks_fault1 lanes (4 * tail) (block + 1) count later) none in
    let is = right_from_none lanes block bytes both.0 in
    let long : length body ≡ size lanes width = length-take-le (size lanes width) (drop 1 bytes) is.room in
    let one = block_from_bytes lanes width kind body small is.narrow long in
    let length_of : length one.0 ≡ n = sym (as_many_codes kind one.0) ∙ one.2.code_count in
    let last : ℕ = get_or one.0 (n - 1) 0 in
    let part : List ℕ = right_part lanes kind one.0 bytes is one.2 in
    let parts : bytes ≡ part ++ later = right_parts lanes kind one.0 bytes is one.2 in
    let last_small : last < 2 ^ 32 = All-get_or (λ v. v < 2 ^ 32) one.0 (n - 1) 0 (omega arith) one.1 in
    let more = values_from_none lanes tail count (block + 1) (next_kind kind last) later some (start-next kind last last_small)
    (AreBytes-right part later (rw parts at bytes_small)) both.1 in
    let same_last : get_or (one.0 ++ more.0) (n - 1) 0 ≡ last = get_or_append_left one.0 more.0 0 (n - 1) (omega arith) in (
      one.0 ++ more.0,
      All-append (λ v. v < 2 ^ 32) one.0 more.0 one.1 more.1,
      omega (arith, length-append one.0 more.0, more.2, mul-suc n count),
      (
        part,
        later,
        parts,
        rw (take_at one.0 more.0 n length_of) (IsPart1-right lanes kind one.0 bytes is one.2),
        rw (same_last, drop_at one.0 more.0 n length_of) more.3,
      ),
    )

pub none_from_values : (lanes tail count block : ℕ) (kind : Kind) (values bytes : List ℕ) → AreWords values
    → length values ≡ 32 * lanes * count + tail → Blocks1 lanes count kind values bytes
    → (blocks_fault1 lanes (4 * tail) block count bytes ≡ None) × (count + 4 * tail ≤ length bytes)
unfolding blocks_fault1
none_from_values lanes tail zero block kind values bytes words long is =
    let length_of : length bytes ≡ 4 * tail = ap length is ∙ omega (arith, length-bytes_of_words values) in
    (tail_right lanes (4 * tail) block bytes length_of, omega arith)
none_from_values lanes tail (suc count) block kind values bytes words long (part, rest, e, is, more) =
    let n : ℕ = 32 * lanes in
    let P : ℕ → Type 0 = λ v. v < 2 ^ 32 in
    let here = right_from_part lanes block kind (take n values) part rest (All-take P n values words) is in
    let left : length (drop n values) ≡ n * count + tail = simp length-drop (omega (arith, mul-suc n count)) in
    let later = none_from_values lanes tail count (block + 1) (second_kind lanes kind values) (drop n values) rest (All-drop P n values words) left more in
    let part_long : 1 ≤ length part = omega (arith, ap length is.parts) in (
      rw (e, here.0, here.1) later.0,
      omega (arith, ap length e, length-append part rest, later.1),
    )

pub after_block-is : (lanes taken : ℕ) (bytes : List ℕ) → 1 ≤ length bytes → taken ≡ size lanes (get_or bytes 0 0)
    → take (length bytes - (1 + taken)) (drop (1 + taken) bytes) ≡ after_block1 lanes bytes
after_block-is lanes taken [] some e = absurd (omega arith)
after_block-is lanes taken (width ∷ rest) some e =
    let all : take (length (width ∷ rest) - (1 + taken)) (drop (1 + taken) (width ∷ rest)) ≡ drop (1 + taken) (width ∷ rest) =
    take_all (length (width ∷ rest) - (1 + taken)) (drop (1 + taken) (width ∷ rest)) (omega (arith, length-drop (1 + taken) (width ∷ rest))) in
    all ∙ rw one-add refl ∙ ap (λ n. drop n rest) e

-- A part of a list that is overwritten at its end.
pub written_over : (old zeros items new : List ℕ) (from len : ℕ) → items ≡ old ++ zeros → from ≡ length old → length new ≡ length zeros → len ≡ length items
    → take len ((take from items ++ (new ++ drop (length new) (drop from items)))
    ++ drop (length (take from items ++ (new ++ drop (length new) (drop from items)))) items) ≡ old ++ new
written_over old zeros items new from len e at same all =
    let front : take from items ≡ old = ap (take from) e ∙ take_at old zeros from (sym at) in
    let back : drop from items ≡ zeros = ap (drop from) e ∙ drop_at old zeros from (sym at) in
    let none : drop (length new) zeros ≡ [] = drop_all (length new) zeros (omega arith) in
    let long : length items ≡ length old + length zeros = ap length e ∙ length-append old zeros in
    let end : drop (length (old ++ new)) items ≡ [] = drop_all (length (old ++ new)) items (omega (arith, length-append old new)) in
    let whole : take len (old ++ new) ≡ old ++ new = take_all len (old ++ new) (omega (arith, length-append old new)) in
    rw (front, back, none, append-nil new, end, append-nil (old ++ new)) whole

-- ---- the loop that reads one block after the other

-- What was read and what is left are all values.
abbrev pub Read : ℕ → ℕ → Kind → List ℕ → List ℕ → List ℕ → Type 0
Read lanes left kind rest out all = (later : List ℕ) × AreWords later × Blocks1 lanes left kind later rest × (out ++ later ≡ all)

pub read_step : (lanes blocks i : ℕ) (kind : Kind) (rest after out block part new all : List ℕ) → 1 ≤ lanes → i < blocks
    → AreWords block → IsPart1 lanes kind block part → rest ≡ part ++ after → new ≡ out ++ block
    → Read lanes (blocks - i) kind rest out all
    → Read lanes (blocks - (i + 1)) (second_kind lanes kind block) after new all
read_step lanes blocks i kind rest after out block part new all some lt words is parts items before =
    let n : ℕ = 32 * lanes in
    let P : ℕ → Type 0 = λ v. v < 2 ^ 32 in
    let later : List ℕ = before.0 in
    let one_less : blocks - i ≡ suc (blocks - (i + 1)) = omega arith in
    let more = rw one_less at before.2 in
    let found = same_front lanes kind block (take n later) part more.0 after more.1 words (All-take P n later before.1) is more.3 (sym parts ∙ more.2) in
    let within : n - 1 < n = omega arith in
    let last : get_or block (n - 1) 0 ≡ get_or later (n - 1) 0 = ap (λ xs. get_or xs (n - 1) 0) found.0 ∙ get_or-take n later (n - 1) 0 within in
    let whole : new ++ drop n later ≡ all =
    ap (λ zs. zs ++ drop n later) (items ∙ ap (λ zs. out ++ zs) found.0) ∙ append_assoc out (take n later) (drop n later)
    ∙ ap (λ zs. out ++ zs) (take-append-drop n later) ∙ before.3 in
    (drop n later, All-drop P n later before.1, rw (last, found.2) more.4, whole)

pub read_done : (lanes blocks i : ℕ) (kind : Kind) (rest out new all : List ℕ) → blocks ≤ i
    → ((values : List ℕ) → AreWords values → rest ≡ bytes_of_words values → new ≡ out ++ values)
    → Read lanes (blocks - i) kind rest out all → new ≡ all
read_done lanes blocks i kind rest out new all le appended before =
    let none : blocks - i ≡ 0 = omega arith in
    let is : rest ≡ bytes_of_words before.0 = rw none at before.2 in
    appended before.0 before.1 is ∙ before.3

-- ---- what is left has no fault

pub right_left : (lanes tail blocks i : ℕ) (bytes : List ℕ) → i < blocks → blocks_fault1 lanes tail i (blocks - i) bytes ≡ None
    → IsRight lanes bytes × (blocks_fault1 lanes tail (i + 1) (blocks - (i + 1)) (after_block1 lanes bytes) ≡ None)
right_left lanes tail blocks i bytes lt none =
    let later = blocks_fault1 lanes tail (i + 1) (blocks - (i + 1)) (after_block1 lanes bytes) in
    let both = none_first (block_fault1 lanes i bytes) later (sym (blocks_left lanes tail blocks i bytes lt) ∙ none) in
    (right_from_none lanes i bytes both.0, both.1)

pub tail_left : (lanes tail blocks i : ℕ) (bytes : List ℕ) → blocks ≤ i → blocks_fault1 lanes tail i (blocks - i) bytes ≡ None → length bytes ≡ tail
tail_left lanes tail blocks i bytes le none = tail_from_none lanes tail i bytes (sym (no_blocks_left lanes tail blocks i bytes le) ∙ none)

-- The bytes after a block that was read are those after its part.
pub after_right : (lanes index : ℕ) (kind : Kind) (block part after rest : List ℕ) → AreWords block → IsPart1 lanes kind block part → rest ≡ part ++ after
    → after_block1 lanes rest ≡ after
after_right lanes index kind block part after rest words is parts =
    ap (after_block1 lanes) parts ∙ (right_from_part lanes index kind block part after words is).1
