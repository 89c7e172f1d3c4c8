-- The loops that upgrade a version 1 list: the values that are left are those of the bytes that are left.
-- Serves v2.
use Rattle.std.proofs.Common.{◌≡◌, ℕ, zero, suc, ◌+◌, ◌-◌, ◌*◌, ◌/◌, ◌%◌, ◌^◌, ◌<◌, ◌≤◌, List, [], ◌∷◌, ◌++◌, length, take, drop, get_or, true, Option, Some, None, Result, Ok, Err, is_ok, MatchOption, refl, sym, ◌∙◌, ap, arith, append_assoc}
use Rattle.std.proofs.Math.Nat.{div-add-mod, sub-zero}
use Rattle.std.proofs.lemmas.List.{append-nil, take_at, drop_at, get_or-drop, get_or-take, length-drop}
use Rattle.std.proofs.lemmas.List.Elements.{All-take, All-drop}
use Rattle.bitpacking.specs.declared.kind.Kind.{Kind}
use Rattle.bitpacking.specs.Codes.{AreWords, codes}
use Rattle.bitpacking.specs.Layout.{size, Holds}
use Rattle.bitpacking.specs.Width.{IsWidth}
use Rattle.bitpacking.specs.Words.{bytes_of_words, word}
use Rattle.bitpacking.proofs.ForCallers.{same_least_width, words_read_back}
use Rattle.bitpack_lists.specs.declared.list_kind.ListKind.{ListKind}
use Rattle.bitpack_lists.specs.Chains.{next_kind, second_kind}
use Rattle.bitpack_lists.specs.Version1.{Blocks1, IsPart1, after_block1, block_fault1, blocks_fault1}
use Rattle.bitpack_lists.specs.Parts.{first_kind, whole_blocks}
use Rattle.bitpack_lists.specs.Version2.{block_of, first_out, is_out, kind_at, last_at, least_below, width_at}
use Rattle.bitpack_lists.specs.inner.Opening.{AreEntries, HasBodies, IsOrdered}
use Rattle.bitpack_lists.specs.inner.Upgrading.{IsRest1}
use Rattle.bitpack_lists.proofs.lemmas.blocks.BlockLemmas.{block_end, get_or-block_of, kind_at-next, length-block_of, values_after}
use Rattle.bitpack_lists.proofs.lemmas.blocks.EntryLemmas.{Entered, bodies_step, entered_step, kind_at-append, last_at-append}
use Rattle.bitpack_lists.proofs.lemmas.blocks.FaultLemmas.{IsRight, none_first, right_from_none, tail_from_none}
use Rattle.bitpack_lists.proofs.lemmas.blocks.Orders.{least_below-further, ordered_first}
use Rattle.bitpack_lists.proofs.lemmas.v1.OneEncoding1.{same_front}
use Rattle.bitpack_lists.proofs.lemmas.blocks.WriteSteps.{one-less}

-- ---- how many bytes are left

-- The block at the front of the bytes and those after it.
pub right_length : (lanes : ℕ) (bytes : List ℕ) → IsRight lanes bytes → length bytes ≡ 1 + size lanes (get_or bytes 0 0) + length (after_block1 lanes bytes)
right_length lanes [] is = absurd (omega (arith, is.some))
right_length lanes (width ∷ rest) is = omega (arith, is.room, length-drop (size lanes width) rest)

-- There is a byte for each block, and the tail.
pub enough_left : (lanes tail block count : ℕ) (bytes : List ℕ) → blocks_fault1 lanes tail block count bytes ≡ None → count + tail ≤ length bytes
unfolding blocks_fault1
enough_left lanes tail block zero bytes none = omega (arith, tail_from_none lanes tail block bytes none)
enough_left lanes tail block (suc count) bytes none =
    let both = none_first (block_fault1 lanes block bytes) (blocks_fault1 lanes tail (block + 1) count (after_block1 lanes bytes)) none in
    omega (arith, right_length lanes bytes (right_from_none lanes block bytes both.0), enough_left lanes tail (block + 1) count (after_block1 lanes bytes) both.1)

-- ---- the part at the front of the bytes

module _ (lanes : ℕ) (kind : Kind) (block part rest after : List ℕ) (is : IsPart1 lanes kind block part) (parts : rest ≡ part ++ after) where
  whole : rest ≡ is.width ∷ (is.body ++ after)
  whole = parts ∙ ap (λ zs. zs ++ after) is.parts

  pub width_front : get_or rest 0 0 ≡ is.width
  width_front = ap (λ zs. get_or zs 0 0) whole

  pub body_front : take (size lanes (get_or rest 0 0)) (drop 1 rest) ≡ is.body
  body_front = rw (width_front, whole) (take_at is.body after (size lanes is.width) is.holds.byte_count)

  pub after_front : after_block1 lanes rest ≡ after
  after_front = ap (after_block1 lanes) whole ∙ drop_at is.body after (size lanes is.width) is.holds.byte_count

-- ---- a block that was unpacked

module _ (lanes blocks i : ℕ) (kind : Kind) (values rest : List ℕ) (some : 1 ≤ lanes) (lt : i < blocks)
    (left : Blocks1 lanes (blocks - i) kind (drop (32 * lanes * i) values) rest) where
  last_left : get_or (drop (32 * lanes * i) values) (32 * lanes - 1) 0 ≡ get_or (block_of lanes values i) (32 * lanes - 1) 0
  last_left = sym (get_or-take (32 * lanes) (drop (32 * lanes * i) values) (32 * lanes - 1) 0 (omega arith))

  -- The block is that of the values, and its width is at the front of the bytes.
  pub left_step : (block part after : List ℕ) → AreWords values → AreWords block → IsPart1 lanes kind block part → rest ≡ part ++ after
      → (block ≡ block_of lanes values i) × IsWidth kind block (get_or rest 0 0)
      × Blocks1 lanes (blocks - (i + 1)) (second_kind lanes kind block) (drop (32 * lanes * (i + 1)) values) after
  left_step block part after words words' is parts =
      let P : ℕ → Type 0 = λ v. v < 2 ^ 32 in
      let n : ℕ = 32 * lanes in
      let (part', after', e, is', more) = rw (one-less blocks i lt) at left in
      let (same, parts_same, afters) = same_front lanes kind block (block_of lanes values i) part part' after after' words'
      (All-take P n (drop (n * i) values) (All-drop P (n * i) values words)) is is' (sym parts ∙ e) in
      let next : second_kind lanes kind block ≡ second_kind lanes kind (drop (n * i) values) =
      ap (next_kind kind) (ap (λ xs. get_or xs (n - 1) 0) same ∙ sym last_left) in (
        same,
        rw (width_front lanes kind block part rest after is parts) is.least,
        rw (next, afters, ← values_after lanes i values) more,
      )

-- ---- the order of the values

-- The values so far are in order, and the kind of what follows is that by any entries of them.
abbrev pub InOrder : ℕ → ℕ → ℕ → ListKind → List ℕ → Kind → ℕ → List ℕ → Type 0
InOrder lanes blocks i kind values block_kind last rest =
    IsOrdered kind (λ k. get_or values k 0) (32 * lanes * i) last × Blocks1 lanes (blocks - i) block_kind (drop (32 * lanes * i) values) rest
    × ((entries : List ℕ) → AreEntries lanes blocks kind values entries → block_kind ≡ kind_at kind entries i)

pub in_order_first : (lanes count last : ℕ) (kind : ListKind) (values rest : List ℕ) → IsRest1 lanes kind count values rest
    → InOrder lanes (whole_blocks lanes count) 0 kind values (first_kind kind) last rest
in_order_first lanes count last kind values rest is =
    let none : 32 * lanes * 0 ≡ 0 = omega arith in
    (rw none (ordered_first kind (λ k. get_or values k 0) last), rw (none, sub-zero) is.blocks, λ entries are. refl)

-- The next block, and the first position out of order up to its end.
module _ (lanes len count i last : ℕ) (kind : ListKind) (block_kind : Kind) (values rest block part after : List ℕ) (found : Option ℕ) (some : 1 ≤ lanes)
    (whole : len ≡ 32 * lanes) (lt : i < whole_blocks lanes count) (words : AreWords values) (long : length values ≡ count) (words' : AreWords block)
    (is : IsPart1 lanes block_kind block part) (parts : rest ≡ part ++ after)
    (finds : (all : ℕ → ℕ) → IsOrdered kind all (len * i) last → ((k : ℕ) → k < length block → all (len * i + k) ≡ get_or block k 0)
    → found ≡ least_below (is_out kind all) (len * i + length block))
    (before : InOrder lanes (whole_blocks lanes count) i kind values block_kind last rest) where
  abbrev all : ℕ → ℕ
  all k = get_or values k 0

  end : 32 * lanes * (i + 1) ≤ length values
  end = omega (arith, block_end (32 * lanes) i count lt, long)

  same : block ≡ block_of lanes values i
  same = (left_step lanes (whole_blocks lanes count) i block_kind values rest some lt before.1 block part after words words' is parts).0

  long_block : length block ≡ 32 * lanes
  long_block = ap length same ∙ length-block_of lanes i values end

  upto : len * i + length block ≡ 32 * lanes * (i + 1)
  upto = rw whole (omega (arith, long_block))

  at_position : (k : ℕ) → k < length block → all (len * i + k) ≡ get_or block k 0
  at_position k within =
      rw (whole, same) (sym (get_or-block_of lanes i k values (omega (arith, within, long_block))))

  found_is : found ≡ least_below (is_out kind all) (32 * lanes * (i + 1))
  found_is = finds all (rw whole before.0) at_position ∙ ap (least_below (is_out kind all)) upto

  pub in_order_found : (position : ℕ) → found ≡ Some position → Some position ≡ first_out kind values
  in_order_found position e = sym (least_below-further (is_out kind all) (32 * lanes * (i + 1)) (length values) position end (sym found_is ∙ e))

  pub in_order_step : found ≡ None
      → InOrder lanes (whole_blocks lanes count) (i + 1) kind values (second_kind lanes block_kind block) (get_or block (len - 1) 0) after
  in_order_step e = (
    record {
      so_far = sym found_is ∙ e;
      last = λ _.
          let here : 32 * lanes * (i + 1) - 1 ≡ 32 * lanes * i + (32 * lanes - 1) = omega arith in
          rw (here, whole, same) (sym (get_or-block_of lanes i (32 * lanes - 1) values (omega arith)));
    },
    (left_step lanes (whole_blocks lanes count) i block_kind values rest some lt before.1 block part after words words' is parts).2,
    λ entries are.
        kind_at-next kind entries i block_kind (get_or block (32 * lanes - 1) 0) (before.2 entries are)
        (ap (λ xs. get_or xs (32 * lanes - 1) 0) same ∙ sym (are i lt).last),
  )

-- After the last block the tail is tested.
pub in_order_done : (lanes len count i last : ℕ) (kind : ListKind) (block_kind : Kind) (values rest : List ℕ) (found : Option ℕ) → len ≡ 32 * lanes
    → whole_blocks lanes count ≤ i → i ≤ whole_blocks lanes count → AreWords values → length values ≡ count
    → ((all : ℕ → ℕ) → IsOrdered kind all (len * (count / len)) last → ((k : ℕ) → k < count % len → all (len * (count / len) + k) ≡ word rest k)
    → found ≡ least_below (is_out kind all) (len * (count / len) + count % len))
    → InOrder lanes (whole_blocks lanes count) i kind values block_kind last rest → found ≡ first_out kind values
in_order_done lanes len count i last kind block_kind values rest found whole low high words long finds (ordered, left, kinds) =
    let n : ℕ = 32 * lanes in
    let all : ℕ → ℕ = λ k. get_or values k 0 in
    let end : i ≡ count / n = omega (arith, low, high) in
    let none : count / n - i ≡ 0 = omega (arith, end) in
    let over : n * (count / n) + count % n ≡ count = div-add-mod count n in
    let tail : List ℕ = drop (n * (count / n)) values in
    let is : rest ≡ bytes_of_words tail = rw end at (rw none at left) in
    let words_of_tail : AreWords tail = All-drop (λ v. v < 2 ^ 32) (n * (count / n)) values words in
    let given = rw whole at finds in
    let ordered' : IsOrdered kind all (n * (count / n)) last = rw end at ordered in
    given all ordered' (λ k within.
    sym (get_or-drop (n * (count / n)) values k 0)
    ∙ sym (words_read_back tail k words_of_tail (omega (arith, within, length-drop (n * (count / n)) values, over, long))) ∙ ap (λ zs. word zs k) (sym is))
    ∙ ap (least_below (is_out kind all)) (over ∙ sym long)

pub in_order_kind : (lanes count i last : ℕ) (kind : ListKind) (block_kind : Kind) (values rest entries : List ℕ) → whole_blocks lanes count ≤ i
    → i ≤ whole_blocks lanes count → AreEntries lanes (whole_blocks lanes count) kind values entries
    → InOrder lanes (whole_blocks lanes count) i kind values block_kind last rest → block_kind ≡ kind_at kind entries (whole_blocks lanes count)
in_order_kind lanes count i last kind block_kind values rest entries low high are (ordered, left, kinds) =
    let end : i ≡ whole_blocks lanes count = omega (arith, low, high) in
    kinds entries are ∙ ap (kind_at kind entries) end

-- ---- the entries

-- What was appended are the entries of the blocks so far.
abbrev pub Entering : ℕ → ℕ → ℕ → ListKind → List ℕ → Kind → ℕ → List ℕ → List ℕ → List ℕ → Type 0
Entering lanes blocks i kind values block_kind offset rest old out =
    (entries : List ℕ) × (out ≡ old ++ entries) × Entered lanes kind values entries i block_kind offset
    × Blocks1 lanes (blocks - i) block_kind (drop (32 * lanes * i) values) rest

pub entering_first : (lanes count : ℕ) (kind : ListKind) (values rest old : List ℕ) → IsRest1 lanes kind count values rest
    → Entering lanes (whole_blocks lanes count) 0 kind values (first_kind kind) 0 rest old old
entering_first lanes count kind values rest old is =
    let none : 32 * lanes * 0 ≡ 0 = omega arith in (
      [],
      sym (append-nil old),
      record { kind_is = refl; offset_is = refl; few = omega arith; entries = λ block lt. absurd (omega arith); long = refl },
      rw (none, sub-zero) is.blocks,
    )

pub entering_step : (lanes len count i offset : ℕ) (kind : ListKind) (block_kind : Kind) (values rest block part after old out new : List ℕ) → 1 ≤ lanes
    → len ≡ 32 * lanes → i < whole_blocks lanes count → count ≤ 2 ^ 28 → AreWords values → length values ≡ count → AreWords block
    → IsPart1 lanes block_kind block part → rest ≡ part ++ after → get_or rest 0 0 ≤ 32
    → new ≡ out ++ get_or rest 0 0 ∷ bytes_of_words (offset ∷ get_or block (len - 1) 0 ∷ [])
    → Entering lanes (whole_blocks lanes count) i kind values block_kind offset rest old out
    → Entering lanes (whole_blocks lanes count) (i + 1) kind values (second_kind lanes block_kind block) (offset + get_or rest 0 0) after old new
entering_step lanes len count i offset kind block_kind values rest block part after old out new some whole lt few words long words' is parts narrow items (entries, items', entered, left) =
    let width : ℕ = get_or rest 0 0 in
    let last : ℕ = get_or block (len - 1) 0 in
    let entry : List ℕ = width ∷ bytes_of_words (offset ∷ last ∷ []) in
    let (same, least, more) = left_step lanes (whole_blocks lanes count) i block_kind values rest some lt left block part after words words' is parts in
    let end : 32 * lanes * (i + 1) ≤ length values = omega (arith, block_end (32 * lanes) i count lt, long) in
    let next = entered_step lanes len width kind values block entries i block_kind offset entered some whole same end (omega (arith, few, long)) words least narrow in
    let kinds : next_kind block_kind last ≡ second_kind lanes block_kind block = ap (λ n. next_kind block_kind (get_or block (n - 1) 0)) whole in (
      entries ++ entry,
      items ∙ ap (λ xs. xs ++ entry) items' ∙ append_assoc old entries entry,
      rw (← kinds) next,
      more,
    )

-- After the last block no body was appended yet.
pub entering_done : (lanes blocks i offset : ℕ) (kind : ListKind) (block_kind : Kind) (values rest old out : List ℕ) → blocks ≤ i → i ≤ blocks
    → Entering lanes blocks i kind values block_kind offset rest old out
    → (entries : List ℕ) × HasBodies lanes blocks kind values entries 0 × (out ≡ old ++ entries)
entering_done lanes blocks i offset kind block_kind values rest old out low high (entries, items, entered, left) =
    let end : i ≡ blocks = omega (arith, low, high) in (
      entries,
      record { entries = rw end at entered.entries; bodies = λ block lt. absurd (omega arith); long = omega (arith, entered.long, end) },
      items,
    )

-- ---- the bodies that were copied

-- What was appended are the bodies of the blocks so far, after these entries.
abbrev pub Copied : ℕ → ℕ → ℕ → ListKind → List ℕ → List ℕ → List ℕ → List ℕ → List ℕ → Type 0
Copied lanes blocks i kind values entries rest old out =
    (later : List ℕ) × (out ≡ old ++ later) × HasBodies lanes blocks kind values (entries ++ later) i
    × Blocks1 lanes (blocks - i) (kind_at kind (entries ++ later) i) (drop (32 * lanes * i) values) rest

pub copied_step : (lanes blocks i : ℕ) (kind : ListKind) (values entries rest old out new : List ℕ) → 1 ≤ lanes → i < blocks
    → new ≡ out ++ take (size lanes (get_or rest 0 0)) (drop 1 rest) → Copied lanes blocks i kind values entries rest old out
    → Copied lanes blocks (i + 1) kind values entries (after_block1 lanes rest) old new
copied_step lanes blocks i kind values entries rest old out new some lt items (later, items', has, left) =
    let n : ℕ = 32 * lanes in
    let all : List ℕ = entries ++ later in
    let here : Kind = kind_at kind all i in
    let block : List ℕ = block_of lanes values i in
    let (part, after, parts, is, more) = rw (one-less blocks i lt) at left in
    let entry = has.entries i lt in
    let body : List ℕ = is.body in
    let room : 9 * i + 9 ≤ length all = omega (arith, has.long, lt) in
    let width : is.width ≡ width_at all i = same_least_width (codes here block) (width_at all i) is.width entry.least is.least in
    let holds : Holds lanes (width_at all i) here block body = rw width at is.holds in
    let together : all ++ body ≡ entries ++ (later ++ body) = append_assoc entries later body in
    let kinds : here ≡ kind_at kind (all ++ body) i = sym (kind_at-append all body kind i (omega (arith, room))) in
    let last : get_or (drop (n * i) values) (n - 1) 0 ≡ last_at (all ++ body) i =
    last_left lanes blocks i here values rest some lt left ∙ sym entry.last ∙ sym (last_at-append all body i room) in
    let next : second_kind lanes here (drop (n * i) values) ≡ kind_at kind (all ++ body) (i + 1) =
    kind_at-next kind (all ++ body) i here (get_or (drop (n * i) values) (n - 1) 0) kinds last in (
      later ++ body,
      items ∙ rw (body_front lanes here block part rest after is parts) (ap (λ xs. xs ++ body) items' ∙ append_assoc old later body),
      rw (← together) (bodies_step lanes blocks kind values all body i lt has holds),
      rw (
        ← together,
        after_front lanes here block part rest after is parts,
        ← next,
        ← values_after lanes i values,
      ) more,
    )

-- Before the first block nothing was appended.
pub copied_first : (lanes count : ℕ) (kind : ListKind) (values entries rest old : List ℕ) → IsRest1 lanes kind count values rest
    → HasBodies lanes (whole_blocks lanes count) kind values entries 0 → Copied lanes (whole_blocks lanes count) 0 kind values entries rest old old
copied_first lanes count kind values entries rest old is has =
    let none : 32 * lanes * 0 ≡ 0 = omega arith in
    ([], sym (append-nil old), rw (append-nil entries) has, rw (none, sub-zero) is.blocks)

-- After the last block the tail is left.
pub copied_done : (lanes blocks i : ℕ) (kind : ListKind) (values entries rest old out : List ℕ) → blocks ≤ i → i ≤ blocks
    → Copied lanes blocks i kind values entries rest old out
    → (later : List ℕ) × HasBodies lanes blocks kind values (entries ++ later) blocks × (out ≡ old ++ later)
    × (rest ≡ bytes_of_words (drop (32 * lanes * blocks) values))
copied_done lanes blocks i kind values entries rest old out low high (later, items, has, left) =
    let end : i ≡ blocks = omega (arith, low, high) in
    let none : blocks - i ≡ 0 = omega arith in
    (later, rw end at has, items, rw end at (rw none at left))

-- ---- what the test of order finds

pub out_from_err : {A : Type 0} (found : Option ℕ) (result : Result A ℕ) (position : ℕ) → MatchOption found (is_ok result ≡ true) (λ p. result ≡ Err p)
    → result ≡ Err position → found ≡ Some position
out_from_err None (Ok x) position ordered e = absurd cc
out_from_err None (Err p) position ordered e = absurd cc
out_from_err (Some p) result position ordered e =
    let same : Err p ≡ Err position = sym ordered ∙ e in
    cc

pub none_from_ok : {A : Type 0} (found : Option ℕ) (result : Result A ℕ) (kind : A) → MatchOption found (is_ok result ≡ true) (λ p. result ≡ Err p)
    → result ≡ Ok kind → found ≡ None
none_from_ok None result kind ordered e = refl
none_from_ok (Some p) result kind ordered e = absurd cc
