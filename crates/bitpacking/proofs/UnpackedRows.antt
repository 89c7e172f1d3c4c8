-- One row more is unpacked.
use Rattle.std.proofs.Common.{◌≡◌, ℕ, ◌+◌, ◌-◌, ◌*◌, ◌/◌, ◌%◌, ◌^◌, ◌<◌, ◌≤◌, List, [], ◌++◌, length, get_or, replicate, take, bit_or, bit_and, refl, sym, ◌∙◌, ap, arith}
use lib.Lanes.{zip2}
use Rattle.bitpacking.specs.Bits.{AreBytes}
use Rattle.bitpacking.specs.Layout.{Layout}
use Rattle.bitpacking.specs.Moves.{IsLoad, IsStore}
use Rattle.bitpacking.specs.inner.Partway.{Unpacked, RowsUnpacked, UnpacksRows, words_to, left_at}
use Rattle.bitpacking.specs.Words.{joined}
use Rattle.bitpacking.specs.declared.memory.Steps.{Steps}
use Rattle.bitpacking.proofs.LaneEquations.{word-lt, lane_word}
use Rattle.bitpacking.proofs.RegisterLemmas.{lane-zip2, lane-splat}
use Rattle.bitpacking.proofs.RowSteps.{values_step, values_done}
use Rattle.bitpacking.proofs.FrontWords.{joined-front, AreBytes-take}
use Rattle.bitpacking.proofs.UnpackedLane.{Unpacked-start, Unpacked-whole, Unpacked-load, digit, digit-joined, digit-code, masked, words_left}

-- The number that the words of a lane make.
abbrev pub lane_number : ℕ → ℕ → List ℕ → ℕ → ℕ
lane_number lanes width bytes l = joined 32 (lane_word lanes bytes l) width

-- Where the bits of row n begin, in words and bits.
pub left_offset : (w n : ℕ) → 32 * words_to w n ≡ w * n + left_at w n
left_offset w n = let e : n * w ≡ w * n = omega arith in omega arith

-- The word that row n wants is one of the block.
pub word_there : (w n : ℕ) → n < 32 → left_at w n < w → words_to w n < w
word_there w n lt need = words_left w n (words_to w n) (left_at w n) lt (left_offset w n) need

-- What row n + 1 has before it, where row n wants a word and where it wants none.
pub words_to-load : (w n : ℕ) → left_at w n < w → w < 32 → words_to w (n + 1) ≡ words_to w n + 1
words_to-load w n need narrow = let next : (n + 1) * w ≡ n * w + w = omega arith in rw next (omega arith)

pub left_at-load : (w n : ℕ) → left_at w n < w → w < 32 → left_at w (n + 1) ≡ left_at w n + 32 - w
left_at-load w n need narrow = let next : (n + 1) * w ≡ n * w + w = omega arith in rw next (omega arith)

pub words_to-whole : (w n : ℕ) → w ≤ left_at w n → words_to w (n + 1) ≡ words_to w n
words_to-whole w n enough = let next : (n + 1) * w ≡ n * w + w = omega arith in rw next (omega arith)

pub left_at-whole : (w n : ℕ) → w ≤ left_at w n → left_at w (n + 1) ≡ left_at w n - w
left_at-whole w n enough = let next : (n + 1) * w ≡ n * w + w = omega arith in rw next (omega arith)

-- A lane whose code goes on in the next word.
pub lane-load : (lanes width i : ℕ) (bytes : List ℕ) (l pending word whole over : ℕ) → AreBytes bytes → i < 32 → width < 32
    → left_at width i < width → word ≡ lane_word lanes bytes l (words_to width i)
    → whole ≡ bit_or pending ((word * 2 ^ left_at width i) % 2 ^ 32) → over ≡ word / 2 ^ (width - left_at width i)
    → Unpacked width (lane_number lanes width bytes l) i (words_to width i) (left_at width i) pending
    → (whole % 2 ^ width ≡ digit width (lane_number lanes width bytes l) i)
    × (Unpacked width (lane_number lanes width bytes l) (i + 1) (words_to width (i + 1)) (left_at width (i + 1)) over)
lane-load lanes width i bytes l pending word whole over are_bytes lt narrow need read whole_is over_is unpacked =
    rw (left_at-load width i need narrow, words_to-load width i need narrow, whole_is, over_is)
    (Unpacked-load width (lane_number lanes width bytes l) i (words_to width i) (left_at width i) pending word need (omega arith)
    (left_offset width i)
    (read ∙ sym (digit-joined 32 (lane_word lanes bytes l) width (words_to width i)
    (λ q h. word-lt bytes are_bytes (lanes * q + l)) (word_there width i lt need)))
    unpacked)

-- A lane whose code is whole in the bits that are left.
pub lane-whole : (width number i pending over : ℕ) → width ≤ left_at width i → over ≡ pending / 2 ^ width
    → Unpacked width number i (words_to width i) (left_at width i) pending
    → (pending % 2 ^ width ≡ digit width number i)
    × (Unpacked width number (i + 1) (words_to width (i + 1)) (left_at width (i + 1)) over)
lane-whole width number i pending over enough over_is unpacked =
    rw (left_at-whole width i enough, words_to-whole width i enough, over_is)
    (Unpacked-whole width number i (words_to width i) (left_at width i) pending enough unpacked)

-- The low bits of each lane, by the mask that the code computes.
pub lane-masked : (width lanes : ℕ) (xs mask row : List ℕ) → width < 32 → length xs ≡ lanes → length mask ≡ lanes
    → mask ≡ replicate lanes ((1 * 2 ^ width) % 2 ^ 32 - 1) → row ≡ zip2 bit_and xs mask
    → (l : ℕ) → l < lanes → get_or row l 0 ≡ get_or xs l 0 % 2 ^ width
lane-masked width lanes xs mask row narrow long long' mask_is row_is l lt =
    lane-zip2 bit_and lanes xs mask row long long' row_is l lt
    ∙ rw (lane-splat ((1 * 2 ^ width) % 2 ^ 32 - 1) lanes mask mask_is l lt) (masked (get_or xs l 0) width narrow)

-- The values of one row more are written.
pub RowsUnpacked-next : (lanes width i : ℕ) (bytes codes : List ℕ) (old new : List ℕ → List ℕ)
    (values words words' pending whole row over : List ℕ) → i < 32 → length row ≡ lanes
    → ((l : ℕ) → l < lanes → get_or row l 0 ≡ get_or whole l 0 % 2 ^ width)
    → ((rest : List ℕ) → take (lanes * i + lanes) words' ++ new rest ≡ take (lanes * i) words ++ old (row ++ rest))
    → ((l : ℕ) → l < lanes → Unpacked width (lane_number lanes width bytes l) i (words_to width i) (left_at width i) (get_or pending l 0)
    → (get_or whole l 0 % 2 ^ width ≡ digit width (lane_number lanes width bytes l) i)
    × (Unpacked width (lane_number lanes width bytes l) (i + 1) (words_to width (i + 1)) (left_at width (i + 1)) (get_or over l 0)))
    → RowsUnpacked lanes width i bytes codes old values words pending
    → RowsUnpacked lanes width (i + 1) bytes codes new values words' over
RowsUnpacked-next lanes width i bytes codes old new values words words' pending whole row over lt count low step lane rows = record {
  layout = rows.layout;
  are_bytes = rows.are_bytes;
  written = values_step lanes i codes row words words' values old new rows.layout.code_count lt count
      (λ l h. low l h ∙ (lane l h (rows.unpacked l h)).0
      ∙ ap (λ x. digit width x i) (sym (joined-front lanes width bytes l h))
      ∙ digit-code lanes width codes (take (4 * lanes * width) bytes) (AreBytes-take bytes (4 * lanes * width) rows.are_bytes) rows.layout l h i lt)
      step rows.written;
  unpacked = λ l h. (lane l h (rows.unpacked l h)).1;
}

-- Before the first row nothing is read, and all values are to come.
pub RowsUnpacked-start : (lanes width : ℕ) (bytes codes : List ℕ) (next : List ℕ → List ℕ) (words pending : List ℕ)
    → AreBytes bytes → Layout lanes width codes (take (4 * lanes * width) bytes) → pending ≡ replicate lanes 0
    → RowsUnpacked lanes width 0 bytes codes next (next codes) words pending
RowsUnpacked-start lanes width bytes codes next words pending are_bytes layout zeros =
    let none : lanes * 0 ≡ 0 = omega arith in
    let read : words_to width 0 ≡ 0 = omega arith in
    let left : left_at width 0 ≡ 0 = omega arith in
    record {
      layout = layout;
      are_bytes = are_bytes;
      written = rw none refl;
      unpacked = λ l lt. rw (left, read, lane-splat 0 lanes pending zeros l lt) (Unpacked-start width (lane_number lanes width bytes l));
    }

-- After the last row all values are written.
pub RowsUnpacked-done : (lanes width : ℕ) (bytes codes : List ℕ) (next : List ℕ → List ℕ) (values words pending : List ℕ)
    → next [] ≡ [] → RowsUnpacked lanes width 32 bytes codes next values words pending → take (32 * lanes) words ≡ values
RowsUnpacked-done lanes width bytes codes next values words pending none rows =
    values_done lanes 32 codes words values next refl rows.layout.code_count none rows.written

-- The moves of one row more, which wants no word.
pub UnpacksRows-whole : (old before stored : Steps) (w from i : ℕ) → w ≤ left_at w i
    → UnpacksRows old before w from i → IsStore before stored w → UnpacksRows old stored w from (i + 1)
UnpacksRows-whole old before stored w from i enough so_far store =
    let read : words_to w (i + 1) ≡ words_to w i = words_to-whole w i enough in
    let left : left_at w (i + 1) ≡ left_at w i - w = left_at-whole w i enough in
    record {
      loads = rw read (omega (arith, so_far.loads, store.loads));
      stores = omega (arith, so_far.stores, store.stores);
      inside = rw left (omega (arith, so_far.inside, store.inside));
      held = omega (arith, so_far.held, store.held);
    }

-- The moves of one row more, which wants a word: it is loaded before the row is stored.
pub UnpacksRows-load : (old before loaded stored : Steps) (w from i : ℕ) → left_at w i < w → w < 32
    → UnpacksRows old before w from i → IsLoad before loaded 32 → IsStore loaded stored w → UnpacksRows old stored w from (i + 1)
UnpacksRows-load old before loaded stored w from i need narrow so_far load store =
    let read : words_to w (i + 1) ≡ words_to w i + 1 = words_to-load w i need narrow in
    let left : left_at w (i + 1) ≡ left_at w i + 32 - w = left_at-load w i need narrow in
    record {
      loads = rw read (omega (arith, so_far.loads, load.loads, store.loads));
      stores = omega (arith, so_far.stores, load.stores, store.stores);
      inside = rw left (omega (arith, so_far.inside, load.inside, store.inside));
      held = omega (arith, so_far.held, so_far.inside, load.held, store.held);
    }
