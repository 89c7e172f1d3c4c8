-- One row more is packed.
use Rattle.std.proofs.Common.{◌≡◌, ℕ, ◌+◌, ◌-◌, ◌*◌, ◌/◌, ◌%◌, ◌^◌, ◌<◌, ◌≤◌, List, ◌++◌, length, get_or, replicate, take, drop, bit_or, refl, ◌∙◌, arith}
use Rattle.std.proofs.Math.Nat.{div-eq_of_lt}
use Rattle.std.proofs.lemmas.List.{length-take}
use Rattle.std.proofs.lemmas.Nat.{mul-add-lt, mul-le}
use Rattle.bitpacking.specs.Bits.{AreBytes}
use Rattle.bitpacking.specs.Layout.{Layout}
use Rattle.bitpacking.specs.Moves.{IsLoad, IsStore}
use Rattle.bitpacking.specs.inner.Partway.{RowsPacked, PacksRows}
use Rattle.bitpacking.specs.Width.{Fits}
use Rattle.bitpacking.specs.Words.{word as word_of}
use Rattle.bitpacking.specs.declared.memory.Steps.{Steps}
use Rattle.bitpacking.proofs.LaneEquations.{lane_code, lane_word, Layout-from_lanes}
use Rattle.bitpacking.proofs.PackedLane.{Packed-start, Packed-append, Packed-store, Packed-end, room_left}
use Rattle.bitpacking.proofs.WordsOfParts.{row_after, row_at}
use Rattle.bitpacking.proofs.RegisterLemmas.{lane-splat}
use Rattle.bitpacking.proofs.RowSteps.{codes_step}
use Rattle.bitpacking.proofs.FrontWords.{joined-front, AreBytes-take}

-- Where row n begins, in words and bits.
pub row_offset : (w n : ℕ) → 32 * (n * w / 32) + n * w % 32 ≡ w * n
row_offset w n = let e : n * w ≡ w * n = omega arith in omega arith

-- The word that row n fills is one of the block.
pub row_word : (w n : ℕ) → n < 32 → 32 ≤ n * w % 32 + w → n * w / 32 < w
row_word w n lt full = room_left w n (n * w / 32) (n * w % 32) lt (row_offset w n) full (omega arith)

-- A code that fills its word to the end leaves no bits.
pub nothing_over : (code width filled : ℕ) → code < 2 ^ width → filled + width ≡ 32 → code / 2 ^ (32 - filled) ≡ 0
nothing_over code width filled small full =
    let e : 32 - filled ≡ width = omega arith in
    rw e (div-eq_of_lt small)

module _ (lanes width i : ℕ) (codes values row given : List ℕ) (old new : List ℕ → List ℕ) (bytes pending word : List ℕ)
    (rows : RowsPacked lanes width i codes values old bytes pending) (lt : i < 32)
    (loaded : row ≡ take lanes (drop (lanes * i) values))
    (step : (rest : List ℕ) → old (row ++ rest) ≡ given ++ new rest)
    (count : length given ≡ lanes)
    (joined_to : (l : ℕ) → l < lanes
    → get_or word l 0 ≡ bit_or (get_or pending l 0) ((get_or given l 0 * 2 ^ (i * width % 32)) % 2 ^ 32)) where
  left : drop (lanes * i) codes ≡ given ++ new (drop (lanes * (i + 1)) values)
  left = codes_step lanes i codes values row given old new rows.left loaded step

  after : drop (lanes * (i + 1)) codes ≡ new (drop (lanes * (i + 1)) values)
  after = row_after lanes i codes given (new (drop (lanes * (i + 1)) values)) count left

  code : (l : ℕ) → l < lanes → lane_code lanes codes l i ≡ get_or given l 0
  code l h = row_at lanes i codes given (new (drop (lanes * (i + 1)) values)) l count left h

  code_fits : (l : ℕ) → l < lanes → get_or given l 0 < 2 ^ width
  code_fits l h =
      rw (code l h) at (rows.fits (i * lanes + l) 0 (omega (arith, rows.code_count, mul-add-lt i lanes l 32 lt h)))

  -- Its codes leave the words short.
  pub RowsPacked-append : i * width % 32 + width < 32 → RowsPacked lanes width (i + 1) codes values new bytes word
  RowsPacked-append short =
      let next : (i + 1) * width ≡ i * width + width = omega arith in
      let stored : (i + 1) * width / 32 ≡ i * width / 32 = rw next (omega arith) in
      let filled : (i + 1) * width % 32 ≡ i * width % 32 + width = rw next (omega arith) in
      record {
        code_count = rows.code_count;
        fits = rows.fits;
        are_bytes = rows.are_bytes;
        left = after;
        packed = λ l h. rw (stored, filled, joined_to l h)
            (Packed-append width (lane_word lanes bytes l) (lane_code lanes codes l) i (i * width / 32) (i * width % 32)
            (get_or pending l 0) (get_or given l 0) (code l h) (code_fits l h) (row_offset width i) (omega arith) (rows.packed l h));
      }

  -- Its codes fill the words, which are stored.
  pub RowsPacked-store : (over bytes' : List ℕ) → 32 ≤ i * width % 32 + width → width < 32 → AreBytes bytes'
      → ((l : ℕ) → l < lanes → word_of bytes' (lanes * (i * width / 32) + l) ≡ get_or word l 0)
      → ((q : ℕ) → q < lanes * (i * width / 32) → word_of bytes' q ≡ word_of bytes q)
      → ((l : ℕ) → l < lanes → get_or given l 0 < 2 ^ width → get_or over l 0 ≡ get_or given l 0 / 2 ^ (32 - i * width % 32))
      → RowsPacked lanes width (i + 1) codes values new bytes' over
  RowsPacked-store over bytes' full narrow are_bytes stores before left_over =
      let next : (i + 1) * width ≡ i * width + width = omega arith in
      let stored : (i + 1) * width / 32 ≡ i * width / 32 + 1 = rw next (omega arith) in
      let filled : (i + 1) * width % 32 ≡ i * width % 32 + width - 32 = rw next (omega arith) in
      record {
        code_count = rows.code_count;
        fits = rows.fits;
        are_bytes = are_bytes;
        left = after;
        packed = λ l h. rw (stored, filled, left_over l h (code_fits l h))
            (Packed-store width (lane_word lanes bytes l) (lane_word lanes bytes' l) (lane_code lanes codes l)
            i (i * width / 32) (i * width % 32) (get_or pending l 0) (get_or given l 0)
            (code l h) (code_fits l h) (row_offset width i) full (omega arith)
            (λ q hq. before (lanes * q + l)
            (omega (arith, mul-le lanes (q + 1) lanes (i * width / 32) (omega arith) (omega arith))))
            (stores l h ∙ joined_to l h) (rows.packed l h));
      }

-- The moves of one row more, which fills no word.
pub PacksRows-append : (old before loaded : Steps) (w from i : ℕ) → i * w % 32 + w < 32
    → PacksRows old before w from i → IsLoad before loaded w → PacksRows old loaded w from (i + 1)
PacksRows-append old before loaded w from i short so_far load =
    let next : (i + 1) * w ≡ i * w + w = omega arith in
    let stored : (i + 1) * w / 32 ≡ i * w / 32 = rw next (omega arith) in
    let filled : (i + 1) * w % 32 ≡ i * w % 32 + w = rw next (omega arith) in
    record {
      loads = omega (arith, so_far.loads, load.loads);
      stores = omega (arith, so_far.stores, load.stores);
      inside = omega (arith, so_far.inside, load.inside);
      held = omega (arith, so_far.held, so_far.inside, load.held);
    }

-- The moves of one row more, which fills a word.
pub PacksRows-store : (old before loaded stored : Steps) (w from i : ℕ) → 32 ≤ i * w % 32 + w → w < 32
    → PacksRows old before w from i → IsLoad before loaded w → IsStore loaded stored 32 → PacksRows old stored w from (i + 1)
PacksRows-store old before loaded stored w from i full narrow so_far load store =
    let next : (i + 1) * w ≡ i * w + w = omega arith in
    let word_count : (i + 1) * w / 32 ≡ i * w / 32 + 1 = rw next (omega arith) in
    let filled : (i + 1) * w % 32 + 32 ≡ i * w % 32 + w = rw next (omega arith) in
    record {
      loads = omega (arith, so_far.loads, load.loads, store.loads);
      stores = omega (arith, so_far.stores, load.stores, store.stores);
      inside = omega (arith, so_far.inside, load.inside, store.inside);
      held = omega (arith, so_far.held, so_far.inside, load.held, store.held);
    }

-- Before the first row nothing is packed.
pub RowsPacked-start : (lanes width : ℕ) (codes values : List ℕ) (next : List ℕ → List ℕ) (bytes pending : List ℕ)
    → length codes ≡ 32 * lanes → Fits codes width → AreBytes bytes → codes ≡ next values → pending ≡ replicate lanes 0
    → RowsPacked lanes width 0 codes values next bytes pending
RowsPacked-start lanes width codes values next bytes pending count fits are_bytes all zeros =
    let none : lanes * 0 ≡ 0 = omega arith in
    let stored : 0 * width / 32 ≡ 0 = omega arith in
    let filled : 0 * width % 32 ≡ 0 = omega arith in
    record {
      code_count = count;
      fits = fits;
      are_bytes = are_bytes;
      left = rw none all;
      packed = λ l lt. rw (stored, filled, lane-splat 0 lanes pending zeros l lt) (Packed-start width (lane_word lanes bytes l) (lane_code lanes codes l));
    }

-- After the last row the bytes are the layout of the codes.
pub RowsPacked-done : (lanes width : ℕ) (codes values : List ℕ) (next : List ℕ → List ℕ) (bytes pending : List ℕ)
    → 0 < lanes → 4 * lanes * width ≤ length bytes → RowsPacked lanes width 32 codes values next bytes pending
    → Layout lanes width codes (take (4 * lanes * width) bytes)
RowsPacked-done lanes width codes values next bytes pending some room rows =
    Layout-from_lanes lanes width codes (take (4 * lanes * width) bytes) (AreBytes-take bytes (4 * lanes * width) rows.are_bytes)
    some rows.code_count (simp length-take (omega arith)) rows.fits
    (λ l lt. record {
      same =
          joined-front lanes width bytes l lt
          ∙ Packed-end width (lane_word lanes bytes l) (lane_code lanes codes l) 32 (32 * width / 32) (32 * width % 32)
          (get_or pending l 0) refl (row_offset width 32) (omega arith) (rows.packed l lt);
    })
