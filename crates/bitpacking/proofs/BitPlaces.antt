-- Each bit of the bytes of a block is exactly one bit of one code.
use Rattle.std.proofs.Common.{◌≡◌, ℕ, ◌+◌, ◌*◌, ◌/◌, ◌%◌, ◌<◌, refl, ◌∙◌, arith}
use Rattle.std.proofs.lemmas.Nat.{mul-add-lt, div-mul-add, mod-mul-add, mod_below, div_below}
use Rattle.bitpacking.specs.Layout.{place, size}
use Rattle.bitpacking.proofs.LaneEquations.{place_at, row_split, row_below, bit_place}

-- The bit number t, seen as a bit of its lane's row of words.
abbrev pub row_bit : ℕ → ℕ → ℕ
row_bit lanes t = t / 32 / lanes * 32 + t % 32

-- The code and its bit that are bit t.
unfoldable pub code_of : ℕ → ℕ → ℕ → ℕ
code_of lanes width t = row_bit lanes t / width * lanes + t / 32 % lanes

unfoldable pub offset_of : ℕ → ℕ → ℕ → ℕ
offset_of lanes width t = row_bit lanes t % width

-- The word of a bit number, for a row's bit p.
pub word_split : (lanes p l : ℕ) → l < lanes
    → ((32 * (lanes * (p / 32) + l) + p % 32) / 32 / lanes ≡ p / 32)
    × ((32 * (lanes * (p / 32) + l) + p % 32) / 32 % lanes ≡ l)
    × ((32 * (lanes * (p / 32) + l) + p % 32) % 32 ≡ p % 32)
word_split lanes p l lt =
    let turn : lanes * (p / 32) + l ≡ p / 32 * lanes + l = omega arith in
    let high : (32 * (lanes * (p / 32) + l) + p % 32) / 32 ≡ p / 32 * lanes + l = omega arith in
    (rw high (div-mul-add (p / 32) lanes l lt), rw high (mod-mul-add (p / 32) lanes l lt), omega arith)

-- The bit of the row at a bit number.
pub row_bit_place : (lanes width i l j : ℕ) → l < lanes → j < width
    → (row_bit lanes (place lanes width (i * lanes + l) j) ≡ i * width + j)
    × (place lanes width (i * lanes + l) j / 32 % lanes ≡ l)
row_bit_place lanes width i l j hl hj =
    let parts = word_split lanes (i * width + j) l hl in
    let whole : (i * width + j) / 32 * 32 + (i * width + j) % 32 ≡ i * width + j = omega arith in
    (rw (place_at lanes width i l j hl, parts.0, parts.2) whole, rw (place_at lanes width i l j hl) parts.1)

pub of_place : (lanes width k j : ℕ) → 0 < lanes → j < width
    → (code_of lanes width (place lanes width k j) ≡ k) × (offset_of lanes width (place lanes width k j) ≡ j)
unfolding code_of offset_of
of_place lanes width k j some hj =
    let hl : k % lanes < lanes = mod_below k lanes some in
    let found = row_bit_place lanes width (k / lanes) (k % lanes) j hl hj in
    let whole : k / lanes * lanes + k % lanes ≡ k = row_split lanes k in
    let row : row_bit lanes (place lanes width k j) ≡ k / lanes * width + j = rw whole at found.0 in
    let col : place lanes width k j / 32 % lanes ≡ k % lanes = rw whole at found.1 in
    (rw (row, col, div-mul-add (k / lanes) width j hj) whole, rw (row, mod-mul-add (k / lanes) width j hj) refl)

pub place_lt : (lanes width k j : ℕ) → 0 < lanes → k < 32 * lanes → j < width
    → place lanes width k j < 8 * size lanes width
unfolding place
place_lt lanes width k j some hk hj =
    let p : ℕ = k / lanes * width + j in
    let hp : p < 32 * width = bit_place width (k / lanes) j (row_below lanes k some hk) hj in
    let hl : k % lanes < lanes = mod_below k lanes some in
    let hq : p / 32 < width = omega arith in
    let hw : p / 32 * lanes + k % lanes < lanes * width = mul-add-lt (p / 32) lanes (k % lanes) width hq hl in
    omega arith

pub row_bit_lt : (lanes width t : ℕ) → 0 < lanes → t < 8 * size lanes width → row_bit lanes t < 32 * width
row_bit_lt lanes width t some ht =
    let hw : t / 32 < width * lanes = omega arith in
    let hq : t / 32 / lanes < width = div_below (t / 32) lanes width some hw in
    omega arith

pub place_of : (lanes width t : ℕ) → 0 < lanes → t < 8 * size lanes width
    → (code_of lanes width t < 32 * lanes) × (offset_of lanes width t < width)
    × (place lanes width (code_of lanes width t) (offset_of lanes width t) ≡ t)
unfolding code_of offset_of
place_of lanes width t some ht =
    let p : ℕ = row_bit lanes t in
    let hp : row_bit lanes t < 32 * width = row_bit_lt lanes width t some ht in
    let wide : 0 < width = omega arith in
    let hl : t / 32 % lanes < lanes = mod_below (t / 32) lanes some in
    let hi : row_bit lanes t / width < 32 = div_below (row_bit lanes t) width 32 wide hp in
    let hj : row_bit lanes t % width < width = mod_below (row_bit lanes t) width wide in
    let whole : row_bit lanes t / width * width + row_bit lanes t % width ≡ row_bit lanes t = row_split width (row_bit lanes t) in
    let high : row_bit lanes t / 32 ≡ t / 32 / lanes = omega arith in
    let low : row_bit lanes t % 32 ≡ t % 32 = omega arith in
    let word : t / 32 / lanes * lanes + t / 32 % lanes ≡ t / 32 = row_split lanes (t / 32) in (
      omega (arith, mul-add-lt (row_bit lanes t / width) lanes (t / 32 % lanes) 32 hi hl),
      hj,
      place_at lanes width (row_bit lanes t / width) (t / 32 % lanes) (row_bit lanes t % width) hl
          ∙ rw (whole, high, low) (omega arith),
    )
