-- How far a block is packed or unpacked before one of its rows, and what is moved for the rows between two.
use Rattle.std.specs.Prelude.{◌≡◌, ℕ, ◌+◌, ◌-◌, ◌*◌, ◌/◌, ◌%◌, ◌^◌, ◌<◌, ◌≤◌, max, List, ◌++◌, length, slice_index, take, drop}
use Rattle.bitpacking.specs.Bits.{AreBytes}
use Rattle.bitpacking.specs.Layout.{Layout, size}
use Rattle.bitpacking.specs.Width.{Fits}
use Rattle.bitpacking.specs.Words.{joined, word}
use Rattle.bitpacking.specs.declared.memory.Steps.{Steps}

-- Of a lane's codes of w bits the first n are packed: `stored` words are written, and `pending` has the `filled` bits above.
pub record Packed (w : ℕ) (words codes : ℕ → ℕ) (n stored filled pending : ℕ) : Type 0 where
  pub below : pending < 2 ^ filled
  pub same : pending * 2 ^ (32 * stored) + joined 32 words stored ≡ joined w codes n

-- Of a lane's words, as one number, the first `loaded` are read, and `pending` has their last `left` bits: those from code n on.
pub record Unpacked (w number n loaded left pending : ℕ) : Type 0 where
  pub is : pending ≡ number / 2 ^ (w * n) % 2 ^ left

-- How many words of a lane have bits of the codes before code n, and how many of their bits are of later codes.
abbrev pub words_to : ℕ → ℕ → ℕ
words_to width n = (n * width + 31) / 32

abbrev pub left_at : ℕ → ℕ → ℕ
left_at width n = 32 * words_to width n - n * width

-- What the rows from a row on are packed from and into: a whole block, room for its bytes, and the bits that fill no word yet.
pub record RowsCanPack (lanes width row counted : ℕ) (values bytes : List ℕ) (inside : ℕ) : Type 0 where
  pub narrow : width < 32
  pub from : row ≤ 24
  pub bits : counted ≡ width
  pub block : length values ≡ 32 * lanes
  pub room : size lanes width ≤ length bytes
  pub loaded : row * width % 32 ≤ inside

-- What they are unpacked from and into: the bytes of a block, room for its values, and the bits that are of no code yet.
pub record RowsCanUnpack (lanes width row stored counted : ℕ) (bytes values : List ℕ) (inside : ℕ) : Type 0 where
  pub narrow : width < 32
  pub from : row ≤ 24
  pub start : stored ≡ row
  pub bits : counted ≡ width
  pub whole : size lanes width ≤ length bytes
  pub room : 32 * lanes ≤ length values
  pub loaded : left_at width row ≤ inside

-- The rows before row n of the codes are packed; `next` returns the codes of the values from that row on.
pub record RowsPacked (lanes width n : ℕ) (codes values : List ℕ) (next : List ℕ → List ℕ) (bytes pending : List ℕ) : Type 0 where
  pub code_count : length codes ≡ 32 * lanes
  pub fits : Fits codes width
  pub are_bytes : AreBytes bytes
  pub left : drop (lanes * n) codes ≡ next (drop (lanes * n) values)
  pub packed : (l : ℕ) → l < lanes
      → Packed width (λ q. word bytes (lanes * q + l)) (λ i. slice_index codes (i * lanes + l))
      n (n * width / 32) (n * width % 32) (slice_index pending l)

-- The rows before row n of the codes are unpacked; `next` returns the values of the codes from that row on.
pub record RowsUnpacked (lanes width n : ℕ) (bytes codes : List ℕ) (next : List ℕ → List ℕ) (values words pending : List ℕ) : Type 0 where
  pub layout : Layout lanes width codes (take (size lanes width) bytes)
  pub are_bytes : AreBytes bytes
  pub written : take (lanes * n) words ++ next (drop (lanes * n) codes) ≡ values
  pub unpacked : (l : ℕ) → l < lanes
      → Unpacked width (joined 32 (λ q. word bytes (lanes * q + l)) width)
      n (words_to width n) (left_at width n) (slice_index pending l)

-- The moves by which the rows from `from` to `to` are packed.
pub record PacksRows (old new : Steps) (width from to : ℕ) : Type 0 where
  pub loads : new.loads + from ≡ old.loads + to
  pub stores : new.stores + from * width / 32 ≡ old.stores + to * width / 32
  pub inside : new.inside + from * width % 32 ≡ old.inside + to * width % 32
  pub held : new.held + from * width % 32 ≤ max (old.held + from * width % 32) (old.inside + (32 + width))

-- The moves by which the rows from `from` to `to` are unpacked.
pub record UnpacksRows (old new : Steps) (width from to : ℕ) : Type 0 where
  pub loads : new.loads + words_to width from ≡ old.loads + words_to width to
  pub stores : new.stores + from ≡ old.stores + to
  pub inside : new.inside + left_at width from ≡ old.inside + left_at width to
  pub held : new.held + left_at width from ≤ max (old.held + left_at width from) (old.inside + (32 + width))
