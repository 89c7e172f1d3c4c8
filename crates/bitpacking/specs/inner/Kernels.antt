-- The arguments of a kernel, and what it leaves: as the clauses of the calls, but of codes instead of a block and its
-- kind.
use Rattle.std.specs.Prelude.{◌≡◌, ℕ, ◌*◌, ◌<◌, ◌≤◌, List, length, take, drop}
use Rattle.bitpacking.specs.Bits.{AreBytes}
use Rattle.bitpacking.specs.Calls.{CanUnpack}
use Rattle.bitpacking.specs.Layout.{size, Layout}
use Rattle.bitpacking.specs.Width.{Fits}
use Rattle.bitpacking.specs.declared.memory.ByteTarget.{ByteTarget}
use Rattle.bitpacking.specs.declared.memory.ValueTarget.{ValueTarget}

-- a whole block, a width, and room for its bytes
pub record HasRoom (lanes width : ℕ) (values buffer : List ℕ) : Type 0 where
  pub whole : length values ≡ 32 * lanes
  pub narrow : width ≤ 32
  pub room : size lanes width ≤ length buffer

-- as the arguments of a call, with the bits of a lane that each register of values counts for
pub record KernelCanPack (lanes width counted : ℕ) (values buffer : List ℕ) : Type 0 where
  pub can : HasRoom lanes width values buffer
  pub bits : counted ≡ width
  pub are_bytes : AreBytes buffer

pub record KernelCanUnpack (lanes width counted : ℕ) (bytes values : List ℕ) : Type 0 where
  pub can : CanUnpack lanes width bytes values
  pub bits : counted ≡ width
  pub are_bytes : AreBytes bytes

-- as the arguments of a kernel that packs or unpacks codes of fewer than 32 bits
pub record NarrowCanPack (lanes width counted : ℕ) (values buffer : List ℕ) : Type 0 where
  pub narrow : width < 32
  pub can : KernelCanPack lanes width counted values buffer

pub record NarrowCanUnpack (lanes width counted : ℕ) (bytes values : List ℕ) : Type 0 where
  pub narrow : width < 32
  pub can : KernelCanUnpack lanes width counted bytes values

-- if the codes fit, the buffer begins with their layout, which has as many bytes as were written; the rest of it is unchanged
pub record PackedCodes (lanes width : ℕ) (codes old new : List ℕ) (written : ℕ) : Type 0 where
  pub layout : Fits codes width → Layout lanes width codes (take (size lanes width) new)
  pub rest : drop (size lanes width) new ≡ drop (size lanes width) old
  pub count : written ≡ size lanes width

-- the values begin with the block whose codes were read, and the rest of them is unchanged
pub record UnpackedCodes (lanes width : ℕ) (values_of : List ℕ → List ℕ) (bytes old new : List ℕ) (read : ℕ) : Type 0 where
  pub block : (codes : List ℕ) × Layout lanes width codes (take (size lanes width) bytes)
      × (take (32 * lanes) new ≡ values_of codes)
  pub rest : drop (32 * lanes) new ≡ drop (32 * lanes) old
  pub count : read ≡ size lanes width

-- a kernel leaves this in the buffer of its target, which is still the same one
pub record KernelPacked (lanes width : ℕ) (codes : List ℕ) (old new : ByteTarget) (written : ℕ) : Type 0 where
  pub same_reference : new.bytes.ghost_name ≡ old.bytes.ghost_name
  pub packed : PackedCodes lanes width codes old.bytes.now new.bytes.now written

pub record KernelUnpacked (lanes width : ℕ) (values_of : List ℕ → List ℕ) (bytes : List ℕ) (old new : ValueTarget) (read : ℕ)
    : Type 0 where
  pub same_reference : new.words.ghost_name ≡ old.words.ghost_name
  pub unpacked : UnpackedCodes lanes width values_of bytes old.words.now new.words.now read
