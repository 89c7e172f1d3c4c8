-- Version 2: what right skip entries say of the bodies, and the value at each position that the rest of the bytes
-- encodes.
-- Serves blocks, opened.
use Rattle.std.proofs.Common.{◌≡◌, ℕ, zero, suc, ◌+◌, ◌-◌, ◌*◌, ◌^◌, ◌<◌, ◌≤◌, List, length, drop, get_or, None, sym, ◌∙◌, ap, arith}
use Rattle.std.proofs.lemmas.List.{length-drop, length-take-le}
use Rattle.bitpacking.specs.Bits.{AreBytes}
use Rattle.bitpacking.specs.Codes.{AreWords, start}
use Rattle.bitpacking.specs.Layout.{size, Holds}
use Rattle.bitpacking.proofs.ForCallers.{as_many_codes}
use Rattle.bitpack_lists.specs.declared.list_kind.ListKind.{ListKind}
use Rattle.bitpack_lists.specs.declared.list_kind.ListKind.TheVariants as lists
use Rattle.bitpack_lists.specs.Parts.{kind_after}
use Rattle.bitpack_lists.specs.Version2.{block_at, body_at, body_start, entry_fault2, first_fault, kind_at, last_at, offset_at, tail_start, value_with, width_at, widths_before}
use Rattle.bitpack_lists.proofs.lemmas.blocks.BlockValues.{AreWords-block, Holds-values_of}
use Rattle.bitpack_lists.proofs.lemmas.blocks.EntryLemmas.{body_end}
use Rattle.bitpack_lists.proofs.lemmas.blocks.PartLemmas.{AreBytes-drop, word-lt}
use Rattle.bitpack_lists.proofs.lemmas.blocks.PartValues.{value_in_parts-block}
use Rattle.bitpack_lists.proofs.lemmas.blocks.RestFaults.{entry_right, first_fault-none}

pub start-kind_after : (kind : ListKind) (last : ℕ → ℕ) (block : ℕ) → ((before : ℕ) → last before < 2 ^ 32) → start (kind_after kind last block) < 2 ^ 32
start-kind_after lists.Plain last zero words = omega arith
start-kind_after lists.Sorted last zero words = omega arith
start-kind_after lists.StrictlySorted last zero words = omega arith
start-kind_after lists.Plain last (suc block) words = omega arith
start-kind_after lists.Sorted last (suc block) words = words block
start-kind_after lists.StrictlySorted last (suc block) words = words block

pub start-kind_at : (kind : ListKind) (rest : List ℕ) (block : ℕ) → AreBytes rest → start (kind_at kind rest block) < 2 ^ 32
start-kind_at kind rest block small =
    start-kind_after kind (last_at rest) block (λ before. word-lt (drop (9 * before + 5) rest) (AreBytes-drop (9 * before + 5) rest small))

-- ---- right entries

module _ (lanes blocks : ℕ) (rest : List ℕ) (right : first_fault (entry_fault2 rest) blocks ≡ None) (block : ℕ) (lt : block < blocks) where
  entry : (width_at rest block ≤ 32) × (offset_at rest block ≡ widths_before rest block)
  entry = entry_right rest block (first_fault-none (entry_fault2 rest) blocks right block lt)

  pub narrow_entry : width_at rest block ≤ 32
  narrow_entry = entry.0

  pub offset_entry : offset_at rest block ≡ widths_before rest block
  offset_entry = entry.1

  pub body_room : tail_start lanes blocks rest ≤ length rest → body_start lanes blocks rest block + size lanes (width_at rest block) ≤ length rest
  body_room room = omega (arith, body_end lanes blocks blocks rest block lt entry.1, room)

  pub length-body_at : tail_start lanes blocks rest ≤ length rest → length (body_at lanes blocks rest block) ≡ size lanes (width_at rest block)
  length-body_at room =
      let from : ℕ = body_start lanes blocks rest block in
      length-take-le (size lanes (width_at rest block)) (drop from rest) (omega (arith, length-drop from rest, body_room room))

  -- The body holds the block that is read from it.
  pub Holds-block_at : (kind : ListKind) → tail_start lanes blocks rest ≤ length rest → AreBytes rest
      → Holds lanes (width_at rest block) (kind_at kind rest block) (block_at lanes blocks kind rest block) (body_at lanes blocks rest block)
  Holds-block_at kind room small =
      Holds-values_of lanes (width_at rest block) (kind_at kind rest block) (body_at lanes blocks rest block) (start-kind_at kind rest block small) entry.0
      (length-body_at room)

  pub AreWords-block_at : (kind : ListKind) → tail_start lanes blocks rest ≤ length rest → AreBytes rest → AreWords (block_at lanes blocks kind rest block)
  AreWords-block_at kind room small =
      AreWords-block lanes (width_at rest block) (kind_at kind rest block) (body_at lanes blocks rest block) (start-kind_at kind rest block small) entry.0
      (length-body_at room)

  pub length-block_at : (kind : ListKind) → tail_start lanes blocks rest ≤ length rest → AreBytes rest → length (block_at lanes blocks kind rest block) ≡ 32 * lanes
  length-block_at kind room small =
      sym (as_many_codes (kind_at kind rest block) (block_at lanes blocks kind rest block)) ∙ (Holds-block_at kind room small).code_count

-- ---- the values

module _ (lanes blocks : ℕ) (kind : ListKind) (rest : List ℕ) (tail : ℕ → ℕ) (some : 1 ≤ lanes) where
  pub value_with-block : (block k : ℕ) → block < blocks → k < 32 * lanes
      → value_with lanes blocks kind rest tail (32 * lanes * block + k) ≡ get_or (block_at lanes blocks kind rest block) k 0
  value_with-block = value_in_parts-block lanes blocks (block_at lanes blocks kind rest) tail some

-- The last value of a block, as the block's kind goes on from it.
pub value_with-last : (lanes blocks : ℕ) (kind : ListKind) (rest : List ℕ) (tail : ℕ → ℕ) (block last : ℕ) → 1 ≤ lanes → block < blocks
    → get_or (block_at lanes blocks kind rest block) (32 * lanes - 1) 0 ≡ last → value_with lanes blocks kind rest tail (32 * lanes * (block + 1) - 1) ≡ last
value_with-last lanes blocks kind rest tail block last some lt is =
    let n : ℕ = 32 * lanes in
    let here : n * (block + 1) - 1 ≡ n * block + (n - 1) = omega arith in
    ap (value_with lanes blocks kind rest tail) here ∙ value_with-block lanes blocks kind rest tail some block (n - 1) lt (omega arith) ∙ is
