-- What bytes without a fault say of their blocks and their tail.
-- Serves opened.
use Rattle.std.proofs.Common.{◌≡◌, ℕ, ◌+◌, ◌-◌, ◌*◌, ◌<◌, List, length, drop, get_or, None}
use Rattle.bitpacking.specs.Bits.{AreBytes}
use Rattle.bitpack_lists.specs.declared.list_kind.ListKind.{ListKind}
use Rattle.bitpack_lists.specs.Parts.{count_of, kind_of_byte, tail_values, whole_blocks}
use Rattle.bitpack_lists.specs.Encodings.{States}
use Rattle.bitpack_lists.specs.Version2.{block_at, body_at, body_fault2, fault2, is_out, kind_at, last_at, least_below, tail_start, value_at, width_at}
use Rattle.bitpack_lists.proofs.lemmas.blocks.PartLemmas.{AreBytes-drop}
use Rattle.bitpack_lists.proofs.lemmas.blocks.RestFaults.{body_right, first_fault-none}
use Rattle.bitpack_lists.proofs.lemmas.blocks.RestValues.{length-block_at}
use Rattle.bitpack_lists.proofs.lemmas.blocks.WholeBlocks.{AreSound}
use Rattle.bitpack_lists.proofs.lemmas.v2.Soundness2.{sound_from_none2, whole_of}

-- ---- the blocks

module _ (lanes blocks : ℕ) (kind : ListKind) (rest : List ℕ) (sound : AreSound lanes blocks kind rest) (block : ℕ) (lt : block < blocks) where
  long : AreBytes rest → length (block_at lanes blocks kind rest block) ≡ 32 * lanes
  long small = length-block_at lanes blocks rest sound.entries block lt kind sound.room small

  ends : get_or (block_at lanes blocks kind rest block) (32 * lanes - 1) 0 ≡ last_at rest block
  ends =
      let none = first_fault-none (body_fault2 lanes blocks kind rest) blocks sound.bodies block lt in
      (body_right lanes (kind_at kind rest block) block (width_at rest block) (last_at rest block) (body_at lanes blocks rest block) none).1

pub record IsRead (lanes count : ℕ) (kind : ListKind) (rest : List ℕ) : Type 0 where
  pub ordered : least_below (is_out kind (value_at lanes (whole_blocks lanes count) kind rest)) count ≡ None
  pub long : (block : ℕ) → block < whole_blocks lanes count → length (block_at lanes (whole_blocks lanes count) kind rest block) ≡ 32 * lanes
  pub ends : (block : ℕ) → block < whole_blocks lanes count
      → get_or (block_at lanes (whole_blocks lanes count) kind rest block) (32 * lanes - 1) 0 ≡ last_at rest block

sound_in : (lanes : ℕ) (bytes : List ℕ) → AreBytes bytes → fault2 lanes bytes ≡ None
    → AreSound lanes (whole_blocks lanes (count_of bytes)) (kind_of_byte (get_or bytes 1 0)) (drop 7 bytes)
sound_in lanes bytes small none =
    whole_of lanes (count_of bytes) (kind_of_byte (get_or bytes 1 0)) (drop 7 bytes) (sound_from_none2 lanes bytes small none).1

is_read : (lanes : ℕ) (bytes : List ℕ) → AreBytes bytes → fault2 lanes bytes ≡ None
    → IsRead lanes (count_of bytes) (kind_of_byte (get_or bytes 1 0)) (drop 7 bytes)
is_read lanes bytes small none =
    let kind = kind_of_byte (get_or bytes 1 0) in
    let rest = drop 7 bytes in
    let blocks = whole_blocks lanes (count_of bytes) in
    let sound = sound_in lanes bytes small none in
    record {
      ordered = (sound_from_none2 lanes bytes small none).1.ordered;
      long = λ block lt. long lanes blocks kind rest sound block lt (AreBytes-drop 7 bytes small);
      ends = ends lanes blocks kind rest sound;
    }

module _ (lanes : ℕ) (bytes : List ℕ) (kind : ListKind) (count : ℕ) (rest : List ℕ) (small : AreBytes bytes)
    (states : States lanes bytes kind count rest) where
  pub read_of : IsRead lanes count kind rest
  read_of = rw (states.count_is, states.kind_is, states.rest_is) (is_read lanes bytes small states.none)

  pub sound_of : AreSound lanes (whole_blocks lanes count) kind rest
  sound_of = rw (states.count_is, states.kind_is, states.rest_is) (sound_in lanes bytes small states.none)

  -- The tail is as many words as it has values.
  pub words_of_tail : length rest ≡ tail_start lanes (whole_blocks lanes count) rest + 4 * tail_values lanes count
  words_of_tail =
      let (few, sound) = sound_from_none2 lanes bytes small states.none in
      rw (states.count_is, states.rest_is) sound.long
