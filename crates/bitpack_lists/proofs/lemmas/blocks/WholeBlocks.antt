-- The whole blocks of version 2: bytes without a fault there hold the blocks that are read from them, and bytes
-- that hold blocks have no fault there. The values of a tail are a parameter.
-- Serves opened, v2.
use Rattle.std.proofs.Common.{◌≡◌, ℕ, ◌+◌, ◌-◌, ◌*◌, ◌^◌, ◌<◌, ◌≤◌, List, length, drop, get_or, Option, Some, None, refl, sym, ◌∙◌, ap, arith}
use Rattle.std.specs.Option.{option_map}
use Rattle.std.proofs.lemmas.Bool.{le-ltb, ltb-false}
use Rattle.bitpacking.specs.Bits.{AreBytes}
use Rattle.bitpacking.specs.Codes.{AreWords, codes}
use Rattle.bitpack_lists.specs.declared.list_error.ListError.TheVariants.{NotSorted}
use Rattle.bitpack_lists.specs.declared.list_kind.ListKind.{ListKind}
use Rattle.bitpack_lists.specs.Parts.{tail_values, whole_blocks}
use Rattle.bitpack_lists.specs.Version2.{HasBlocks, block_at, block_of, body_at, blocks_fault, body_fault2, entry_fault2, first_fault, first_out, is_out, kind_at, last_at, least_below, order_fault, tail_start, value_with, width_at}
use Rattle.bitpack_lists.proofs.lemmas.blocks.BlockLemmas.{AreWords-block_of}
use Rattle.bitpack_lists.proofs.lemmas.blocks.BlockValues.{values_of-packed}
use Rattle.bitpack_lists.proofs.lemmas.blocks.FaultLemmas.{none_first}
use Rattle.bitpack_lists.proofs.lemmas.blocks.HeaderLemmas.{passed}
use Rattle.bitpack_lists.proofs.lemmas.blocks.PartValues.{AreWords-values_in_parts, block_of-values_in_parts, length-values_in_parts, ordered_in_parts, tail_of-values_in_parts, value_is_given, values_in_parts}
pub use Rattle.bitpack_lists.proofs.lemmas.blocks.PartValues.{ordered_is}
use Rattle.bitpack_lists.proofs.lemmas.blocks.ReadSteps.{least_from_tight, tight_from_least}
use Rattle.bitpack_lists.proofs.lemmas.v1.OneEncoding1.{narrow_least}
use Rattle.bitpack_lists.proofs.lemmas.blocks.RestFaults.{body_right, first_fault-all, first_fault-none, right_body, right_entry}
use Rattle.bitpack_lists.proofs.lemmas.blocks.RestValues.{AreWords-block_at, Holds-block_at, length-block_at, offset_entry, start-kind_at}

-- ---- what no fault says of the blocks

pub record AreSound (lanes blocks : ℕ) (kind : ListKind) (rest : List ℕ) : Type 0 where
  pub entries : first_fault (entry_fault2 rest) blocks ≡ None
  pub bodies : first_fault (body_fault2 lanes blocks kind rest) blocks ≡ None
  pub room : tail_start lanes blocks rest ≤ length rest

-- The tail has room for so many bytes.
pub blocks_sound : (lanes blocks tail : ℕ) (kind : ListKind) (rest : List ℕ) → blocks_fault lanes blocks tail kind rest ≡ None
    → AreSound lanes blocks kind rest × (tail_start lanes blocks rest + tail ≤ length rest)
blocks_sound lanes blocks tail kind rest none =
    let one = none_first _ _ none in
    let two = none_first _ _ one.1 in
    let three = none_first _ _ two.1 in
    let end : tail_start lanes blocks rest + tail ≤ length rest = ltb-false _ _ (passed _ _ _ three.0).0 in
    (record { entries = two.0; bodies = three.1; room = omega (arith, end) }, end)

pub sound_blocks : (lanes blocks tail : ℕ) (kind : ListKind) (rest : List ℕ) → AreSound lanes blocks kind rest
    → tail_start lanes blocks rest + tail ≤ length rest → blocks_fault lanes blocks tail kind rest ≡ None
sound_blocks lanes blocks tail kind rest sound end =
    rw (
      le-ltb (length rest) (9 * blocks + tail) (omega (arith, end)),
      sound.entries,
      le-ltb (length rest) (tail_start lanes blocks rest + tail) end,
      sound.bodies,
    ) refl

not_mapped : {A B : Type 0} (f : A → B) (o : Option A) → option_map f o ≡ None → o ≡ None
not_mapped f None e = refl
not_mapped f (Some x) e = absurd cc

pub order_from_none : (kind : ListKind) (value : ℕ → ℕ) (count : ℕ) → order_fault kind value count ≡ None → least_below (is_out kind value) count ≡ None
order_from_none kind value count = not_mapped NotSorted (least_below (is_out kind value) count)

-- ---- from sound bytes to their values

module _ (lanes count : ℕ) (kind : ListKind) (rest : List ℕ) (tail : ℕ → ℕ) (some : 1 ≤ lanes) (small : AreBytes rest)
    (sound : AreSound lanes (whole_blocks lanes count) kind rest) (words : (k : ℕ) → k < tail_values lanes count → tail k < 2 ^ 32) where
  abbrev blocks : ℕ
  blocks = whole_blocks lanes count

  abbrev block : ℕ → List ℕ
  block = block_at lanes blocks kind rest

  length-block : (m : ℕ) → m < blocks → length (block m) ≡ 32 * lanes
  length-block m lt = length-block_at lanes blocks rest sound.entries m lt kind sound.room small

  abbrev pub values_with : List ℕ
  values_with = values_in_parts lanes count block tail

  pub length-values_with : length values_with ≡ count
  length-values_with = length-values_in_parts lanes count block tail some length-block

  pub AreWords-values_with : AreWords values_with
  AreWords-values_with =
      AreWords-values_in_parts lanes count block tail some length-block (λ m lt. AreWords-block_at lanes blocks rest sound.entries m lt kind sound.room small) words

  block_is : (m : ℕ) → m < blocks → block_of lanes values_with m ≡ block m
  block_is = block_of-values_in_parts lanes count block tail some length-block

  pub blocks_packed : HasBlocks lanes blocks kind values_with rest
  blocks_packed = record {
    entries = λ m lt.
        let none = first_fault-none (body_fault2 lanes blocks kind rest) blocks sound.bodies m lt in
        let right = body_right lanes (kind_at kind rest m) m (width_at rest m) (last_at rest m) (body_at lanes blocks rest m) none in
        let holds = Holds-block_at lanes blocks rest sound.entries m lt kind sound.room small in
        record {
          least = rw (block_is m lt) (least_from_tight lanes (width_at rest m) (codes (kind_at kind rest m) (block m)) (body_at lanes blocks rest m) holds right.0);
          offset = offset_entry lanes blocks rest sound.entries m lt;
          last = rw (block_is m lt) (sym right.1);
        };
    bodies = λ m lt. rw (block_is m lt) (Holds-block_at lanes blocks rest sound.entries m lt kind sound.room small);
    room = sound.room;
  }

  -- The values after the blocks are those of the tail.
  pub tail_packed : (later : List ℕ) → length later ≡ tail_values lanes count → ((k : ℕ) → k < length later → get_or later k 0 ≡ tail k)
      → drop (32 * lanes * blocks) values_with ≡ later
  tail_packed = tail_of-values_in_parts lanes count block tail some length-block

  pub ordered_with : least_below (is_out kind (value_with lanes blocks kind rest tail)) count ≡ None → first_out kind values_with ≡ None
  ordered_with = ordered_in_parts lanes count block tail some length-block kind

-- ---- from values to their bytes

module _ (lanes : ℕ) (kind : ListKind) (values rest : List ℕ) (some : 1 ≤ lanes) (small : AreBytes rest) (words : AreWords values)
    (has : HasBlocks lanes (whole_blocks lanes (length values)) kind values rest) where
  abbrev blocks_of : ℕ
  blocks_of = whole_blocks lanes (length values)

  pub narrow_block : (block : ℕ) → block < blocks_of → width_at rest block ≤ 32
  narrow_block block lt =
      narrow_least (kind_at kind rest block) (block_of lanes values block) (width_at rest block) (AreWords-block_of lanes block values words) (has.entries block lt).least

  -- The block that is read from the body is the one of the values.
  pub block_given : (block : ℕ) → block < blocks_of → block_of lanes values block ≡ block_at lanes blocks_of kind rest block
  block_given block lt =
      let holds = has.bodies block lt in
      values_of-packed lanes (width_at rest block) (kind_at kind rest block) (body_at lanes blocks_of rest block)
      (start-kind_at kind rest block small) (narrow_block block lt) holds.byte_count (block_of lanes values block)
      (AreWords-block_of lanes block values words) holds

  -- The value at each position is the one that the bytes encode, if so are the values of the tail.
  pub value_packed : (tail : ℕ → ℕ) → ((k : ℕ) → k < length (drop (32 * lanes * blocks_of) values) → get_or (drop (32 * lanes * blocks_of) values) k 0 ≡ tail k)
      → (p : ℕ) → p < length values → get_or values p 0 ≡ value_with lanes blocks_of kind rest tail p
  value_packed tail = value_is_given lanes values (block_at lanes blocks_of kind rest) tail some block_given

  pub sound_from_blocks : AreSound lanes blocks_of kind rest
  sound_from_blocks = record {
    entries = first_fault-all (entry_fault2 rest) blocks_of (λ block lt. right_entry rest block (narrow_block block lt) (has.entries block lt).offset);
    bodies = first_fault-all (body_fault2 lanes blocks_of kind rest) blocks_of (λ block lt.
        let entry = has.entries block lt in
        let tight = tight_from_least lanes (width_at rest block) (codes (kind_at kind rest block) (block_of lanes values block)) (body_at lanes blocks_of rest block)
        (has.bodies block lt) entry.least in
        right_body lanes (kind_at kind rest block) block (width_at rest block) (last_at rest block) (body_at lanes blocks_of rest block) tight
        (ap (λ xs. get_or xs (32 * lanes - 1) 0) (sym (block_given block lt)) ∙ sym entry.last));
    room = has.room;
  }
