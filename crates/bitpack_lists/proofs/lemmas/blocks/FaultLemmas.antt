-- Version 1: the faults of one block, and what a block without one has.
-- Serves blocks, v1, v2.
use Rattle.std.proofs.Common.{◌≡◌, ℕ, suc, ◌+◌, ◌-◌, ◌*◌, ◌<◌, ◌≤◌, true, false, cond, ltb, List, [], ◌∷◌, length, take, drop, get_or, Option, Some, None, refl, sym, ◌∙◌, ap, arith}
use Rattle.std.specs.Option.{option_or}
use Rattle.std.proofs.lemmas.Bool.{lt-ltb, le-ltb, ltb-false}
use Rattle.std.proofs.lemmas.List.{take_all}
use Rattle.bitpacking.specs.Layout.{size}
use Rattle.bitpack_lists.specs.declared.list_error.ListError.{ListError}
use Rattle.bitpack_lists.specs.declared.list_error.ListError.TheVariants.{Short, BadWidth, LooseWidth, Trailing}
use Rattle.bitpack_lists.specs.Parts.{is_loose, header_fault, count_of, whole_blocks, tail_values}
use Rattle.bitpack_lists.proofs.lemmas.blocks.HeaderLemmas.{passed}
pub use Rattle.bitpack_lists.specs.Version1.{IsRight}
use Rattle.bitpack_lists.specs.Version1.{block_fault1, after_block1, blocks_fault1, body_fault1, fault1}

pub front-is : (bytes : List ℕ) → 1 ≤ length bytes → bytes ≡ get_or bytes 0 0 ∷ take (length bytes - 1) (drop 1 bytes)
front-is [] some = absurd (omega arith)
front-is (byte ∷ bytes) some = ap (λ zs. byte ∷ zs) (sym (take_all (suc (length bytes) - 1) bytes (omega arith)))

pub no_byte : (lanes block : ℕ) (bytes : List ℕ) → length bytes < 1 → block_fault1 lanes block bytes ≡ Some Short
unfolding block_fault1
no_byte lanes block [] none = refl
no_byte lanes block (byte ∷ bytes) none = absurd (omega arith)

module _ (lanes block width : ℕ) (bytes rest : List ℕ) (is : bytes ≡ width ∷ rest) where
  pub wide : 32 < width → block_fault1 lanes block bytes ≡ Some (BadWidth block width)
  unfolding block_fault1
  wide above = ap (block_fault1 lanes block) is ∙ rw (lt-ltb 32 width above) refl

  pub missing : width ≤ 32 → length rest < size lanes width → block_fault1 lanes block bytes ≡ Some Short
  unfolding block_fault1
  missing narrow few = ap (block_fault1 lanes block) is ∙ rw (le-ltb 32 width narrow, lt-ltb (length rest) (size lanes width) few) refl

  pub loose : width ≤ 32 → size lanes width ≤ length rest → is_loose lanes width (take (size lanes width) rest) ≡ true
      → block_fault1 lanes block bytes ≡ Some (LooseWidth block width)
  unfolding block_fault1
  loose narrow room is_loose =
      ap (block_fault1 lanes block) is ∙ rw (le-ltb 32 width narrow, le-ltb (length rest) (size lanes width) room, is_loose) refl

  pub right : width ≤ 32 → size lanes width ≤ length rest → is_loose lanes width (take (size lanes width) rest) ≡ false
      → block_fault1 lanes block bytes ≡ None
  unfolding block_fault1
  right narrow room is_least =
      ap (block_fault1 lanes block) is ∙ rw (le-ltb 32 width narrow, le-ltb (length rest) (size lanes width) room, is_least) refl

pub right_from_none : (lanes block : ℕ) (bytes : List ℕ) → block_fault1 lanes block bytes ≡ None → IsRight lanes bytes
unfolding block_fault1
right_from_none lanes block [] none = absurd cc
right_from_none lanes block (width ∷ bytes) none =
    let one = passed _ _ _ none in
    let two = passed _ _ _ one.1 in
    let three = passed _ _ _ two.1 in
    record { some = omega arith; narrow = ltb-false _ _ one.0; room = ltb-false _ _ two.0; least = three.0 }

-- ---- blocks and tail

pub tail_short : (lanes tail block : ℕ) (bytes : List ℕ) → length bytes < tail → blocks_fault1 lanes tail block 0 bytes ≡ Some Short
unfolding blocks_fault1
tail_short lanes tail block bytes few = rw (lt-ltb (length bytes) tail few) refl

pub tail_long : (lanes tail block : ℕ) (bytes : List ℕ) → tail < length bytes → blocks_fault1 lanes tail block 0 bytes ≡ Some Trailing
unfolding blocks_fault1
tail_long lanes tail block bytes many = rw (le-ltb (length bytes) tail (omega arith), lt-ltb tail (length bytes) many) refl

pub tail_right : (lanes tail block : ℕ) (bytes : List ℕ) → length bytes ≡ tail → blocks_fault1 lanes tail block 0 bytes ≡ None
unfolding blocks_fault1
tail_right lanes tail block bytes e = rw (le-ltb (length bytes) tail (omega arith), le-ltb tail (length bytes) (omega arith)) refl

pub tail_from_none : (lanes tail block : ℕ) (bytes : List ℕ) → blocks_fault1 lanes tail block 0 bytes ≡ None → length bytes ≡ tail
unfolding blocks_fault1
tail_from_none lanes tail block bytes none =
    let one = passed (ltb (length bytes) tail) Short (cond (ltb tail (length bytes)) (Some Trailing) None) none in
    let two = passed (ltb tail (length bytes)) Trailing None one.1 in
    let low : tail ≤ length bytes = ltb-false (length bytes) tail one.0 in
    let high : length bytes ≤ tail = ltb-false tail (length bytes) two.0 in
    omega arith

-- The loop that tests one block after the other.
pub blocks_left : (lanes tail blocks i : ℕ) (bytes : List ℕ) → i < blocks
    → blocks_fault1 lanes tail i (blocks - i) bytes
    ≡ option_or (block_fault1 lanes i bytes) (blocks_fault1 lanes tail (i + 1) (blocks - (i + 1)) (after_block1 lanes bytes))
unfolding blocks_fault1
blocks_left lanes tail blocks i bytes lt =
    let one_less : blocks - i ≡ suc (blocks - (i + 1)) = omega arith in
    rw one_less refl

pub no_blocks_left : (lanes tail blocks i : ℕ) (bytes : List ℕ) → blocks ≤ i
    → blocks_fault1 lanes tail i (blocks - i) bytes ≡ blocks_fault1 lanes tail i 0 bytes
no_blocks_left lanes tail blocks i bytes le =
    let none : blocks - i ≡ 0 = omega arith in
    rw none refl

pub none_first : {A : Type 0} (one other : Option A) → option_or one other ≡ None → (one ≡ None) × (other ≡ None)
none_first None other e = (refl, e)
none_first (Some x) other e = absurd cc

-- ---- a whole list

pub header_first : (lanes : ℕ) (bytes : List ℕ) (fault : ListError) → header_fault 1 lanes bytes ≡ Some fault → fault1 lanes bytes ≡ Some fault
unfolding fault1
header_first lanes bytes fault found = ap (λ o. option_or o (body_fault1 lanes (count_of bytes) (drop 7 bytes))) found

pub body_next : (lanes count : ℕ) (bytes : List ℕ) → header_fault 1 lanes bytes ≡ None → count_of bytes ≡ count
    → fault1 lanes bytes ≡ body_fault1 lanes count (drop 7 bytes)
unfolding fault1
body_next lanes count bytes none is =
    ap (λ o. option_or o (body_fault1 lanes (count_of bytes) (drop 7 bytes))) none ∙ ap (λ n. body_fault1 lanes n (drop 7 bytes)) is

pub body_short : (lanes count blocks tail : ℕ) (bytes : List ℕ) → blocks ≡ whole_blocks lanes count → tail ≡ 4 * tail_values lanes count
    → length bytes < blocks + tail → body_fault1 lanes count bytes ≡ Some Short
unfolding body_fault1
body_short lanes count blocks tail bytes e f few =
    let few' : length bytes < whole_blocks lanes count + 4 * tail_values lanes count = rw (e, f) at few in
    rw (lt-ltb (length bytes) (whole_blocks lanes count + 4 * tail_values lanes count) few') refl

pub body_blocks : (lanes count blocks tail : ℕ) (bytes : List ℕ) → blocks ≡ whole_blocks lanes count → tail ≡ 4 * tail_values lanes count
    → blocks + tail ≤ length bytes → body_fault1 lanes count bytes ≡ blocks_fault1 lanes tail 0 blocks bytes
unfolding body_fault1
body_blocks lanes count blocks tail bytes e f enough =
    let enough' : whole_blocks lanes count + 4 * tail_values lanes count ≤ length bytes = rw (e, f) at enough in
    rw (le-ltb (length bytes) (whole_blocks lanes count + 4 * tail_values lanes count) enough', e, f) refl

pub body_from_none : (lanes count : ℕ) (bytes : List ℕ) → body_fault1 lanes count bytes ≡ None
    → blocks_fault1 lanes (4 * tail_values lanes count) 0 (whole_blocks lanes count) bytes ≡ None
unfolding body_fault1
body_from_none lanes count bytes none = (passed _ _ _ none).1
