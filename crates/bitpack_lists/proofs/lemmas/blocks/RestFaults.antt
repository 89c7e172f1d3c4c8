-- Version 2: the first fault of many blocks, of an entry and of a body.
-- Serves blocks, opened.
use Rattle.std.proofs.Common.{◌≡◌, ◌≢◌, ℕ, zero, suc, ◌+◌, ◌-◌, ◌*◌, ◌<◌, ◌≤◌, true, false, eqb, List, get_or, Option, Some, None, refl, ap, arith, inl, inr, add-one}
use Rattle.std.specs.Option.{option_or}
use Rattle.std.proofs.lemmas.Bool.{cases_lt, lt-ltb, le-ltb, ltb-false, eq-eqb, eqb-true, not-false, false_from_ne_true}
use Rattle.bitpacking.specs.declared.kind.Kind.{Kind}
use Rattle.bitpacking.specs.Codes.{values_of}
use Rattle.bitpacking.specs.Layout.{codes_of}
use Rattle.bitpack_lists.specs.declared.list_error.ListError.{ListError}
use Rattle.bitpack_lists.specs.declared.list_error.ListError.TheVariants.{BadWidth, LooseWidth, BadOffset, BadLast}
use Rattle.bitpack_lists.specs.Parts.{is_loose}
use Rattle.bitpack_lists.specs.Version2.{block_fault2, entry_fault2, first_fault, offset_at, width_at, widths_before}
use Rattle.bitpack_lists.proofs.lemmas.blocks.FaultLemmas.{none_first}
use Rattle.bitpack_lists.proofs.lemmas.blocks.HeaderLemmas.{passed}

ne-eqb : (a b : ℕ) → a ≢ b → eqb a b ≡ false
ne-eqb a b apart = false_from_ne_true (eqb a b) (λ e. apart (eqb-true a b e))

-- ---- many blocks

pub first_fault-next : (fault : ℕ → Option ListError) (block : ℕ) → first_fault fault block ≡ None → first_fault fault (block + 1) ≡ fault block
unfolding first_fault
first_fault-next fault block none = rw (add-one, none) refl

pub first_fault-found : (fault : ℕ → Option ListError) (block blocks : ℕ) (found : ListError) → block < blocks
    → first_fault fault block ≡ None → fault block ≡ Some found → first_fault fault blocks ≡ Some found
unfolding first_fault
first_fault-found fault block zero found lt none is = absurd (omega arith)
first_fault-found fault block (suc blocks) found lt none is = elim (cases_lt block blocks) [
  | inl below ↦ ap (λ o. option_or o (fault blocks)) (first_fault-found fault block blocks found below none is)
  | inr end ↦
      let here : blocks ≡ block = omega arith in
      rw (here, none) is
]

-- There is none exactly where no block has one.
pub first_fault-none : (fault : ℕ → Option ListError) (blocks : ℕ) → first_fault fault blocks ≡ None → (k : ℕ) → k < blocks → fault k ≡ None
unfolding first_fault
first_fault-none fault zero none k lt = absurd (omega arith)
first_fault-none fault (suc blocks) none k lt =
    let both = none_first (first_fault fault blocks) (fault blocks) none in
    elim (cases_lt k blocks) [
      | inl below ↦ first_fault-none fault blocks both.0 k below
      | inr end ↦
          let here : k ≡ blocks = omega arith in
          rw here both.1
    ]

pub first_fault-all : (fault : ℕ → Option ListError) (blocks : ℕ) → ((k : ℕ) → k < blocks → fault k ≡ None) → first_fault fault blocks ≡ None
unfolding first_fault
first_fault-all fault zero each = refl
first_fault-all fault (suc blocks) each = rw (first_fault-all fault blocks (λ k lt. each k (omega arith)), each blocks (omega arith)) refl

-- ---- an entry

module _ (rest : List ℕ) (block : ℕ) where
  pub wide_entry : 32 < width_at rest block → entry_fault2 rest block ≡ Some (BadWidth block (width_at rest block))
  unfolding entry_fault2
  wide_entry wide = rw (lt-ltb 32 (width_at rest block) wide) refl

  pub off_entry : width_at rest block ≤ 32 → offset_at rest block ≢ widths_before rest block → entry_fault2 rest block ≡ Some (BadOffset block)
  unfolding entry_fault2
  off_entry narrow off = rw (le-ltb 32 (width_at rest block) narrow, ne-eqb (offset_at rest block) (widths_before rest block) off) refl

  pub right_entry : width_at rest block ≤ 32 → offset_at rest block ≡ widths_before rest block → entry_fault2 rest block ≡ None
  unfolding entry_fault2
  right_entry narrow is = rw (le-ltb 32 (width_at rest block) narrow, eq-eqb (offset_at rest block) (widths_before rest block) is) refl

  pub entry_right : entry_fault2 rest block ≡ None → (width_at rest block ≤ 32) × (offset_at rest block ≡ widths_before rest block)
  unfolding entry_fault2
  entry_right none =
      let one = passed _ _ _ none in
      let two = passed _ _ _ one.1 in
      (ltb-false _ _ one.0, eqb-true _ _ (not-false _ two.0))

-- ---- a body

module _ (lanes : ℕ) (kind : Kind) (block width last : ℕ) (body : List ℕ) where
  pub loose_body : is_loose lanes width body ≡ true → block_fault2 lanes kind block width last body ≡ Some (LooseWidth block width)
  unfolding block_fault2
  loose_body loose = rw loose refl

  pub other_last : is_loose lanes width body ≡ false → get_or (values_of kind (codes_of lanes width body)) (32 * lanes - 1) 0 ≢ last
      → block_fault2 lanes kind block width last body ≡ Some (BadLast block)
  unfolding block_fault2
  other_last tight other = rw (tight, ne-eqb (get_or (values_of kind (codes_of lanes width body)) (32 * lanes - 1) 0) last other) refl

  pub right_body : is_loose lanes width body ≡ false → get_or (values_of kind (codes_of lanes width body)) (32 * lanes - 1) 0 ≡ last
      → block_fault2 lanes kind block width last body ≡ None
  unfolding block_fault2
  right_body tight is = rw (tight, eq-eqb (get_or (values_of kind (codes_of lanes width body)) (32 * lanes - 1) 0) last is) refl

  pub body_right : block_fault2 lanes kind block width last body ≡ None
      → (is_loose lanes width body ≡ false) × (get_or (values_of kind (codes_of lanes width body)) (32 * lanes - 1) 0 ≡ last)
  unfolding block_fault2
  body_right none =
      let one = passed _ _ _ none in
      let two = passed _ _ _ one.1 in
      (one.0, eqb-true _ _ (not-false _ two.0))
