-- A search that halves the blocks that are left, whatever a skip key says: what is known between two skip keys.
-- Serves opened.
use Rattle.std.proofs.Common.{◌≡◌, ℕ, zero, suc, ◌+◌, ◌-◌, ◌/◌, ◌^◌, ◌<◌, ◌≤◌, ◌⊎◌, refl, sym, arith, inl, inr}
use Rattle.std.proofs.lemmas.Bool.{cases_lt}
use Rattle.bitpacking.specs.declared.bit_packer.BitPacker.{Ghosts}
use Rattle.bitpack_lists.specs.declared.blocks.reads.PackedList.{PackedList}
use Rattle.bitpack_lists.specs.Chains.{next_kind}
use Rattle.bitpack_lists.specs.Parts.{first_kind}
use Rattle.bitpack_lists.specs.inner.Searching.{EndsBelow, blocks_of, kind_of_list, skip_key_of_list}
use Rattle.bitpack_lists.proofs.lemmas.blocks.BlockLemmas.{kind_after-next}

-- Half of what is left has a digit less.
pub digits_less : (left digits entries most : ℕ) → 0 < left → left < 2 ^ digits → entries + digits ≤ most
    → (less : ℕ) × (left / 2 < 2 ^ less) × (entries + 1 + less ≤ most)
digits_less left zero entries most some span few = absurd (omega arith)
digits_less left (suc less) entries most some span few = (less, omega arith, omega arith)

module _ {P : Type 0} {members : Ghosts P} (list : PackedList P members) (target : ℕ) where
  abbrev skip_key : ℕ → ℕ
  skip_key = skip_key_of_list list

  -- the blocks before one have skip keys below the target, and the skip key before it is known; or it has one itself, and is read again
  abbrev pub Passed : ℕ → ℕ → ℕ → Type 0
  Passed low left before =
      (EndsBelow list target low × (0 < low → kind_of_list list low ≡ next_kind (first_kind list.kind) before))
      ⊎ ((0 < left) × (skip_key low < target))

  -- the first block that reaches the target is one of those that are left, or the one after them, if there is one
  pub record IsHalved (low left before : ℕ) : Type 0 where
    pub within : low + left ≤ blocks_of list
    pub enough : low + left < blocks_of list → target ≤ skip_key (low + left)
    pub passed : Passed low left before

  module _ (low left before : ℕ) (is : IsHalved low left before) where
    -- A skip key below the target leaves those after it, and itself if the number is even.
    pub halved_below : 0 < left → skip_key (low + left / 2) < target → IsHalved (low + (left - left / 2)) (left / 2) (skip_key (low + left / 2))
    halved_below some below =
        let same : low + (left - left / 2) + left / 2 ≡ low + left = omega arith in
        record {
          within = omega (arith, is.within);
          enough = rw same is.enough;
          passed = elim (cases_lt (left / 2) (left - left / 2)) [
            | inl odd ↦
                let next : low + (left - left / 2) ≡ low + left / 2 + 1 = omega (arith, odd) in
                rw next (inl (
                  λ block e. let here : block ≡ low + left / 2 = omega (arith, e) in rw here below,
                  λ _. sym (kind_after-next list.kind skip_key (low + left / 2) (skip_key (low + left / 2)) refl),
                ))
            | inr even ↦
                let here : low + (left - left / 2) ≡ low + left / 2 = omega (arith, even) in
                rw here (inr (omega (arith, even, some), below))
          ];
        }

    -- One that reaches it leaves those before it.
    pub halved_reaching : 0 < left → target ≤ skip_key (low + left / 2) → IsHalved low (left / 2) before
    halved_reaching some enough = record {
      within = omega (arith, is.within);
      enough = λ _. enough;
      passed = elim is.passed [
        | inl known ↦ inl known
        | inr again ↦ elim (cases_lt 0 (left / 2)) [
          | inl more ↦ inr (more, again.1)
          | inr last ↦
              let here : low + left / 2 ≡ low = omega (arith, last) in
              let reached : target ≤ skip_key low = rw here at enough in
              absurd (omega (arith, reached, again.1))
        ]
      ];
    }
