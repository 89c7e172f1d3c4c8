-- A cursor: the values that it unpacked are those of its block.
use Rattle.std.proofs.Common.{◌≡◌, ℕ, min, ◌+◌, ◌-◌, ◌*◌, ◌/◌, ◌%◌, ◌<◌, ◌≤◌, List, Some, length, take, drop, get_or, sym, ◌∙◌, ap, arith, inl, inr}
use Rattle.std.specs.List.{slice_get}
use Rattle.std.proofs.lemmas.Bool.{cases_lt}
use Rattle.std.proofs.lemmas.List.{drop-drop, get_or-take}
use Rattle.std.proofs.lemmas.Option.{slice_get-get_or}
use Rattle.std.proofs.lemmas.Slice.{between_is}
use Rattle.bitpack_columns.specs.Columns.{block_of}
use Rattle.bitpack_columns.proofs.OpenedLaws.{value_of_block}

module _ (all unpacked : List ℕ) (block index len : ℕ) where
  pub values_ahead : block ≤ length all / 128 → len ≡ min 128 (length all - 128 * block) → index ≤ len → (block < length all / 128 → index < 128)
      → take len unpacked ≡ block_of block all → take (len - index) (drop index unpacked) ≡ take (128 - (128 * block + index) % 128) (drop (128 * block + index) all)
  values_ahead within long inside whole e =
      let few : index < 128 = elim (cases_lt block (length all / 128)) [ inl before ↦ whole before | inr after ↦ omega arith ] in
      let same : 128 - (128 * block + index) % 128 ≡ 128 - index = omega arith in
      between_is unpacked index len ∙ ap (drop index) e ∙ sym (between_is (drop (128 * block) all) index 128)
      ∙ ap (take (128 - index)) (drop-drop index (128 * block) all) ∙ ap (λ n. take n (drop (128 * block + index) all)) (sym same)

  pub value_ahead : len ≡ min 128 (length all - 128 * block) → take len unpacked ≡ block_of block all → index < len
      → Some (get_or unpacked index 0) ≡ slice_get all (128 * block + index)
  value_ahead long e lt =
      let here = sym (get_or-take len unpacked index 0 lt) ∙ ap (λ xs. get_or xs index 0) e ∙ value_of_block all block index (omega arith) in
      ap Some here ∙ sym (slice_get-get_or all (128 * block + index) 0 (omega arith))
