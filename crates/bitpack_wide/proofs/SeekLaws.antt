-- The id at a rank is the first that is at least the target.
use Rattle.std.proofs.Common.{◌≡◌, ℕ, ◌<◌, ◌≤◌, List, None, Option, Some, true, get_or, length, sym, ap, ◌∙◌, arith, inl, inr, subst}
use Rattle.std.specs.List.{slice_get}
use Rattle.std.specs.Option.{is_some, option_map}
use Rattle.std.proofs.lemmas.Bool.{cases_lt}
use Rattle.std.proofs.lemmas.Option.{slice_get-get_or, slice_get_past, get_or_from_slice_get, slice_get_within}
use Rattle.bitpack_slices.proofs.ForCallers.{rank_above, rank_le}
use Rattle.bitpack_slices.specs.Bodies.{IsRising}
use Rattle.bitpack_slices.specs.Reads.{rank}
use Rattle.bitpack_wide.specs.Forms.{Seeks, placed}

pub seeks_some : (target position id low high : ℕ) (ids : List ℕ) → IsRising low high ids → position ≡ rank target ids → slice_get ids position ≡ Some id → Seeks target ids (Some (position, id))
seeks_some target position id low high ids r e found =
    let lt = slice_get_within ids position id found in
    let value = get_or_from_slice_get ids position id 0 found in
    record {
      found = (e, found);
      least = elim (cases_lt (get_or ids position 0) target) [
        | inl less ↦ (let above = rank_above target low high position ids r lt less in absurd (omega arith))
        | inr more ↦ omega arith
      ];
    }

pub seeks_none : (target position : ℕ) (ids : List ℕ) → position ≡ rank target ids → length ids ≤ position → Seeks target ids None
seeks_none target position ids e past = (let most = rank_le target ids in record { found = omega arith; least = tt })

pub seeks : (target position low high : ℕ) (ids : List ℕ) (result : Option (ℕ × ℕ)) → IsRising low high ids → position ≡ rank target ids → result ≡ placed position ids → Seeks target ids result
seeks target position low high ids result r e same = elim (cases_lt position (length ids)) [
  | inl less ↦
      let found = slice_get-get_or ids position 0 less in
      subst (Seeks target ids) (sym (same ∙ ap (option_map (λ (id : ℕ). (position, id))) found)) (seeks_some target position (get_or ids position 0) low high ids r e found)
  | inr past ↦
      subst (Seeks target ids) (sym (same ∙ ap (option_map (λ (id : ℕ). (position, id))) (slice_get_past ids position past))) (seeks_none target position ids e past)
]

-- an id that was taken at a position of a set
pub taken : (xs ys : List ℕ) (position id : ℕ) (result : Option ℕ) → xs ≡ ys → result ≡ slice_get xs position → result ≡ Some id → id ≡ get_or ys position 0
taken xs ys position id result same e found = sym (get_or_from_slice_get xs position id 0 (sym e ∙ found)) ∙ ap (λ (l : List ℕ). get_or l position 0) same

pub is_taken : (xs : List ℕ) (position : ℕ) (result : Option ℕ) → position < length xs → result ≡ slice_get xs position → is_some result ≡ true
is_taken xs position result lt e = ap is_some (e ∙ slice_get-get_or xs position 0 lt)
