-- The parts are tested in turn.
use Rattle.std.proofs.Common.{◌≡◌, ℕ, ◌+◌, ◌-◌, ◌<◌, ◌≤◌, ◌∙◌, Bool, List, arith, ap, sym, subst, take, drop, length, get_or}
use Rattle.std.specs.Bool.{Decides}
use Rattle.std.proofs.lemmas.List.{drop-drop, take_rest}
use Rattle.bitpack_slices.proofs.chunk.testing.is_blocks.Goals as goal
use Rattle.bitpack_slices.specs.Slices.{AreSlices, IsBlocks, IsSlice, numbers_in, slice_len}

-- the slices as the code cuts them
abbrev Cut : ℕ → ℕ → List ℕ → Type 0
Cut size many body = AreSlices (take (1 + size + many - (1 + size)) (drop (1 + size) body)) (drop 1 (take (length body - (size + many)) (drop (size + many) body)))

abbrev Whole : ℕ → ℕ → List ℕ → Type 0
Whole size many body = AreSlices (take many (drop (1 + size) body)) (drop (1 + size + many) body)

cut_is : (size many : ℕ) (body : List ℕ) → Cut size many body ≡ Whole size many body
cut_is size many body =
    let e : 1 + size + many - (1 + size) ≡ many = omega arith in
    let f : size + many + 1 ≡ 1 + size + many = omega arith in
    ap (λ (m : ℕ). AreSlices (take m (drop (1 + size) body)) (drop 1 (take (length body - (size + many)) (drop (size + many) body)))) e
    ∙ ap (λ (l : List ℕ). AreSlices (take many (drop (1 + size) body)) (drop 1 l)) (take_rest body (size + many))
    ∙ ap (AreSlices (take many (drop (1 + size) body))) (drop-drop 1 (size + many) body ∙ ap (λ (n : ℕ). drop n body) f)

decided : (count size : ℕ) (body : List ℕ) (r : Bool) → size ≡ slice_len (get_or body 0 0 + 1) → 0 < length body → 1 + size + (get_or body 0 0 + 1) ≤ length body
    → IsSlice (get_or body 0 0 + 1) (take (1 + size - 1) (drop 1 body))
    → numbers_in (take (1 + size + (get_or body 0 0 + 1) - (1 + size)) (drop (1 + size) body)) ≡ count
    → Decides r (Cut size (get_or body 0 0 + 1) body) → Decides r (IsBlocks count body)
decided count size body r e some room highs counted (yields, needs) =
    let many : ℕ = get_or body 0 0 + 1 in
    let e1 : 1 + size - 1 ≡ slice_len many = omega arith in
    let e2 : 1 + size + many - (1 + size) ≡ many = omega arith in (
      λ yes'. record {
        some = some;
        room = subst (λ (s : ℕ). 1 + s + many ≤ length body) e room;
        highs = subst (λ (s : ℕ). IsSlice many (take s (drop 1 body))) e1 highs;
        count_is = subst (λ (s : ℕ). numbers_in (take many (drop (1 + s) body)) ≡ count) e
            (subst (λ (m : ℕ). numbers_in (take m (drop (1 + size) body)) ≡ count) e2 counted);
        slices = subst (λ (s : ℕ). Whole s many body) e (subst (λ (A : Type 0). A) (cut_is size many body) (yields yes'));
      },
      λ is. needs (subst (λ (A : Type 0). A) (sym (cut_is size many body)) (subst (λ (s : ℕ). Whole s many body) (sym e) is.slices)),
    )

pub returns : goal.returns
returns c =
    decided c.args.count c.byte_len-size.result c.args.body.now c.are_slices.result c.byte_len-size.ensures (omega (arith, c.if-body-size.false)) c.if-body-size.false
    (c.is_slice.ensures.0 c.if-not-is_slice.false) (sym c.count_numbers.ensures ∙ c.if-count_numbers-count.false) c.are_slices.ensures
