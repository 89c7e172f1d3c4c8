-- The parts are cut as a body of blocks is read.
use Rattle.std.proofs.Common.{ℕ, ◌≡◌, ◌∙◌, ◌+◌, ◌-◌, ◌≤◌, List, ap, arith, drop, get_or, length, length-drop, subst, sym, take}
use Rattle.std.proofs.lemmas.List.{take_rest}
use Rattle.bitpack_groups.proofs.ForCallers.{AreBytes-drop}
use Rattle.bitpacking.proofs.ForCallers.{AreBytes-take}
use Rattle.bitpack_slices.proofs.lemmas.bodies.CutLaws.{counts_cut, counts_len, cut, highs_cut, slices_cut}
use Rattle.bitpack_slices.specs.Slices.{AreSlices, IsSlice, counts_in, numbers_in, slice_len}
use Rattle.bitpack_slices.proofs.chunk.parts.Parts.new.Goals as goal

-- what is cut from an index on ends where all ends
rest_end : (n : ℕ) (xs : List ℕ) → n ≤ length xs → drop (length xs - length (take (length xs - n) (drop n xs))) xs ≡ take (length xs - n) (drop n xs)
rest_end n xs room =
    let long = ap length (take_rest xs n) ∙ length-drop n xs in
    let from : length xs - length (take (length xs - n) (drop n xs)) ≡ n = omega arith in
    ap (λ (m : ℕ). drop m xs) from ∙ sym (take_rest xs n)

pub invariant_of-result-clause-are_bytes : goal.invariant_of-result-clause-are_bytes
invariant_of-result-clause-are_bytes c =
    let size : ℕ = c.byte_len-size.result in
    AreBytes-take _ (1 + size + (get_or c.args.body.now 0 0 + 1) - (1 + size)) (AreBytes-drop (1 + size) c.args.body.now (λ k. (c.type_inv.body k).fits))

pub invariant_of-result-clause-occur : goal.invariant_of-result-clause-occur
invariant_of-result-clause-occur c =
    let size : ℕ = c.byte_len-size.result in
    let body = c.args.body.now in
    let many : ℕ = get_or body 0 0 + 1 in
    let room = c.requires.room in
    let e = c.byte_len-size.ensures in
    let long : length (take (1 + size + many - (1 + size)) (drop (1 + size) body)) ≡ many =
    ap length (counts_cut size many body e) ∙ counts_len (slice_len many) many body (omega arith) in
    subst (λ (n : ℕ). IsSlice n (take (1 + size - 1) (drop 1 body))) (sym long) (subst (IsSlice many) (sym (highs_cut size many body e)) c.requires.highs)

pub invariant_of-result-clause-are : goal.invariant_of-result-clause-are
invariant_of-result-clause-are c =
    let size : ℕ = c.byte_len-size.result in
    let body = c.args.body.now in
    let many : ℕ = get_or body 0 0 + 1 in
    let slices : List ℕ = take (length body - (1 + size + many)) (drop (1 + size + many) body) in
    subst (λ (l : List ℕ). AreSlices l slices) (sym (counts_cut size many body c.byte_len-size.ensures))
    (subst (AreSlices (counts_in body)) (sym (slices_cut size many body c.byte_len-size.ensures)) c.requires.slices)

pub returns-clause-numbers : goal.returns-clause-numbers
returns-clause-numbers c = cut c.byte_len-size.result c.args.body.now c.byte_len-size.ensures (omega (arith, c.requires.room, c.byte_len-size.ensures))

pub returns-clause-counted : goal.returns-clause-counted
returns-clause-counted c = ap numbers_in (counts_cut c.byte_len-size.result (get_or c.args.body.now 0 0 + 1) c.args.body.now c.byte_len-size.ensures) ∙ c.requires.count_is

pub returns-clause-end : goal.returns-clause-end
returns-clause-end c = rest_end (1 + c.byte_len-size.result + (get_or c.args.body.now 0 0 + 1)) c.args.body.now (omega (arith, c.requires.room, c.byte_len-size.ensures))
