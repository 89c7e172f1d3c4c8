-- Each byte's bit is in the byte that was looked up.
use Rattle.std.proofs.Common.{List, ℕ, ◌/◌, ◌%◌, ◌∙◌, ap, arith, sym, get_or, rules, Fits, w8}
use Rattle.std.proofs.lemmas.Simd.{Each1-get_or}
use Rattle.bitpack_slices.proofs.lemmas.bits.CountLaws.{bytes_are}
use Rattle.bitpack_slices.proofs.lemmas.slices.MatchLaws.{half_at, half_small, halves_join}
use Rattle.bitpack_slices.proofs.lemmas.bodies.ReadLaws.{has_bit}
use Rattle.bitpack_slices.proofs.slice.matches.half_in_bits.Goals as goal

pub returns-clause-few : goal.returns-clause-few
returns-clause-few c = half_small c.bytes_with.result c.ones_of-ones.result (search rules) (search rules)

pub returns-clause-matches : goal.returns-clause-matches
returns-clause-matches c i lt =
    let x = get_or c.args.bytes i 0 in
    let bits = c.args.bits.now in
    let fit : Fits w8 x = Each1-get_or (Fits w8) c.args.bytes i 0 (omega (arith, lt, c.fits-bytes.0)) c.fits-bytes.1 in
    half_at c.bytes_with.result c.ones_of-ones.result (search rules) (search rules) i (get_or bits (x / 8) 0) (x % 8) lt
    (c.bytes_with.ensures i lt ∙ ap (λ (l : List ℕ). get_or l (x / 8) 0) (halves_join bits c.requires)) (c.ones_of-ones.ensures i lt)
    ∙ sym (has_bit bits x (bytes_are bits (λ k. (c.type_inv.bits k).fits)) c.requires fit.fits)
