-- Slices of bytes are tested by falls.
use Rattle.std.proofs.Common.{◌≡◌, ◌∷◌, ap, ℕ, List, arith, drop, eqb-true, eq-eqb, get_or, length, sym, ◌∙◌}
use Rattle.std.proofs.lemmas.List.{drop_more, take_rest}
use Rattle.bitpack_slices.proofs.lemmas.bits.CountLaws.{bytes_are}
use Rattle.bitpack_slices.proofs.lemmas.bytes.DecodeLaws.{bytes_dropped}
use Rattle.bitpack_slices.proofs.lemmas.slices.EdgeLaws.{Told, numbers_under, told}
use Rattle.bitpack_slices.proofs.slice.testing.are_slices.Goals as goal
use Rattle.bitpack_slices.specs.Falls.{edges}

pub count_falls-requires-clause-few : goal.count_falls-requires-clause-few
count_falls-requires-clause-few c =
    let few = numbers_under c.args.counts.now (c.are_bytes.ensures c.if-are_bytes.true) in
    omega arith

pub returns-then-are_bytes : goal.returns-then-are_bytes
returns-then-are_bytes c =
    let counts : List ℕ = c.args.counts.now in
    let window : List ℕ = c.args.window.now in
    let cut = ap length (take_rest window 1) in
    let whole : window ≡ get_or window 0 0 ∷ drop 1 window = drop_more window 0 0 (omega arith) in
    let is : Told counts (get_or window 0 0) (drop 1 window) =
    told counts (get_or window 0 0) (drop 1 window) (c.are_bytes.ensures c.if-are_bytes.true) (bytes_dropped 1 window (bytes_are window (λ k. (c.type_inv.window k).fits))) (omega (arith, cut)) in
    let same : edges counts window ≡ edges counts (get_or window 0 0 ∷ drop 1 window) = ap (edges counts) whole in (
      λ e. is.yields (sym c.count_falls.ensures ∙ eqb-true _ _ e ∙ c.count_edges.ensures ∙ same),
      λ are. eq-eqb _ _ (c.count_falls.ensures ∙ is.needs are ∙ sym same ∙ sym c.count_edges.ensures),
    )
