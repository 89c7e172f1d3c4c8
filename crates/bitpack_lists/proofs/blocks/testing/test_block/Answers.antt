-- The tests in their order find the first fault of a body, by its codes together.
use Rattle.std.proofs.Common.{◌≡◌, ℕ, ◌-◌, ◌*◌, ◌^◌, ◌<◌, ltb, ◌&&◌, List, length, get_or, sym, ◌∙◌, ap}
use Rattle.std.specs.List.{list_all}
use Rattle.bitpacking.specs.declared.kind.Kind.{Kind}
use Rattle.bitpacking.specs.Codes.{values_of}
use Rattle.bitpacking.specs.Layout.{codes_of}
use Rattle.bitpacking.specs.Width.{Fits}
use Rattle.bitpack_lists.specs.Parts.{is_loose}
use Rattle.bitpack_lists.proofs.lemmas.blocks.LooseLemmas.{fit_by_bits}
use Rattle.bitpack_lists.proofs.lemmas.blocks.RestFaults.{loose_body, other_last, right_body}
use Rattle.bitpack_lists.proofs.blocks.testing.test_block.Goals as goal

-- Codes fit a smaller width exactly if all their bits do.
loose_is : (lanes width bits : ℕ) (body codes : List ℕ) → ((w : ℕ) → bits < 2 ^ w → Fits codes w) → ((w : ℕ) → Fits codes w → bits < 2 ^ w)
    → codes ≡ codes_of lanes width body → is_loose lanes width body ≡ (ltb 0 width && ltb bits (2 ^ (width - 1)))
unfolding is_loose
loose_is lanes width bits body codes above below are =
    ap (λ xs. ltb 0 width && list_all (λ code. ltb code (2 ^ (width - 1))) xs) (sym are)
    ∙ ap (λ b. ltb 0 width && b) (fit_by_bits (width - 1) bits codes above below)

-- The last value is that of the block.
ends : (lanes width value : ℕ) (kind : Kind) (body codes : List ℕ) → length codes ≡ 32 * lanes → codes ≡ codes_of lanes width body
    → value ≡ get_or (values_of kind codes) (length codes - 1) 0 → get_or (values_of kind (codes_of lanes width body)) (32 * lanes - 1) 0 ≡ value
ends lanes width value kind body codes long are is =
    ap (λ n. get_or (values_of kind (codes_of lanes width body)) (n - 1) 0) (sym long)
    ∙ ap (λ xs. get_or (values_of kind xs) (length codes - 1) 0) (sym are) ∙ sym is

pub returns-then-fits_less : goal.returns-then-fits_less
returns-then-fits_less c = λ lanes body long are.
    let totals = c.add_codes-totals.ensures in
    loose_body lanes c.args.kind c.args.block c.args.entry.width c.args.entry.last body
    (loose_is lanes c.args.entry.width c.add_codes-totals.result.bits body c.args.codes.now totals.above totals.below are ∙ sym c.fits_less.ensures ∙ c.if-fits_less.true)

pub returns-then-last_value-entry : goal.returns-then-last_value-entry
returns-then-last_value-entry c = λ lanes body long are.
    let totals = c.add_codes-totals.ensures in
    other_last lanes c.args.kind c.args.block c.args.entry.width c.args.entry.last body
    (loose_is lanes c.args.entry.width c.add_codes-totals.result.bits body c.args.codes.now totals.above totals.below are ∙ sym c.fits_less.ensures ∙ c.if-fits_less.false)
    (λ e. c.if-last_value-entry.true
    (sym (ends lanes c.args.entry.width c.last_value.result c.args.kind body c.args.codes.now long are c.last_value.ensures) ∙ e))

pub returns : goal.returns
returns c = λ lanes body long are.
    let totals = c.add_codes-totals.ensures in
    right_body lanes c.args.kind c.args.block c.args.entry.width c.args.entry.last body
    (loose_is lanes c.args.entry.width c.add_codes-totals.result.bits body c.args.codes.now totals.above totals.below are ∙ sym c.fits_less.ensures ∙ c.if-fits_less.false)
    (ends lanes c.args.entry.width c.last_value.result c.args.kind body c.args.codes.now long are c.last_value.ensures ∙ c.if-last_value-entry.false)
