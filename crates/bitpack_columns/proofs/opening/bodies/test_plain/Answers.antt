-- The codes are at their least width, and the mark is the least value.
use Rattle.std.proofs.Common.{rules, ◌≡◌, ◌-◌, ◌^◌, ◌&&◌, Bool, true, false, ℕ, List, eqb, get_or, length, ltb, refl, sym, ◌∙◌, arith}
use Rattle.bitpacking.specs.Codes.{AreWords}
use Rattle.bitpacking.proofs.ForCallers.{AreWords-from_slice}
use Rattle.bitpack_groups.proofs.ForCallers.{loose_by_bits}
use Rattle.bitpack_columns.specs.declared.column_kind.ColumnKind.TheVariants.{Plain}
use Rattle.bitpack_columns.specs.Columns.{least}
use Rattle.bitpack_columns.specs.Numbers.{are_loose, greatest}
use Rattle.bitpack_columns.specs.Reads.{values_of}
use Rattle.bitpack_columns.proofs.LeastLaws.{greatest_above, greatest_fits, least_decided}
use Rattle.bitpack_columns.proofs.OpeningLaws.{codes_decided}
use Rattle.bitpack_columns.proofs.opening.bodies.test_plain.Goals as goal

loose_is : (width most : ℕ) (codes : List ℕ) (result : Bool) → most ≡ greatest (λ k. get_or codes k 0) (length codes)
    → result ≡ (ltb 0 width && ltb most (2 ^ (width - 1))) → are_loose width codes ≡ result
loose_is width most codes result is decides =
    loose_by_bits width most codes (λ w lt. greatest_above codes w (rw is at lt)) (λ w fits. rw is (greatest_fits codes w fits)) ∙ sym decides

pub returns-then-fits_less : goal.returns-then-fits_less
returns-then-fits_less c =
    let block = c.args.block in
    let codes : List ℕ = c.args.codes.now in
    codes_decided Plain block.index block.width block.mark block.mark codes true (eqb (least (values_of Plain block.mark codes)) block.mark)
    (loose_is block.width c.bounds-least.result.1 codes c.fits_less.result c.bounds-least.ensures.greatest c.fits_less.ensures ∙ c.if-fits_less.true) refl

pub returns-then-not-is_least : goal.returns-then-not-is_least
returns-then-not-is_least c =
    let block = c.args.block in
    let codes : List ℕ = c.args.codes.now in
    let words : AreWords codes = AreWords-from_slice codes (search rules) in
    codes_decided Plain block.index block.width block.mark block.mark codes false false
    (loose_is block.width c.bounds-least.result.1 codes c.fits_less.result c.bounds-least.ensures.greatest c.fits_less.ensures ∙ c.if-fits_less.false)
    (least_decided block.mark codes (omega arith) words (omega arith) c.bounds-least.result.0 c.bounds-least.result.1 c.is_least.result
    c.bounds-least.ensures.least c.bounds-least.ensures.greatest c.is_least.ensures ∙ c.if-not-is_least.true)

pub returns : goal.returns
returns c =
    let block = c.args.block in
    let codes : List ℕ = c.args.codes.now in
    let words : AreWords codes = AreWords-from_slice codes (search rules) in
    codes_decided Plain block.index block.width block.mark block.mark codes false true
    (loose_is block.width c.bounds-least.result.1 codes c.fits_less.result c.bounds-least.ensures.greatest c.fits_less.ensures ∙ c.if-fits_less.false)
    (least_decided block.mark codes (omega arith) words (omega arith) c.bounds-least.result.0 c.bounds-least.result.1 c.is_least.result
    c.bounds-least.ensures.least c.bounds-least.ensures.greatest c.is_least.ensures ∙ c.if-not-is_least.false)
