-- The first value, then the sums, then each value.
use Rattle.std.proofs.Common.{rules, ◌≡◌, ◌<◌, Bool, Decides, true, false, ℕ, List, get_or, length, ap, arith, inl, inr, sym, ◌∙◌}
use Rattle.std.proofs.lemmas.Bool.{cases_lt}
use Rattle.bitpacking.proofs.ForCallers.{AreWords-from_slice}
use Rattle.bitpack_columns.specs.declared.column_kind.ColumnKind.TheVariants.{Sorted}
use Rattle.bitpack_columns.specs.Opening.{out_from}
use Rattle.bitpack_columns.specs.Reads.{values_of}
use Rattle.bitpack_columns.proofs.OutLaws.{out_below, out_start, sums_rise}
use Rattle.bitpack_columns.proofs.opening.order.first_out.Goals as goal

-- the first code is 0 unless the values start late
starts : (position : ℕ) (codes : List ℕ) (late : Bool) → Decides late ((position ≡ 0) × (0 < length codes) × (0 < get_or codes 0 0)) → late ≡ false
    → position ≡ 0 → 0 < length codes → get_or codes 0 0 ≡ 0
starts position codes late decides is_not none some = elim (cases_lt 0 (get_or codes 0 0)) [
  | inl above ↦
      let yes : late ≡ true = decides.1 (none, some, above) in
      absurd cc
  | inr zero ↦ omega arith
]

pub returns-then-starts_late : goal.returns-then-starts_late
returns-then-starts_late c =
    let codes : List ℕ = c.args.codes.now in
    let is = c.starts_late.ensures.0 c.if-starts_late.true in
    let words = AreWords-from_slice codes (search rules) in
    sym (ap (λ (n : ℕ). out_from Sorted n c.args.before (values_of Sorted c.args.before codes)) is.0
    ∙ out_start c.args.before codes c.ranges.before.fits is.1 is.2 (words 0 0 is.1))

pub returns-then-rises : goal.returns-then-rises
returns-then-rises c =
    let codes : List ℕ = c.args.codes.now in
    let below = c.rises.ensures c.if-rises.true codes c.requires.len c.requires.totals in
    sym (out_below c.args.position c.args.before codes c.ranges.before.fits
    (starts c.args.position codes c.starts_late.result c.starts_late.ensures c.if-starts_late.false)
    ∙ sums_rise c.args.position c.args.before codes below)

pub returns : goal.returns
returns c =
    let codes : List ℕ = c.args.codes.now in
    c.first_fall.ensures ∙ sym (out_below c.args.position c.args.before codes c.ranges.before.fits
    (starts c.args.position codes c.starts_late.result c.starts_late.ensures c.if-starts_late.false))
