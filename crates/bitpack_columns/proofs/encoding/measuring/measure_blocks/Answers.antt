-- One block more is measured.
use Rattle.std.proofs.Common.{◌≡◌, ◌+◌, ◌-◌, ◌*◌, ◌≤◌, ℕ, List, length, arith}
use Rattle.std.specs.Prelude.{max}
use Rattle.std.proofs.lemmas.Bool.{and_parts}
use Rattle.bitpacking.proofs.ForCallers.{AreWords-from_slice}
use Rattle.bitpacking.specs.Codes.{AreWords}
use Rattle.bitpack_columns.specs.Columns.{block_of}
use Rattle.bitpack_columns.specs.declared.column_kind.ColumnKind.{ColumnKind}
use Rattle.bitpack_columns.proofs.MeasureLaws.{Caches, block_words, caches_past, caches_set, measured_done, measured_more, measured_start, sorted_goes}
use Rattle.bitpack_columns.proofs.OpenedLaws.{length-block_of}
use Rattle.bitpack_columns.proofs.encoding.measuring.measure_blocks.Goals.{then-index-widths, else-index-widths}
use Rattle.bitpack_columns.proofs.encoding.measuring.measure_blocks.Goals as goal

pub loop-index-init : goal.loop-index-init
loop-index-init c = measured_start c.args.kind c.args.before c.args.values.now c.args.widths.now

pub loop-index-preserved : goal.loop-index-preserved
loop-index-preserved c =
    let kind : ColumnKind = c.args.kind in
    let values : List ℕ = c.args.values.now in
    let i : ℕ = c.loop-index.index in
    let last : ℕ = c.loop-index.last in
    let mark : ℕ = c.measure_block-mark.result.0 in
    let width : ℕ = c.measure_block-mark.result.1 in
    let within : 128 * i + 128 ≤ length values = omega arith in
    let cut : 128 * i + 128 - 128 * i ≡ 128 = omega arith in
    let words : AreWords (block_of i values) = block_words i values (AreWords-from_slice values c.type_inv.values) in
    let mark_is = rw cut at c.measure_block-mark.ensures.mark in
    let width_is = rw cut at c.measure_block-mark.ensures.width in
    let caches : Caches i width c.loop-index.widths c.if-index-widths.widths = elim c.if-index-widths.branch [
      | then-index-widths w ↦ rw w.widths-is (caches_set i width c.loop-index.widths)
      | else-index-widths w ↦ rw w.widths-is (caches_past i width c.loop-index.widths w.if-index-widths.false)
    ] in
    let top : c.max-greatest.result ≡ max c.loop-index.greatest mark = omega (arith, c.max-greatest.ensures) in
    rw top
    (measured_more kind c.args.before values i c.loop-index.total c.loop-index.greatest last c.loop-index.widths c.loop-index.rises c.loop-index.invariant within mark width
    c.if-index-widths.widths _ mark_is width_is c.measure_block-mark.ensures.narrow caches
    (λ yes.
    let (so_far, here) = and_parts _ _ yes in (
      so_far,
      λ is.
          let (ends, fits) = sorted_goes kind last mark width (block_of i values) is words mark_is width_is in
          c.ends_in_order-rises.ensures here (block_of i values) (length-block_of values i within) words ends fits,
    )))

pub returns-clause-measured : goal.returns-clause-measured
returns-clause-measured c =
    (measured_done c.args.kind c.args.before c.args.values.now c.loop-index.index c.loop-index.total c.loop-index.greatest c.loop-index.last c.loop-index.widths c.loop-index.rises c.loop-index.invariant
    (omega arith)).0

pub returns-clause-widths : goal.returns-clause-widths
returns-clause-widths c =
    (measured_done c.args.kind c.args.before c.args.values.now c.loop-index.index c.loop-index.total c.loop-index.greatest c.loop-index.last c.loop-index.widths c.loop-index.rises c.loop-index.invariant
    (omega arith)).1

pub returns-clause-rises : goal.returns-clause-rises
returns-clause-rises c =
    (measured_done c.args.kind c.args.before c.args.values.now c.loop-index.index c.loop-index.total c.loop-index.greatest c.loop-index.last c.loop-index.widths c.loop-index.rises c.loop-index.invariant
    (omega arith)).2
