-- The values are not refused, and their parts are measured.
use Rattle.std.proofs.Common.{◌≡◌, ◌*◌, ◌/◌, ◌≤◌, ℕ, List, length, get_or, refl, sym, ap, ◌∙◌, arith, rules, subst}
use Rattle.std.specs.Option.{option_map}
use Rattle.std.proofs.lemmas.List.{take_rest}
use Rattle.bitpacking.proofs.ForCallers.{AreWords-from_slice}
use Rattle.bitpack_columns.specs.declared.column_error.ColumnError.TheVariants.{NotSorted}
use Rattle.bitpack_columns.specs.declared.column_kind.ColumnKind.{ColumnKind}
use Rattle.bitpack_columns.specs.Measured.{AreWidths, first_fall, tail_after}
use Rattle.bitpack_columns.specs.Written.{refusal}
use Rattle.bitpack_columns.proofs.EncodeLaws.{planned}
use Rattle.bitpack_columns.proofs.FallLaws.{column_is, few_refused}
use Rattle.bitpack_columns.proofs.MeasureLaws.{total_few}
use Rattle.bitpack_columns.proofs.encoding.plan_column.Goals as goal

pub returns-in_err-test_order-clause-fault : goal.returns-in_err-test_order-clause-fault
returns-in_err-test_order-clause-fault c =
    let values : List ℕ = c.args.values.now in
    let same : refusal c.args.kind values ≡ option_map NotSorted (first_fall c.args.kind 0 c.first_of-first.result values) =
    few_refused c.args.kind values (omega arith) ∙ ap (λ (n : ℕ). option_map NotSorted (first_fall c.args.kind 0 n values)) (sym c.first_of-first.ensures) in
    rw same (search rules)

pub blocks_len-requires-clause-total : goal.blocks_len-requires-clause-total
blocks_len-requires-clause-total c =
    let values : List ℕ = c.args.values.now in
    let few = total_few c.args.kind c.first_of-first.result values (length values / 128) (AreWords-from_slice values c.type_inv.values) in
    omega (arith, few, c.measure_blocks-measured.ensures.measured.total_is)

pub returns-clause-fault : goal.returns-clause-fault
returns-clause-fault c =
    let values : List ℕ = c.args.values.now in
    few_refused c.args.kind values (omega arith) ∙ ap (λ (n : ℕ). option_map NotSorted (first_fall c.args.kind 0 n values)) (sym c.first_of-first.ensures) ∙ c.in_ok-test_order.ensures

pub returns-clause-column : goal.returns-clause-column
returns-clause-column c =
    let values : List ℕ = c.args.values.now in
    column_is c.args.kind values (omega arith) (AreWords-from_slice values c.type_inv.values)
    (ap (λ (n : ℕ). option_map NotSorted (first_fall c.args.kind 0 n values)) (sym c.first_of-first.ensures) ∙ c.in_ok-test_order.ensures)

pub returns-clause-plan : goal.returns-clause-plan
returns-clause-plan c =
    let values : List ℕ = c.args.values.now in
    let kind : ColumnKind = c.args.kind in
    let last : ℕ = c.measure_blocks-measured.result.last in
    let in_header : c.write_header-header_len.result ≤ length c.write_header-header_len.new.bytes = omega (arith, c.write_header-header_len.auto.bytes, c.write_header-header_len.ensures.within, c.requires.header) in
    let in_tail : c.write_tail-tail_len.result ≤ length c.write_tail-tail_len.new.bytes = omega (arith, c.write_tail-tail_len.auto.bytes, c.write_tail-tail_len.ensures.within, c.requires.tail) in
    planned kind values (get_or values 0 0) values c.first_of-first.result c.measure_blocks-measured.result.total c.measure_blocks-measured.result.greatest last
    c.write_header-header_len.result c.write_tail-tail_len.result c.blocks_len.result _ c.measure_blocks-measured.new.widths c.write_header-header_len.new.bytes
    c.write_tail-tail_len.new.bytes c.first_of-first.ensures c.measure_blocks-measured.ensures.measured
    (subst (λ (n : ℕ). AreWidths kind n values c.measure_blocks-measured.new.widths) c.first_of-first.ensures c.measure_blocks-measured.ensures.widths)
    in_header (c.write_header-header_len.ensures.header values refl (λ _. sym c.first_of-first.ensures))
    in_tail (c.write_tail-tail_len.ensures.tail ∙ ap (tail_after kind (length values / 128) last) (take_rest values (128 * (length values / 128))))
    c.blocks_len.ensures.len refl
