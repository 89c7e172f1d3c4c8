-- What is copied and what is packed are measured together.
use Rattle.std.proofs.Common.{◌≡◌, ◌+◌, ◌-◌, ◌*◌, ◌/◌, ◌≤◌, ◌++◌, ℕ, List, length, get_or, take, drop, cond, eqb, refl, sym, ap, ◌∙◌, arith, subst, length-append}
use Rattle.std.specs.Prelude.{max}
use Rattle.std.proofs.lemmas.List.{take_rest}
use Rattle.bitpack_columns.specs.declared.column_kind.ColumnKind.{ColumnKind}
use Rattle.bitpack_columns.specs.Columns.{mark_in}
use Rattle.bitpack_columns.specs.Measured.{AreWidths, IsMeasured, extended, packed_after, tail_after}
use Rattle.bitpack_columns.specs.Numbers.{byte_count, greatest}
use Rattle.bitpack_columns.specs.Opened.{blocks_of, values}
use Rattle.bitpack_columns.proofs.EncodeLaws.{planned}
use Rattle.bitpack_columns.proofs.CopiedLaws.{copied_measured, extended_long, measured_few}
use Rattle.bitpack_columns.proofs.SplitLaws.{all_blocks, left_both, tail_back}
use Rattle.bitpack_columns.proofs.appending.planning.plan_after.Goals as goal

pub overflow_add-all : goal.overflow_add-all
overflow_add-all c =
    let column = c.args.column.now in
    let packed : List ℕ = c.args.filled.now ++ c.args.later.now in
    let all : List ℕ = extended column packed in
    let most : ℕ = greatest (mark_in column.kind (values column)) (blocks_of column) in
    let measured = c.measure_both-measured.result in
    let whole = copied_measured column packed c.copied_total.result most c.value_after-before.result measured.total measured.greatest measured.last
    c.copied_total.ensures refl c.value_after-before.ensures c.measure_both-measured.ensures.measured in
    let few = measured_few column.kind all (get_or all 0 0) (c.copied_total.result + measured.total) (max most measured.greatest) measured.last c.requires.column whole in
    record { fits = omega (arith, few) }

pub blocks_len-requires-clause-total : goal.blocks_len-requires-clause-total
blocks_len-requires-clause-total c =
    let column = c.args.column.now in
    let packed : List ℕ = c.args.filled.now ++ c.args.later.now in
    let all : List ℕ = extended column packed in
    let most : ℕ = greatest (mark_in column.kind (values column)) (blocks_of column) in
    let measured = c.measure_both-measured.result in
    let whole = copied_measured column packed c.copied_total.result most c.value_after-before.result measured.total measured.greatest measured.last
    c.copied_total.ensures refl c.value_after-before.ensures c.measure_both-measured.ensures.measured in
    let few = measured_few column.kind all (get_or all 0 0) (c.copied_total.result + measured.total) (max most measured.greatest) measured.last c.requires.column whole in
    few

pub returns-clause-plan : goal.returns-clause-plan
returns-clause-plan c =
    let column = c.args.column.now in
    let kind : ColumnKind = column.kind in
    let filled : List ℕ = c.args.filled.now in
    let later : List ℕ = c.args.later.now in
    let packed : List ℕ = filled ++ later in
    let k : ℕ = blocks_of column in
    let le : 128 * k ≤ length (values column) = omega arith in
    let all : List ℕ = extended column packed in
    let first : ℕ = get_or all 0 0 in
    let measured = c.measure_both-measured.result in
    let total : ℕ = c.copied_total.result + measured.total in
    let top : c.max.result ≡ max c.front_greatest.result measured.greatest = omega (arith, c.max.ensures) in
    let whole : IsMeasured kind first all total (max c.front_greatest.result measured.greatest) measured.last =
    copied_measured column packed c.copied_total.result c.front_greatest.result c.value_after-before.result measured.total measured.greatest measured.last
    c.copied_total.ensures c.front_greatest.ensures.mark c.value_after-before.ensures c.measure_both-measured.ensures.measured in
    let cached : AreWidths kind (packed_after column packed) packed c.measure_both-measured.new.widths =
    subst (λ (n : ℕ). AreWidths kind n packed c.measure_both-measured.new.widths) c.value_after-before.ensures c.measure_both-measured.ensures.widths in
    let count : length filled + length later ≡ length packed = sym (length-append filled later) in
    let blocks : c.blocks-copied.result + (length filled + length later) / 128 ≡ length all / 128 =
    ap (λ (n : ℕ). n + (length filled + length later) / 128) c.blocks-copied.ensures ∙ ap (λ (n : ℕ). k + n / 128) count ∙ sym (all_blocks (values column) packed k le) in
    let long : length all ≡ 128 * c.blocks-copied.result + (length filled + length later) =
    extended_long column filled later ∙ ap (λ (n : ℕ). 128 * n + (length filled + length later)) (sym c.blocks-copied.ensures) in
    let from : ℕ = 128 * (length later / 128) in
    let left : take (length later - from) (drop from later) ≡ drop (128 * (length all / 128)) all =
    take_rest later from ∙ sym (left_both filled later c.requires.whole) ∙ sym (tail_back (values column) packed k le) in
    let in_header : c.write_header-header_len.result ≤ length c.write_header-header_len.new.bytes = omega (arith, c.write_header-header_len.auto.bytes, c.write_header-header_len.ensures.within, c.requires.header) in
    let in_tail : c.write_tail-tail_len.result ≤ length c.write_tail-tail_len.new.bytes = omega (arith, c.write_tail-tail_len.auto.bytes, c.write_tail-tail_len.ensures.within, c.requires.tail) in
    planned kind all (packed_after column packed) packed first total c.max.result measured.last c.write_header-header_len.result c.write_tail-tail_len.result c.blocks_len.result _
    c.measure_both-measured.new.widths c.write_header-header_len.new.bytes c.write_tail-tail_len.new.bytes refl
    (subst (λ (n : ℕ). IsMeasured kind first all total n measured.last) (sym top) whole) cached
    in_header (c.write_header-header_len.ensures.header all long (λ is. sym (c.first_of_all-first.ensures is)))
    in_tail (c.write_tail-tail_len.ensures.tail ∙ ap (tail_after kind (c.blocks-copied.result + (length filled + length later) / 128) measured.last) left
    ∙ ap (λ (b : ℕ). tail_after kind b measured.last (drop (128 * (length all / 128)) all)) blocks)
    (c.blocks_len.ensures.len ∙ ap (λ (b : ℕ). cond (eqb b 0) 0 (1 + (byte_count total + byte_count c.max.result) * b + 16 * total)) blocks)
    refl
