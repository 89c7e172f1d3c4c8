-- The count, and after it the first value of a sorted column.
use Rattle.std.proofs.Common.{◌≡◌, ◌-◌, ◌<◌, ℕ, List, length, sym, ◌∙◌, arith}
use Rattle.bitpack_groups.proofs.ForCallers.{lent_after, longest_number}
use Rattle.bitpack_columns.specs.Numbers.{number}
use Rattle.bitpack_columns.proofs.WriteLaws.{count_encoding, none_header, plain_header, sorted_header, written_after}
use Rattle.bitpack_columns.proofs.encoding.parts.write_header.Goals as goal

pub write_number-requires : goal.write_number-requires
write_number-requires c =
    let unchanged = c.write_count-len.auto.bytes in
    let few = c.write_count-len.ensures.within in
    record { room = omega (arith, longest_number c.args.first, lent_after c.write_count-len.result c.write_count-len.new.bytes) }

pub returns-in-Plain-clause-header : goal.returns-in-Plain-clause-header
returns-in-Plain-clause-header c = λ values long same.
    c.write_count-len.ensures.count ∙ sym (plain_header c.args.kind values c.args.count c.in-Plain.is long)

pub returns-in-Sorted-clause-header : goal.returns-in-Sorted-clause-header
returns-in-Sorted-clause-header c = λ values long same.
    c.write_count-len.ensures.count ∙ sym (none_header c.args.kind values c.args.count c.in-Sorted.is long c.if-count-eq0.true)

pub returns-in-Sorted-2-clause-header : goal.returns-in-Sorted-2-clause-header
returns-in-Sorted-2-clause-header c = λ values long same.
    let len : ℕ = c.write_count-len.result in
    let bytes : List ℕ = c.write_count-len.new.bytes in
    let unchanged = c.write_count-len.auto.bytes in
    let few = c.write_count-len.ensures.within in
    let some : 0 < c.args.count = omega arith in
    let rest : length c.write_number.new.bytes ≡ length bytes - len = c.write_number.auto.bytes ∙ lent_after len bytes in
    written_after len c.write_number.result bytes c.write_number.new.bytes (count_encoding c.args.kind c.args.count) (number c.args.first) (omega arith) rest
    c.write_count-len.ensures.count c.write_number.ensures.number
    ∙ sym (sorted_header c.args.kind values c.args.count c.args.first c.in-Sorted-2.is long some (same c.in-Sorted-2.is))
