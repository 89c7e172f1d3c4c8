-- Byte 0, and the count after it if it is not there.
use Rattle.std.proofs.Common.{◌≡◌, ◌+◌, ◌-◌, ◌*◌, ℕ, List, length, set, refl, ◌∙◌, arith}
use Rattle.std.specs.Prelude.{min}
use Rattle.std.proofs.lemmas.List.{length-set}
use Rattle.bitpack_groups.proofs.ForCallers.{lent_after, longest_number}
use Rattle.bitpack_columns.specs.Columns.{kind_bit}
use Rattle.bitpack_columns.specs.Numbers.{number}
use Rattle.bitpack_columns.proofs.WriteLaws.{few_count, many_count, written_after}
use Rattle.bitpack_columns.proofs.encoding.parts.write_count.Goals as goal

pub returns-then-count-lt-MANY-clause-count : goal.returns-then-count-lt-MANY-clause-count
returns-then-count-lt-MANY-clause-count c =
    let byte : ℕ = c.kind_byte.result + c.min.result in
    let is : byte ≡ 64 + 32 * kind_bit c.args.kind + min c.args.count 31 = omega (arith, c.kind_byte.ensures, c.min.ensures) in
    few_count c.args.kind c.args.count byte c.args.bytes.now (omega arith) is c.if-count-lt-MANY.true

pub write_number-requires : goal.write_number-requires
write_number-requires c =
    let bytes : List ℕ = set c.args.bytes.now 0 (c.kind_byte.result + c.min.result) in
    record { room = omega (arith, longest_number c.args.count, lent_after 1 bytes, length-set c.args.bytes.now 0 (c.kind_byte.result + c.min.result)) }

pub returns-clause-count : goal.returns-clause-count
returns-clause-count c =
    let byte : ℕ = c.kind_byte.result + c.min.result in
    let bytes : List ℕ = set c.args.bytes.now 0 byte in
    let is : byte ≡ 64 + 32 * kind_bit c.args.kind + min c.args.count 31 = omega (arith, c.kind_byte.ensures, c.min.ensures) in
    let same = length-set c.args.bytes.now 0 byte in
    let long : length c.write_number.new.bytes ≡ length bytes - 1 = c.write_number.auto.bytes ∙ lent_after 1 bytes in
    written_after 1 c.write_number.result bytes c.write_number.new.bytes _ (number c.args.count) (omega arith) long refl c.write_number.ensures.number
    ∙ many_count c.args.kind c.args.count byte c.args.bytes.now (omega arith) is c.if-count-lt-MANY.false

pub returns-clause-within : goal.returns-clause-within
returns-clause-within c = omega (arith, longest_number c.args.count, c.write_number.ensures.len)
