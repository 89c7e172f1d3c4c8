-- The bits are those of the numbers that the operation gives.
use Rattle.std.proofs.Common.{◌∙◌, List, ap, arith, length, sym, ℕ}
use Rattle.bitpack_slices.proofs.ForCallers.{those_same}
use Rattle.bitpack_slices.specs.Bitmaps.{has_bit}
use Rattle.bitpack_slices.specs.Lists.{body_lows}
use Rattle.bitpack_slices.specs.Operations.{apply, those}
use Rattle.bitpack_slices.specs.Reads.{has}
use Rattle.bitpack_sets.proofs.lemmas.written.CombinedLaws.{has_none, written_small}
use Rattle.bitpack_sets.proofs.encoding.combining.write_bits.Goals as goal
use Rattle.bitpack_sets.specs.Sets.{body}

pub combine_bits-requires-clause-clear : goal.combine_bits-requires-clause-clear
combine_bits-requires-clause-clear c x = has_none 1024 x

pub returns-then-count-eq0-clause-count : goal.returns-then-count-eq0-clause-count
returns-then-count-eq0-clause-count c =
    let same = those_same 65536 (has_bit c.combine_bits.new.words) (λ x. apply c.args.operation (has x (body_lows c.args.a)) (has x (body_lows c.args.b))) c.combine_bits.ensures in
    sym c.if-count-eq0.true ∙ c.count_words-count.ensures.count ∙ ap length same

pub returns-clause-count : goal.returns-clause-count
returns-clause-count c =
    let same = those_same 65536 (has_bit c.combine_bits.new.words) (λ x. apply c.args.operation (has x (body_lows c.args.a)) (has x (body_lows c.args.b))) c.combine_bits.ensures in
    c.count_words-count.ensures.count ∙ ap length same

pub returns-clause-small : goal.returns-clause-small
returns-clause-small c =
    let numbers : List ℕ = those 65536 (has_bit c.combine_bits.new.words) in
    let few = c.write_body.ensures.few in
    let long = c.write_body.array_long in
    let many = c.count_words-count.ensures.count in
    let none = c.if-count-eq0.false in
    let small = written_small c.write_body.result c.write_body.new.out numbers (omega arith) c.write_body.ensures.written (omega arith) in
    omega arith

pub returns-clause-written : goal.returns-clause-written
returns-clause-written c some =
    let same = those_same 65536 (has_bit c.combine_bits.new.words) (λ x. apply c.args.operation (has x (body_lows c.args.a)) (has x (body_lows c.args.b))) c.combine_bits.ensures in
    c.write_body.ensures.written ∙ ap body same
